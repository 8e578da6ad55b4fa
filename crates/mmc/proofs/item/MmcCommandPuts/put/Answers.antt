-- `mmc::item::MmcCommandPuts::put`: no item is longer than 131 bytes. Assumes nothing.
use native.Mathlib.Omega.{arith}
use mathlib.Core.Path.{ap}
use Rattle.mmc.proofs.Writing.ItemPuts.{command_small}
use Rattle.mmc.proofs.item.MmcCommandPuts.put.Goals as goal

pub returns-clause-length_at_most : goal.returns-clause-length_at_most
returns-clause-length_at_most c =
    omega (arith, ap (λ o. o.len) c.put_command.ensures.result_value, command_small c.args.source.now c.args.self)
