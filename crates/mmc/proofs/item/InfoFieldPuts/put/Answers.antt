-- `mmc::item::InfoFieldPuts::put`: no item is longer than 131 bytes. Assumes nothing.
use native.Mathlib.Omega.{arith}
use mathlib.Core.Path.{ap}
use Rattle.mmc.proofs.Writing.ItemPuts.{field_small}
use Rattle.mmc.proofs.item.InfoFieldPuts.put.Goals as goal

pub returns-clause-length_at_most : goal.returns-clause-length_at_most
returns-clause-length_at_most c =
    omega (arith, ap (λ o. o.len) c.put_field.ensures.result_value, field_small c.args.source.now c.args.self)
