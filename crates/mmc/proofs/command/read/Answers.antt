-- `mmc::command::read` meets its contract. Assumes nothing.
use Prim.Native.Nat.{ℕ}
use mathlib.Core.List.{List}
use mathlib.Core.Path.{◌≡◌, sym, ap, ◌∙◌}
use native.Mathlib.Omega.{arith}
use lib.ListN.{length, get_or}
use Rattle.mmc.specs.Command.{read_command, command_by_name}
use Rattle.mmc.proofs.command.read.Goals as goal

pub returns-in-1 : goal.returns-in-1
unfolding read_command command_by_name
returns-in-1 c =
    let n : length c.of.result.now ≡ 1 = omega arith in
    rw (ap length (sym c.of.ensures) ∙ n, ap (λ (name : List ℕ). get_or name 0 0) (sym c.of.ensures) ∙ c.in-1.is)
