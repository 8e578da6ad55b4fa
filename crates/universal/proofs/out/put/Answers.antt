-- `universal::out::put` meets its contract: a store where there is room, and past the end nothing changes. Assumes nothing.
use mathlib.Core.Path.{refl, sym}
use native.Mathlib.Omega.{arith}
use lib.Seq.{set_out}
use Rattle.universal.specs.Overlay.{overlay}
use Rattle.universal.proofs.out.put.Goals as goal

pub returns-then-at-out : goal.returns-then-at-out
unfolding overlay
returns-then-at-out c = refl

pub returns-else-at-out : goal.returns-else-at-out
unfolding overlay
returns-else-at-out c = sym (set_out _ _ _ (omega arith))
