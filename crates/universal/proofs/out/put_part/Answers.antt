-- `universal::out::put_part` meets its contract: past the end nothing, else as much of the source as fits. Assumes nothing.
use mathlib.Core.Path.{refl, sym}
use mathlib.Core.Logic.{inl, inr, ⊎_elim}
use Prim.Native.Nat.{◌-◌}
use lib.ListN.{length}
use Rattle.std.proofs.lemmas.Bool.{cases_lt}
use native.Mathlib.Omega.{arith}
use Rattle.universal.proofs.Laws.{overlay_none, overlay_past}
use Rattle.universal.proofs.Overlays.{copied_turn, copied_all}
use Rattle.universal.proofs.out.put_part.Goals as goal

pub returns-then-out-at : goal.returns-then-out-at
returns-then-out-at c = sym (overlay_past _ _ _ c.if-out-at.true)

pub loop-i-init : goal.loop-i-init
loop-i-init c =
    record {
      inside = omega arith;
      source = omega (arith, c.min-end.ensures);
      room = omega (arith, c.min-end.ensures, c.if-out-at.false);
      most =
          ⊎_elim (λ l. inl (omega (arith, c.min-end.ensures))) (λ g. inr (omega (arith, c.min-end.ensures)))
          (cases_lt (length c.args.out.now - c.args.at) (length c.args.bytes.now));
      kept = refl;
      holds = sym (overlay_none _ _);
    }

pub loop-i-preserved : goal.loop-i-preserved
loop-i-preserved c = copied_turn _ _ _ _ _ _ c.loop-i.invariant c.loop-i-test.true

pub returns : goal.returns
returns c = copied_all _ _ _ _ _ _ c.loop-i.invariant c.loop-i-test.false
