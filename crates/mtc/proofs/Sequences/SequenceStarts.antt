-- When the first piece of a direction starts a sequence. Assumes nothing.
use Rattle.std.specs.Prelude.{Option, Some, None}
use Prim.Native.Nat.{ℕ, ◌<◌}
use mathlib.Core.List.{List}
use mathlib.Core.Logic.{inl, inr}
use mathlib.Core.Path.{◌≡◌, refl, sym, subst, ap, ◌∙◌}
use native.Mathlib.Omega.{arith}
use Rattle.mtc.specs.Generator.{first, final, opposite}
use Rattle.mtc.specs.Reader.{Standing, Control, control, starts, order_of, number_of}
use Rattle.mtc.specs.Ready.{Starts, NotAgainst}
use Rattle.mtc.specs.declared.generator.Direction.{Direction}
use Rattle.mtc.specs.declared.generator.Direction.TheVariants.{Forward, Reverse}
use Rattle.mtc.specs.declared.reader.MtcReader.{MtcReader}
use Rattle.mtc.proofs.Sequences.ReaderShapes.{nth_piece, Shape, idle, one_piece, going, Number, none_begun, begins_one, next_one, number_cases, first_piece, a_start}

-- ---- what it then leaves

-- The direction that it leaves is none, or its own.
pub not_against : (d : Direction) (c : Control) → Starts d c → NotAgainst d (order_of c (first d)).direction
unfolding number_of
not_against d c e = go _ e (number_cases o.next c.count (starts o.direction (first d)))
  where
    o : Standing
    o = order_of c (first d)

    go : (n : ℕ) → n ≡ 1 → Number o.next c.count (starts o.direction (first d)) n → NotAgainst d o.direction
    go n e (none_begun z _) = absurd (omega (arith, e, z))
    go n e (begins_one _ b) = a_start d o.direction b
    go n e (next_one _ z q) = absurd (z (omega (arith, e, q)))

-- ---- when it does

abbrev control_with : ℕ → ℕ → Option ℕ → Option Direction → Control
control_with c f l m = record { count = c; first = f; last = l; direction = m }

-- As the first piece of all, or after a full message, where the direction is not the other one.
pub starts_anew : (d : Direction) (c f : ℕ) (m : Option Direction) → NotAgainst d m → Starts d (control_with c f None m)
unfolding order_of number_of
starts_anew Forward c f m (inl e) = rw e refl
starts_anew Forward c f m (inr e) = rw e refl
starts_anew Reverse c f m (inl e) = rw e refl
starts_anew Reverse c f m (inr e) = rw e refl

-- After the direction's last piece, where none is held, whatever the direction was.
pub starts_next : (d : Direction) (f : ℕ) (m : Option Direction) → Starts d (control_with 0 f (Some (final d)) m)
unfolding order_of number_of
starts_next Forward f None = refl
starts_next Forward f (Some Forward) = refl
starts_next Forward f (Some Reverse) = refl
starts_next Reverse f None = refl
starts_next Reverse f (Some Forward) = refl
starts_next Reverse f (Some Reverse) = refl

-- After that piece, where it was the first one and gave no direction yet.
starts_second : (d : Direction) → Starts d (control_with 1 (first (opposite d)) (Some (final d)) None)
unfolding order_of number_of
starts_second Forward = refl
starts_second Reverse = refl

-- After that piece, where the direction was the other one.
starts_turned : (d : Direction) (c f : ℕ) → Starts d (control_with c f (Some (final d)) (Some (opposite d)))
unfolding order_of number_of
starts_turned Forward c f = refl
starts_turned Reverse c f = refl

-- Before a direction's last piece is the eighth, it is one of the other direction.
other_way : (d e : Direction) (k : ℕ) → k < 7 → nth_piece e k ≡ final d → e ≡ opposite d
other_way Forward Forward k l h = absurd (omega arith)
other_way Forward Reverse k l h = refl
other_way Reverse Forward k l h = refl
other_way Reverse Reverse k l h = absurd (omega arith)

same_piece : (p q : ℕ) → Some p ≡ Some q → p ≡ q
same_piece p q e = cc

-- So after that piece in any reader that calls leave.
pub starts_after_last : (d : Direction) (bs : List ℕ) (r : MtcReader) → Shape bs r → r.last ≡ Some (final d) → Starts d (control r)
starts_after_last d bs r (idle c) e =
    subst (Starts d) (sym (λ i. control_with (c i) r.first (e i) r.direction)) (starts_next d r.first r.direction)
starts_after_last d bs r (one_piece f c s l n h) e =
    let w : f ≡ opposite d = other_way d f 0 (omega arith) (sym (first_piece f) ∙ same_piece _ _ (sym l ∙ e)) in
    let s' : r.first ≡ first (opposite d) = s ∙ ap first w in
    subst (Starts d) (sym (λ i. control_with (c i) (s' i) (e i) (n i))) (starts_second d)
starts_after_last d bs r (going f k s c l n h) e =
    let w : f ≡ opposite d = other_way d f k s (same_piece _ _ (sym l ∙ e)) in
    let n' : r.direction ≡ Some (opposite d) = n ∙ ap Some w in
    subst (Starts d) (sym (λ i. control_with r.count r.first (e i) (n' i))) (starts_turned d r.count r.first)
