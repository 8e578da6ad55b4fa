-- The labels that drop-frame skips: what holds of one, and what it counts as. Assumes nothing.
use Prim.Native.Nat.{ℕ, ◌+◌, ◌-◌, ◌*◌, ◌/◌, ◌%◌, ◌≤◌, ◌<◌}
use mathlib.Core.Path.{◌≡◌, refl, ap}
use mathlib.Core.Bool.{Bool, true, false, not, ◌&&◌}
use mathlib.Core.Logic.{inr}
use native.Mathlib.Omega.{arith}
use borrow.Author.Tests.{ltb-true, eqb-true, eqb-false}
use lib.Dec.{T, ltb, eqb}
use Rattle.labels.specs.declared.time.MtcTime.{MtcTime}
use Rattle.labels.specs.declared.time.TimeCodeType.TheVariants.{Fps30Drop}
use Rattle.labels.specs.St12.{label, is_drop_frame, is_skipped, is_valid}
use Rattle.labels.specs.Time.{day_of, formula, frame_count}
use Rattle.labels.proofs.Rates.{drop_rate}
use Rattle.labels.proofs.Validity.{in_range_valid}

-- What holds of it.
pub record Skipped (t : MtcTime) : Type 0 where
  pub drop : t.rate ≡ Fps30Drop
  pub start : t.seconds ≡ 0
  pub low : t.frames < 2
  pub minute : t.minutes % 10 ≡ 0 → ⊥

pub skipped_facts : (t : MtcTime) → T (is_skipped t) → Skipped t
unfolding is_skipped
skipped_facts t = go (is_drop_frame t.rate) (eqb t.seconds 0) (ltb t.frames 2) (eqb (t.minutes % 10) 0) refl refl refl refl
  where
    go : (a b c d : Bool) → is_drop_frame t.rate ≡ a → eqb t.seconds 0 ≡ b → ltb t.frames 2 ≡ c → eqb (t.minutes % 10) 0 ≡ d
        → T (a && (b && (c && not d))) → Skipped t
    go true true true false ea eb ec ed h =
        record {
          drop = drop_rate t.rate ea;
          start = eqb-true _ _ eb;
          low = ltb-true _ _ ec;
          minute = eqb-false _ _ ed;
        }
    go true true true true ea eb ec ed h = absurd h
    go true true false d ea eb ec ed h = absurd h
    go true false c d ea eb ec ed h = absurd h
    go false b c d ea eb ec ed h = absurd h

-- ---- what it counts as

-- The start of a minute that skips two numbers, and the place two frames earlier.
same_formula : (h m f : ℕ) → (m % 10 ≡ 0 → ⊥)
    → formula Fps30Drop (h * 60 + m) 0 f ≡ formula Fps30Drop (h * 60 + (m - 1)) 59 (28 + f)
same_formula h m f n =
    let a : 1 ≤ m = omega arith in
    let b : (h * 60 + (m - 1)) / 10 ≡ (h * 60 + m) / 10 = omega arith in
    omega arith

-- It counts as the label two frames earlier, which stands in the minute before.
pub skipped_two_earlier : (t : MtcTime) → T (is_skipped t)
    → frame_count t ≡ frame_count (label t.rate t.hours (t.minutes - 1) 59 (28 + t.frames))
unfolding frame_count
skipped_two_earlier t x =
    let k : Skipped t = skipped_facts t x in
    rw (k.drop, k.start) (ap (λ (n : ℕ). n % day_of Fps30Drop) (same_formula t.hours t.minutes t.frames k.minute))

-- Where hours and minutes are in range, there is that label.
pub two_earlier_valid : (t : MtcTime) → T (is_skipped t) → t.hours ≤ 23 → t.minutes ≤ 59
    → T (is_valid (label t.rate t.hours (t.minutes - 1) 59 (28 + t.frames)))
two_earlier_valid t x h m =
    let k : Skipped t = skipped_facts t x in
    let small : 28 + t.frames < 30 = omega (arith, k.low) in
    in_range_valid t.rate t.hours (t.minutes - 1) 59 (28 + t.frames) h (omega arith) (omega arith) (rw k.drop small)
    (λ e. inr (omega arith))
