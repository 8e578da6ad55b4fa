-- A valid label by its facts, and back: the ranges of its four numbers, and that drop-frame does not skip it. Assumes nothing.
use Prim.Native.Nat.{ℕ, ◌+◌, ◌*◌, ◌%◌, ◌≤◌, ◌<◌}
use mathlib.Core.Path.{◌≡◌, refl, sym, subst}
use mathlib.Core.Bool.{Bool, true, false, not, ◌&&◌}
use mathlib.Core.Logic.{◌⊎◌, inl, inr}
use native.Mathlib.Omega.{arith}
use borrow.Author.Tests.{leb-true, ltb-true, ltb-false, eqb-true, eqb-false, eq-eqb, le-ltb}
use lib.Dec.{T, leb, ltb, eqb, le→leb, lt→ltb}
use Rattle.labels.specs.declared.time.MtcTime.{MtcTime}
use Rattle.labels.specs.declared.time.TimeCodeType.{TimeCodeType}
use Rattle.labels.specs.declared.time.TimeCodeType.TheVariants.{Fps24, Fps25, Fps30Drop, Fps30}
-- What holds of a valid label.
pub use Rattle.labels.specs.Time.{InRange, Widths}
use Rattle.labels.specs.St12.{label, frames_per_second, is_drop_frame, is_skipped, is_valid}
use Rattle.labels.proofs.Rates.{fps_small}

-- ---- tests joined

pub and_both : (a b : Bool) → T a → T b → T (a && b)
and_both true b g h = h
and_both false b g h = g

pub no_not : (b : Bool) → b ≡ false → T (not b)
no_not b e = subst (λ (x : Bool). T (not x)) (sym e) tt

-- ---- what drop-frame keeps

-- A minute that skips nothing, or a place past the skipped numbers.
abbrev pub NotDropped : ℕ → ℕ → ℕ → Type 0
NotDropped m s f = (m % 10 ≡ 0) ⊎ (2 ≤ s * 30 + f)

pub skipped_kept : (h m s f : ℕ) → is_skipped (label Fps30Drop h m s f) ≡ false → NotDropped m s f
unfolding is_skipped
skipped_kept h m s f = go (eqb s 0) (ltb f 2) (eqb (m % 10) 0) refl refl refl
  where
    go : (a b c : Bool) → eqb s 0 ≡ a → ltb f 2 ≡ b → eqb (m % 10) 0 ≡ c → (a && (b && not c)) ≡ false → NotDropped m s f
    go false b c ea eb ec e = inr (past (eqb-false s 0 ea))
      where
        past : (s ≡ 0 → ⊥) → 2 ≤ s * 30 + f
        past k = omega arith
    go true false c ea eb ec e = inr (omega (arith, ltb-false f 2 eb))
    go true true true ea eb ec e = inl (eqb-true (m % 10) 0 ec)
    go true true false ea eb ec e = absurd (subst T e tt)

pub kept_skipped : (h m s f : ℕ) → NotDropped m s f → is_skipped (label Fps30Drop h m s f) ≡ false
unfolding is_skipped
kept_skipped h m s f (inl e) = rw (eq-eqb (m % 10) 0 e) (last (eqb s 0) (ltb f 2))
  where
    last : (a b : Bool) → (a && (b && false)) ≡ false
    last false b = refl
    last true false = refl
    last true true = refl
kept_skipped h m s f (inr k) = go (eqb s 0) refl
  where
    go : (a : Bool) → eqb s 0 ≡ a → (a && (ltb f 2 && not (eqb (m % 10) 0))) ≡ false
    go false e = refl
    go true e = rw (le-ltb f 2 (omega (arith, eqb-true s 0 e)))

-- ---- a valid label

-- Its numbers are in their ranges, and it is none of the skipped.
pub valid_facts : (t : MtcTime) → T (is_valid t) → InRange t
unfolding is_valid
valid_facts t v =
    go (leb t.hours 23) (leb t.minutes 59) (leb t.seconds 59) (ltb t.frames (frames_per_second t.rate))
    (is_skipped t) refl refl refl refl refl v
  where
    go : (a b c d e : Bool) → leb t.hours 23 ≡ a → leb t.minutes 59 ≡ b → leb t.seconds 59 ≡ c
        → ltb t.frames (frames_per_second t.rate) ≡ d → is_skipped t ≡ e → T (a && (b && (c && (d && not e)))) → InRange t
    go true true true true false ea eb ec ed ee _ =
        record {
          hours = leb-true _ _ ea;
          minutes = leb-true _ _ eb;
          seconds = leb-true _ _ ec;
          frames = ltb-true _ _ ed;
          kept = ee;
        }
    go true true true true true ea eb ec ed ee h = absurd h
    go true true true false e ea eb ec ed ee h = absurd h
    go true true false d e ea eb ec ed ee h = absurd h
    go true false c d e ea eb ec ed ee h = absurd h
    go false b c d e ea eb ec ed ee h = absurd h

pub facts_valid : (t : MtcTime) → InRange t → T (is_valid t)
unfolding is_valid
facts_valid t k =
    and_both (leb t.hours 23) _ (le→leb _ _ k.hours)
    (and_both (leb t.minutes 59) _ (le→leb _ _ k.minutes)
    (and_both (leb t.seconds 59) _ (le→leb _ _ k.seconds)
    (and_both (ltb t.frames (frames_per_second t.rate)) _ (lt→ltb _ _ k.frames) (no_not _ k.kept))))

-- Numbers in their ranges, which drop-frame keeps.
pub in_range_valid : (r : TimeCodeType) (h m s f : ℕ) → h ≤ 23 → m ≤ 59 → s ≤ 59 → f < frames_per_second r
    → (is_drop_frame r ≡ true → NotDropped m s f) → T (is_valid (label r h m s f))
unfolding is_skipped
in_range_valid r h m s f hh hm hs hf k =
    facts_valid (label r h m s f) (record { hours = hh; minutes = hm; seconds = hs; frames = hf; kept = kept r k })
  where
    kept : (q : TimeCodeType) → (is_drop_frame q ≡ true → NotDropped m s f) → is_skipped (label q h m s f) ≡ false
    kept Fps24 k = refl
    kept Fps25 k = refl
    kept Fps30Drop k = kept_skipped h m s f (k refl)
    kept Fps30 k = refl

-- A valid label's numbers fit them.
pub valid_widths : (t : MtcTime) → T (is_valid t) → Widths t
valid_widths t v =
    let k : InRange t = valid_facts t v in
    record {
      frames = omega (arith, k.frames, fps_small t.rate);
      seconds = omega (arith, k.seconds);
      minutes = omega (arith, k.minutes);
      hours = omega (arith, k.hours);
    }

-- 00:00:00:00 is a label of every rate.
pub zero_valid : (r : TimeCodeType) → T (is_valid (label r 0 0 0 0))
unfolding is_valid
zero_valid Fps24 = tt
zero_valid Fps25 = tt
zero_valid Fps30Drop = tt
zero_valid Fps30 = tt
