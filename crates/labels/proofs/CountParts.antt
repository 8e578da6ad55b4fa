-- Labels by the parts of their counts: by their numbers, a drop-frame label by tens of minutes, and frames on in the same second. The
-- faster forms of upper crates rest on these. Assumes nothing.
use Prim.Native.Nat.{ℕ, ◌+◌, ◌*◌, ◌/◌, ◌%◌, ◌≤◌, ◌<◌}
use mathlib.Core.Path.{◌≡◌, refl, sym, subst, ap, ap₂, ◌∙◌}
use mathlib.Core.Bool.{Bool, true, false, ◌&&◌}
use mathlib.Core.Logic.{◌⊎◌}
use native.Mathlib.Nat.{mod-eq_of_lt, mod-mod}
use native.Mathlib.Omega.{arith}
use borrow.Author.Tests.{le-ltb}
use lib.Dec.{T, eqb}
use lib.IntN.{ℤ, pos}
use Rattle.labels.specs.declared.time.MtcTime.{MtcTime}
use Rattle.labels.specs.declared.time.TimeCodeType.{TimeCodeType}
use Rattle.labels.specs.declared.time.TimeCodeType.TheVariants.{Fps24, Fps25, Fps30Drop, Fps30}
use Rattle.labels.specs.St12.{label, frames_per_second, is_drop_frame, is_skipped, is_valid}
use Rattle.labels.specs.Time.{day_of, formula, frame_count, with_skipped, label_at_second, numbered, label_at, mod_z, add_frames}
use Rattle.labels.proofs.Counts.{put_back, formula_below, count_is_formula, label_of_count}
use Rattle.labels.proofs.Validity.{facts_valid}

-- ---- labels by numbers

-- At a rate that skips none: whole seconds and the frames.
pub even_label : (n : ℕ) (r : TimeCodeType) → is_drop_frame r ≡ false
    → label_at n r ≡ label_at_second r (n % day_of r / frames_per_second r) (n % day_of r % frames_per_second r)
unfolding label_at
even_label n Fps24 d = refl
even_label n Fps25 d = refl
even_label n Fps30Drop d = absurd (subst T d tt)
even_label n Fps30 d = refl

-- At drop-frame: by tens of minutes, the minute among the ten and the place in it.
pub drop_split : (n t u x : ℕ) → n % 2589408 ≡ 17982 * t + (1798 * u + x) → u < 10 → x < 1800 → (u ≡ 0) ⊎ (2 ≤ x)
    → label_at n Fps30Drop ≡ label_at_second Fps30Drop ((10 * t + u) * 60 + x / 30) (x % 30)
unfolding label_at
drop_split n t u x e hu hx k =
    let put : with_skipped Fps30Drop (n % 2589408) ≡ 18000 * t + (1800 * u + x) = ap (with_skipped Fps30Drop) e ∙ put_back t u x hu hx k in
    let seconds : (18000 * t + (1800 * u + x)) / 30 ≡ (10 * t + u) * 60 + x / 30 = omega arith in
    let frames : (18000 * t + (1800 * u + x)) % 30 ≡ x % 30 = omega arith in
    ap (numbered Fps30Drop) put ∙ ap₂ (label_at_second Fps30Drop) seconds frames

-- Counts that a day parts have one label.
pub label_round : (n : ℕ) (r : TimeCodeType) → label_at (n % day_of r) r ≡ label_at n r
unfolding label_at
label_round n r = ap (λ (k : ℕ). numbered r (with_skipped r k)) (mod-mod n (day_of r))

-- A move goes by the count.
pub moved_by_count : (t : MtcTime) (z : ℤ) → add_frames t z ≡ label_at (frame_count t + mod_z z (day_of t.rate)) t.rate
unfolding add_frames
moved_by_count t z = refl

-- ---- moves in a second

-- Past the numbers that drop-frame skips.
later_not_skipped : (r : TimeCodeType) (h m s f : ℕ) → is_skipped (label r h m s (f + 2)) ≡ false
unfolding is_skipped
later_not_skipped r h m s f = rw (le-ltb (f + 2) 2 (omega arith)) (none (is_drop_frame r) (eqb s 0))
  where
    none : (a b : Bool) → (a && (b && false)) ≡ false
    none false b = refl
    none true false = refl
    none true true = refl

more_frames : (r : TimeCodeType) (m s f k : ℕ) → formula r m s f + k ≡ formula r m s (f + k)
more_frames Fps24 m s f k = omega arith
more_frames Fps25 m s f k = omega arith
more_frames Fps30Drop m s f k = omega arith
more_frames Fps30 m s f k = omega arith

-- Frames on in the same second, to a valid label.
pub frames_later : (r : TimeCodeType) (h m s f k : ℕ) → h ≤ 23 → m ≤ 59 → s ≤ 59 → f + k < frames_per_second r
    → T (is_valid (label r h m s (f + k))) → label r h m s (f + k) ≡ add_frames (label r h m s f) (pos k)
unfolding add_frames frame_count mod_z
frames_later r h m s f k hh hm hs hf valid =
    let more : formula r (h * 60 + m) s f + k ≡ formula r (h * 60 + m) s (f + k) = more_frames r (h * 60 + m) s f k in
    let below : formula r (h * 60 + m) s (f + k) < day_of r = formula_below r h m s (f + k) hh hm hs hf in
    let small : formula r (h * 60 + m) s f < day_of r = omega (arith, more, below) in
    let few : k < day_of r = omega (arith, more, below) in
    let count : frame_count (label r h m s (f + k)) ≡ formula r (h * 60 + m) s f % day_of r + k % day_of r
    = count_is_formula (label r h m s (f + k)) valid ∙ sym more ∙ sym (ap₂ (λ (a b : ℕ). a + b) (mod-eq_of_lt small) (mod-eq_of_lt few)) in
    sym (label_of_count (label r h m s (f + k)) valid) ∙ ap (λ (n : ℕ). label_at n r) count

-- Two frames on no number is skipped.
pub two_later : (r : TimeCodeType) (h m s f : ℕ) → h ≤ 23 → m ≤ 59 → s ≤ 59 → f + 2 < frames_per_second r
    → label r h m s (f + 2) ≡ add_frames (label r h m s f) (pos 2)
two_later r h m s f hh hm hs hf =
    frames_later r h m s f 2 hh hm hs hf
    (facts_valid (label r h m s (f + 2)) (record { hours = hh; minutes = hm; seconds = hs; frames = hf; kept = later_not_skipped r h m s f }))
