-- ST 12-1's counts, computed: how many valid labels a second, a minute, an hour and a day have at each rate, and how many
-- stand before a valid label, which is the reference count. Assumes nothing.
use Prim.Native.Nat.{ℕ, zero, suc, ◌+◌, ◌-◌, ◌*◌, ◌%◌, ◌≤◌, ◌<◌}
use mathlib.Core.Path.{◌≡◌, refl, sym, ap, ap₂, ◌∙◌}
use mathlib.Core.Bool.{Bool, true, false, not, cond, ◌&&◌}
use mathlib.Core.Logic.{inl, inr}
use native.Mathlib.Omega.{arith}
use borrow.Author.Tests.{le-leb, lt-leb, lt-ltb, le-ltb, eq-eqb, ne_eqb, eqb-true, eqb-false}
use lib.Dec.{T, leb, ltb, eqb}
use Rattle.labels.specs.declared.time.MtcTime.{MtcTime}
use Rattle.labels.specs.declared.time.TimeCodeType.{TimeCodeType}
use Rattle.labels.specs.declared.time.TimeCodeType.TheVariants.{Fps24, Fps25, Fps30Drop, Fps30}
use Rattle.labels.specs.MinuteStarts.{labels_of_minutes}
use Rattle.labels.specs.St12.{label, frames_per_second, is_skipped, is_valid, lower, is_earlier, sum, one, how_many, count_before, labels_of_day}
use Rattle.labels.specs.Time.{day_of, formula, frame_count}
use Rattle.labels.proofs.Counts.{count_is_formula}
use Rattle.labels.proofs.LabelOrder.{lower_equal}
use Rattle.labels.proofs.Rates.{fps_small}
use Rattle.labels.proofs.Sums.{sum_below, sum_cut, sum_to, sum_same, sum_none, sum_zero}
use Rattle.labels.proofs.Validity.{NotDropped, skipped_kept, InRange, valid_facts}

-- ---- valid labels of a second, a minute, an hour

abbrev in_second : TimeCodeType → ℕ → ℕ → ℕ → ℕ
in_second r h m s = sum 256 (λ f. one (is_valid (label r h m s f)))

abbrev in_minute : TimeCodeType → ℕ → ℕ → ℕ
in_minute r h m = sum 256 (λ s. in_second r h m s)

abbrev in_hour : TimeCodeType → ℕ → ℕ
in_hour r h = sum 256 (λ m. in_minute r h m)

-- What they come to: `tenth` says that the minute is a multiple of ten.
abbrev labels_of_second : TimeCodeType → Bool → ℕ → ℕ
labels_of_second Fps24 tenth s = 24
labels_of_second Fps25 tenth s = 25
labels_of_second Fps30Drop tenth s = cond (eqb s 0 && not tenth) 28 30
labels_of_second Fps30 tenth s = 30

abbrev labels_of_minute : TimeCodeType → Bool → ℕ
labels_of_minute Fps24 tenth = 1440
labels_of_minute Fps25 tenth = 1500
labels_of_minute Fps30Drop tenth = cond tenth 1800 1798
labels_of_minute Fps30 tenth = 1800

abbrev labels_of_hour : TimeCodeType → ℕ
labels_of_hour Fps24 = 86400
labels_of_hour Fps25 = 90000
labels_of_hour Fps30Drop = 107892
labels_of_hour Fps30 = 108000

abbrev tenth : ℕ → Bool
tenth m = eqb (m % 10) 0

-- ---- out of range

valid_in : (r : TimeCodeType) (h m s f : ℕ) → h ≤ 23 → m ≤ 59 → s ≤ 59
    → is_valid (label r h m s f) ≡ (ltb f (frames_per_second r) && not (is_skipped (label r h m s f)))
unfolding is_valid
valid_in r h m s f hh hm hs = rw (le-leb h 23 hh, le-leb m 59 hm, le-leb s 59 hs)

no_second : (r : TimeCodeType) (h m s : ℕ) → 60 ≤ s → in_second r h m s ≡ 0
unfolding is_valid
no_second r h m s l = sum_none 256 _ (λ f. none f)
  where
    gone : (a b : Bool) → one (a && (b && false)) ≡ 0
    gone true true = refl
    gone true false = refl
    gone false b = refl

    none : (f : ℕ) → one (is_valid (label r h m s f)) ≡ 0
    none f = rw (lt-leb s 59 l) (gone (leb h 23) (leb m 59))

no_minute : (r : TimeCodeType) (h m : ℕ) → 60 ≤ m → in_minute r h m ≡ 0
unfolding is_valid
no_minute r h m l = sum_none 256 _ (λ s. sum_none 256 _ (λ f. none s f))
  where
    gone : (a : Bool) → one (a && false) ≡ 0
    gone true = refl
    gone false = refl

    none : (s f : ℕ) → one (is_valid (label r h m s f)) ≡ 0
    none s f = rw (lt-leb m 59 l) (gone (leb h 23))

no_hour : (r : TimeCodeType) (h : ℕ) → 24 ≤ h → in_hour r h ≡ 0
unfolding is_valid
no_hour r h l = sum_none 256 _ (λ m. sum_none 256 _ (λ s. sum_none 256 _ (λ f. none m s f)))
  where
    none : (m s f : ℕ) → one (is_valid (label r h m s f)) ≡ 0
    none m s f = rw (lt-leb h 23 l)

-- ---- in range

-- The frames of a second, by the tests that the skipped numbers depend on.
second_computed : (r : TimeCodeType) (h m s : ℕ)
    → sum 256 (λ (f : ℕ). one (ltb f (frames_per_second r) && not (is_skipped (label r h m s f)))) ≡ labels_of_second r (tenth m) s
unfolding is_skipped sum
second_computed Fps24 h m s = refl
second_computed Fps25 h m s = refl
second_computed Fps30Drop h m s = go (eqb s 0) (tenth m)
  where
    go : (a b : Bool) → sum 256 (λ (f : ℕ). one (ltb f 30 && not (a && (ltb f 2 && not b)))) ≡ cond (a && not b) 28 30
    go true true = refl
    go true false = refl
    go false b = refl
second_computed Fps30 h m s = refl

count_of_second : (r : TimeCodeType) (h m s : ℕ) → h ≤ 23 → m ≤ 59 → s ≤ 59 → in_second r h m s ≡ labels_of_second r (tenth m) s
count_of_second r h m s hh hm hs =
    sum_below 256 _ _ (λ f _. ap one (valid_in r h m s f hh hm hs)) ∙ second_computed r h m s

minute_computed : (r : TimeCodeType) (b : Bool) → sum 60 (λ (s : ℕ). labels_of_second r b s) ≡ labels_of_minute r b
unfolding sum
minute_computed Fps24 b = refl
minute_computed Fps25 b = refl
minute_computed Fps30Drop true = refl
minute_computed Fps30Drop false = refl
minute_computed Fps30 b = refl

count_of_minute : (r : TimeCodeType) (h m : ℕ) → h ≤ 23 → m ≤ 59 → in_minute r h m ≡ labels_of_minute r (tenth m)
count_of_minute r h m hh hm =
    sum_cut 196 60 _ (λ s l. no_second r h m s l)
    ∙ sum_below 60 _ _ (λ s l. count_of_second r h m s hh hm (omega arith))
    ∙ minute_computed r (tenth m)

hour_computed : (r : TimeCodeType) → sum 60 (λ (m : ℕ). labels_of_minute r (tenth m)) ≡ labels_of_hour r
unfolding sum
hour_computed Fps24 = refl
hour_computed Fps25 = refl
hour_computed Fps30Drop = refl
hour_computed Fps30 = refl

in_hour_lem : (r : TimeCodeType) (h : ℕ) → h ≤ 23 → in_hour r h ≡ labels_of_hour r
in_hour_lem r h hh =
    sum_cut 196 60 _ (λ m l. no_minute r h m l) ∙ sum_below 60 _ _ (λ m l. count_of_minute r h m hh (omega arith)) ∙ hour_computed r

day_computed : (r : TimeCodeType) → 24 * labels_of_hour r ≡ day_of r
day_computed Fps24 = refl
day_computed Fps25 = refl
day_computed Fps30Drop = refl
day_computed Fps30 = refl

-- Each day has so many labels.
pub labels_of_day_lem : (r : TimeCodeType) → labels_of_day r ≡ day_of r
unfolding labels_of_day how_many
labels_of_day_lem r =
    sum_cut 232 24 _ (λ h l. no_hour r h l) ∙ sum_same 24 (labels_of_hour r) _ (λ h l. in_hour_lem r h (omega arith)) ∙ day_computed r

-- ---- before a label

-- The valid labels whose rest of the numbers passes a test, where the first number stands before, at or after another.
module _ (v : Bool) (e : Bool) (a b : ℕ) where
  lower_before : a < b → one (lower a b e && v) ≡ one v
  lower_before l = rw (lt-ltb a b l)

  lower_at : a ≡ b → one (lower a b e && v) ≡ one (e && v)
  lower_at q = ap (λ (x : Bool). one (x && v)) (lower_equal a b e q)

  lower_after : b < a → one (lower a b e && v) ≡ 0
  lower_after l = rw (le-ltb a b (omega arith), ne_eqb a b (omega arith))

module _ (r : TimeCodeType) (h m s f : ℕ) where
  -- the labels of this second, this minute and this hour that stand before
  abbrev of_second : ℕ
  of_second = sum 256 (λ k. one (ltb k f && is_valid (label r h m s k)))

  abbrev of_minute : ℕ
  of_minute = sum 256 (λ j. sum 256 (λ k. one (lower j s (ltb k f) && is_valid (label r h m j k))))

  abbrev of_hour : ℕ
  of_hour = sum 256 (λ i. sum 256 (λ j. sum 256 (λ k. one (lower i m (lower j s (ltb k f)) && is_valid (label r h i j k)))))

  seconds_before : s < 256 → of_minute ≡ sum s (λ j. in_second r h m j) + of_second
  seconds_before l =
      sum_to 256 s of_second _ _ l
      (λ j b. sum_below 256 _ _ (λ k _. lower_before (is_valid (label r h m j k)) (ltb k f) j s b))
      (sum_below 256 _ _ (λ k _. lower_at (is_valid (label r h m s k)) (ltb k f) s s refl))
      (λ j b. sum_none 256 _ (λ k. lower_after (is_valid (label r h m j k)) (ltb k f) j s b))

  minutes_before : m < 256 → of_hour ≡ sum m (λ i. in_minute r h i) + of_minute
  minutes_before l =
      sum_to 256 m of_minute _ _ l
      (λ i b. sum_below 256 _ _ (λ j _. sum_below 256 _ _ (λ k _. lower_before (is_valid (label r h i j k)) _ i m b)))
      (sum_below 256 _ _ (λ j _. sum_below 256 _ _ (λ k _. lower_at (is_valid (label r h m j k)) _ m m refl)))
      (λ i b. sum_none 256 _ (λ j. sum_none 256 _ (λ k. lower_after (is_valid (label r h i j k)) _ i m b)))

  hours_before : h < 256 → count_before (label r h m s f) ≡ sum h (λ g. in_hour r g) + of_hour
  unfolding count_before how_many is_earlier
  hours_before l =
      sum_to 256 h of_hour _ _ l
      (λ g b. sum_below 256 _ _ (λ i _. sum_below 256 _ _ (λ j _. sum_below 256 _ _ (λ k _. lower_before (is_valid (label r g i j k)) _ g h b))))
      (sum_below 256 _ _ (λ i _. sum_below 256 _ _ (λ j _. sum_below 256 _ _ (λ k _. lower_at (is_valid (label r h i j k)) _ h h refl))))
      (λ g b. sum_none 256 _ (λ i. sum_none 256 _ (λ j. sum_none 256 _ (λ k. lower_after (is_valid (label r g i j k)) _ g h b))))

-- ---- the sums in closed form

-- one more drop-frame minute, after a sum k of m minutes
minute_more : (m k : ℕ) → k ≡ labels_of_minutes m → k + labels_of_minute Fps30Drop (tenth m) ≡ labels_of_minutes (suc m)
minute_more m k ih = go (tenth m) refl
  where
    short : (m % 10 ≡ 0 → ⊥) → k + 1798 ≡ labels_of_minutes (suc m)
    short e = omega arith

    go : (b : Bool) → tenth m ≡ b → k + cond b 1800 1798 ≡ labels_of_minutes (suc m)
    go true e = omega (arith, ih, eqb-true (m % 10) 0 e)
    go false e = short (eqb-false (m % 10) 0 e)

-- Drop-frame minutes: two fewer for each that is no multiple of ten.
drop_minutes : (m : ℕ) → sum m (λ i. labels_of_minute Fps30Drop (tenth i)) ≡ labels_of_minutes m
unfolding sum
drop_minutes zero = refl
drop_minutes (suc m) = minute_more m _ (drop_minutes m)

-- Seconds of a minute that drops two numbers.
drop_seconds : (s : ℕ) → sum (suc s) (λ j. labels_of_second Fps30Drop false j) ≡ 28 + s * 30
unfolding sum
drop_seconds zero = refl
drop_seconds (suc s) = rw (drop_seconds s, ne_eqb (suc s) 0 (omega arith)) (omega arith)

-- Frames of a second that drops two numbers.
drop_frames : (f : ℕ) → sum (suc (suc f)) (λ k. one (not (ltb k 2))) ≡ f
unfolding sum
drop_frames zero = refl
drop_frames (suc f) = rw (drop_frames f, le-ltb (suc (suc f)) 2 (omega arith)) (omega arith)

-- ---- the parts before a valid label

frames_before : (r : TimeCodeType) (h m s f : ℕ) → h ≤ 23 → m ≤ 59 → s ≤ 59 → f < frames_per_second r
    → of_second r h m s f ≡ sum f (λ k. one (not (is_skipped (label r h m s k))))
frames_before r h m s f hh hm hs hf =
    ap (λ (n : ℕ). sum n (λ k. one (ltb k f && is_valid (label r h m s k)))) whole
    ∙ sum_cut (256 - f) f _ (λ k l. ap (λ (b : Bool). one (b && is_valid (label r h m s k))) (le-ltb k f l))
    ∙ sum_below f _ _ (λ k l. ap₂ (λ (a b : Bool). one (a && b)) (lt-ltb k f l)
    (valid_in r h m s k hh hm hs ∙ ap (λ (b : Bool). b && not (is_skipped (label r h m s k))) (lt-ltb k (frames_per_second r) (omega arith))))
  where
    whole : 256 ≡ f + (256 - f)
    whole = omega (arith, fps_small r)

-- The labels before, in parts.
in_parts : (r : TimeCodeType) (h m s f : ℕ) → h ≤ 23 → m ≤ 59 → s ≤ 59 → f < frames_per_second r
    → count_before (label r h m s f)
    ≡ h * labels_of_hour r + (sum m (λ i. labels_of_minute r (tenth i)) + (sum s (λ j. labels_of_second r (tenth m) j) + sum f (λ k. one (not (is_skipped (label r h m s k))))))
in_parts r h m s f hh hm hs hf =
    hours_before r h m s f (omega arith)
    ∙ ap₂ (λ (x y : ℕ). x + y) (sum_same h (labels_of_hour r) _ (λ g l. in_hour_lem r g (omega arith)))
    (minutes_before r h m s f (omega arith)
    ∙ ap₂ (λ (x y : ℕ). x + y) (sum_below m _ _ (λ i l. count_of_minute r h i hh (omega arith)))
    (seconds_before r h m s f (omega arith)
    ∙ ap₂ (λ (x y : ℕ). x + y) (sum_below s _ _ (λ j l. count_of_second r h m j hh hm (omega arith))) (frames_before r h m s f hh hm hs hf)))

-- ---- they come to the formula

abbrev sum_of_parts : TimeCodeType → ℕ → ℕ → ℕ → ℕ → ℕ
sum_of_parts r h m s f = h * labels_of_hour r + (sum m (λ i. labels_of_minute r (tenth i)) + (sum s (λ j. labels_of_second r (tenth m) j) + sum f (λ k. one (not (is_skipped (label r h m s k))))))

even : (n c : ℕ) → sum n (λ (i : ℕ). c) ≡ n * c
even n c = sum_same n c (λ (i : ℕ). c) (λ i l. refl)

and_no : (a : Bool) → (a && false) ≡ false
and_no true = refl
and_no false = refl

-- drop-frame, in a minute that is a multiple of ten
drop_tenth : (h m s f : ℕ) → m % 10 ≡ 0 → sum_of_parts Fps30Drop h m s f ≡ formula Fps30Drop (h * 60 + m) s f
unfolding is_skipped
drop_tenth h m s f e =
    let seconds : sum s (λ j. labels_of_second Fps30Drop (tenth m) j) ≡ s * 30 = sum_same s 30 _ (λ j l. rw (eq-eqb (m % 10) 0 e, and_no (eqb j 0))) in
    let frames : sum f (λ k. one (not (is_skipped (label Fps30Drop h m s k)))) ≡ f * 1
    = sum_same f 1 _ (λ k l. rw (eq-eqb (m % 10) 0 e, and_no (ltb k 2), and_no (eqb s 0))) in
    ap₂ (λ (x y : ℕ). h * 107892 + (sum m (λ i. labels_of_minute Fps30Drop (tenth i)) + (x + y))) seconds frames
    ∙ come (sum m (λ i. labels_of_minute Fps30Drop (tenth i))) (drop_minutes m)
  where
    come : (k : ℕ) → k ≡ labels_of_minutes m → h * 107892 + (k + (s * 30 + f * 1)) ≡ formula Fps30Drop (h * 60 + m) s f
    come k ih = omega arith

-- at the start of a minute that drops two numbers, past them
drop_start : (h m f : ℕ) → (m % 10 ≡ 0 → ⊥) → sum_of_parts Fps30Drop h m 0 (suc (suc f)) ≡ formula Fps30Drop (h * 60 + m) 0 (suc (suc f))
unfolding is_skipped
drop_start h m f e =
    let frames : sum (suc (suc f)) (λ k. one (not (is_skipped (label Fps30Drop h m 0 k)))) ≡ f
    = sum_below (suc (suc f)) _ _ (λ k l. frame k) ∙ drop_frames f in
    ap₂ (λ (x y : ℕ). h * 107892 + (sum m (λ i. labels_of_minute Fps30Drop (tenth i)) + (x + y))) (sum_zero (λ j. labels_of_second Fps30Drop (tenth m) j)) frames
    ∙ come (sum m (λ i. labels_of_minute Fps30Drop (tenth i))) (drop_minutes m) e
  where
    and_yes : (a : Bool) → (a && true) ≡ a
    and_yes true = refl
    and_yes false = refl

    frame : (k : ℕ) → one (not (is_skipped (label Fps30Drop h m 0 k))) ≡ one (not (ltb k 2))
    frame k = rw (ne_eqb (m % 10) 0 e, and_yes (ltb k 2))

    come : (k : ℕ) → k ≡ labels_of_minutes m → (m % 10 ≡ 0 → ⊥)
        → h * 107892 + (k + (0 + f)) ≡ formula Fps30Drop (h * 60 + m) 0 (suc (suc f))
    come k ih n = omega arith

-- later in such a minute
drop_later : (h m s f : ℕ) → (m % 10 ≡ 0 → ⊥) → sum_of_parts Fps30Drop h m (suc s) f ≡ formula Fps30Drop (h * 60 + m) (suc s) f
unfolding is_skipped
drop_later h m s f e =
    let seconds : sum (suc s) (λ j. labels_of_second Fps30Drop (tenth m) j) ≡ 28 + s * 30
    = ap (λ (b : Bool). sum (suc s) (λ j. labels_of_second Fps30Drop b j)) (ne_eqb (m % 10) 0 e) ∙ drop_seconds s in
    let frames : sum f (λ k. one (not (is_skipped (label Fps30Drop h m (suc s) k)))) ≡ f * 1
    = sum_same f 1 _ (λ k l. rw (ne_eqb (suc s) 0 (omega arith))) in
    ap₂ (λ (x y : ℕ). h * 107892 + (sum m (λ i. labels_of_minute Fps30Drop (tenth i)) + (x + y))) seconds frames
    ∙ come (sum m (λ i. labels_of_minute Fps30Drop (tenth i))) (drop_minutes m) e
  where
    come : (k : ℕ) → k ≡ labels_of_minutes m → (m % 10 ≡ 0 → ⊥)
        → h * 107892 + (k + (28 + s * 30 + f * 1)) ≡ formula Fps30Drop (h * 60 + m) (suc s) f
    come k ih n = omega arith

drop_sum_of_parts : (h m s f : ℕ) → (b : Bool) → tenth m ≡ b → NotDropped m s f → sum_of_parts Fps30Drop h m s f ≡ formula Fps30Drop (h * 60 + m) s f
drop_sum_of_parts h m s f true e k = drop_tenth h m s f (eqb-true (m % 10) 0 e)
drop_sum_of_parts h m s f false e (inl t) = absurd (eqb-false (m % 10) 0 e t)
drop_sum_of_parts h m (suc s) f false e (inr l) = drop_later h m s f (eqb-false (m % 10) 0 e)
drop_sum_of_parts h m zero zero false e (inr l) = absurd (omega arith)
drop_sum_of_parts h m zero (suc zero) false e (inr l) = absurd (omega arith)
drop_sum_of_parts h m zero (suc (suc f)) false e (inr l) = drop_start h m f (eqb-false (m % 10) 0 e)

parts_formula : (r : TimeCodeType) (h m s f : ℕ) → is_skipped (label r h m s f) ≡ false → sum_of_parts r h m s f ≡ formula r (h * 60 + m) s f
unfolding is_skipped
parts_formula Fps24 h m s f k = rw (even m 1440, even s 24, even f 1) (omega arith)
parts_formula Fps25 h m s f k = rw (even m 1500, even s 25, even f 1) (omega arith)
parts_formula Fps30Drop h m s f k = drop_sum_of_parts h m s f (tenth m) refl (skipped_kept h m s f k)
parts_formula Fps30 h m s f k = rw (even m 1800, even s 30, even f 1) (omega arith)

-- On valid labels the reference count is ST 12-1's.
pub count_is_practice : (t : MtcTime) → T (is_valid t) → frame_count t ≡ count_before t
count_is_practice t v =
    let k : InRange t = valid_facts t v in
    count_is_formula t v
    ∙ sym (in_parts t.rate t.hours t.minutes t.seconds t.frames k.hours k.minutes k.seconds k.frames
    ∙ parts_formula t.rate t.hours t.minutes t.seconds t.frames k.kept)
