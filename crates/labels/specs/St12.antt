-- SMPTE ST 12-1, time addresses: which labels there are at each rate, which of them drop-frame skips, their order, how many
-- stand before a label, how many a day has, and the labels after and before a label. The rates are named as MIDI Time Code has
-- them: 24, 25, 30 drop-frame and 30 frames. One rule is RP-013's, `LeastAbove`. Left out: binary groups, colour frames, and rates
-- above 30. Assumes nothing.
use Rattle.std.specs.Prelude.{ℕ, zero, suc, ◌+◌, ◌-◌, ◌%◌, ◌≡◌, Bool, true, false, not, cond, ◌&&◌, ◌||◌, T, leb, ltb, eqb}
use Rattle.labels.specs.declared.time.MtcTime.{MtcTime}
use Rattle.labels.specs.declared.time.TimeCodeType.{TimeCodeType}
use Rattle.labels.specs.declared.time.TimeCodeType.TheVariants.{Fps24, Fps25, Fps30Drop, Fps30}

-- ---- labels

-- A label of a rate: hours, minutes, seconds, frames.
abbrev pub label : TimeCodeType → ℕ → ℕ → ℕ → ℕ → MtcTime
label r h m s f = record { hours = h; minutes = m; seconds = s; frames = f; rate = r }

-- The frames that a counting second has.
abbrev pub frames_per_second : TimeCodeType → ℕ
frames_per_second Fps24 = 24
frames_per_second Fps25 = 25
frames_per_second Fps30Drop = 30
frames_per_second Fps30 = 30

abbrev pub is_drop_frame : TimeCodeType → Bool
is_drop_frame Fps24 = false
is_drop_frame Fps25 = false
is_drop_frame Fps30Drop = true
is_drop_frame Fps30 = false

-- Drop frame, NTSC time compensated mode: frame numbers 00 and 01 are omitted from the count at the start of each minute
-- except 00, 10, 20, 30, 40 and 50.
unfoldable pub is_skipped : MtcTime → Bool
is_skipped t =
    is_drop_frame t.rate && (eqb t.seconds 0 && (ltb t.frames 2 && not (eqb (t.minutes % 10) 0)))

-- Hours 00 to 23, minutes and seconds 00 to 59, frames below the rate, and no skipped number.
unfoldable pub is_valid : MtcTime → Bool
unfolding is_skipped
is_valid t =
    leb t.hours 23
    && (leb t.minutes 59
    && (leb t.seconds 59 && (ltb t.frames (frames_per_second t.rate) && not (is_skipped t))))

-- ---- their order

-- The first pair of numbers that differ decides.
abbrev pub lower : ℕ → ℕ → Bool → Bool
lower a b rest = ltb a b || (eqb a b && rest)

-- The first label stands before the second: by hours, then minutes, then seconds, then frames.
unfoldable pub is_earlier : MtcTime → MtcTime → Bool
is_earlier t u =
    lower t.hours u.hours
    (lower t.minutes u.minutes (lower t.seconds u.seconds (ltb t.frames u.frames)))

-- The second is the least valid label above the first, at the same rate. The source has this rule from RP-013's Drop Frame Notes,
-- not from ST 12-1: "The next higher valid time for a skipped drop-frame number" (mtc.rs, `next_valid`).
pub record LeastAbove (t u : MtcTime) : Type 0 where
  pub rate : u.rate ≡ t.rate
  pub valid : T (is_valid u)
  pub above : T (is_earlier t u)
  pub least : (v : MtcTime) → v.rate ≡ t.rate → T (is_valid v) → T (is_earlier t v) → T (not (is_earlier v u))

-- One frame on, with a carry to seconds, minutes and hours and round midnight.
abbrev pub carried : MtcTime → MtcTime
carried t =
    cond (ltb (suc t.frames) (frames_per_second t.rate))
    (label t.rate t.hours t.minutes t.seconds (suc t.frames))
    (cond (ltb (suc t.seconds) 60) (label t.rate t.hours t.minutes (suc t.seconds) 0)
    (cond (ltb (suc t.minutes) 60) (label t.rate t.hours (suc t.minutes) 0 0)
    (cond (ltb (suc t.hours) 24) (label t.rate (suc t.hours) 0 0 0) (label t.rate 0 0 0 0))))

-- Past the numbers that drop-frame skips: 00:01:00;00 goes to 00:01:00;02.
abbrev pub past_skipped : MtcTime → MtcTime
past_skipped t = cond (is_skipped t) (label t.rate t.hours t.minutes t.seconds 2) t

-- The label after a label.
unfoldable pub label_after : MtcTime → MtcTime
label_after t = past_skipped (carried t)

-- The last label before the start of a minute of an hour: of the minute before, of the hour before, or of the day.
abbrev pub last_before : TimeCodeType → ℕ → ℕ → MtcTime
last_before r h m =
    cond (ltb 0 m) (label r h (m - 1) 59 (frames_per_second r - 1))
    (cond (ltb 0 h) (label r (h - 1) 59 59 (frames_per_second r - 1)) (label r 23 59 59 (frames_per_second r - 1)))

-- One frame back, with a borrow from seconds, minutes and hours and round midnight.
abbrev pub borrowed : MtcTime → MtcTime
borrowed t =
    cond (ltb 0 t.frames) (label t.rate t.hours t.minutes t.seconds (t.frames - 1))
    (cond (ltb 0 t.seconds) (label t.rate t.hours t.minutes (t.seconds - 1) (frames_per_second t.rate - 1))
    (last_before t.rate t.hours t.minutes))

-- Back past the numbers that drop-frame skips: 00:01:00;01 goes to 00:00:59;29.
abbrev pub back_past_skipped : MtcTime → MtcTime
back_past_skipped t = cond (is_skipped t) (last_before t.rate t.hours t.minutes) t

-- The label before a label.
unfoldable pub label_before : MtcTime → MtcTime
label_before t = back_past_skipped (borrowed t)

-- ---- counts

-- f 0 + f 1 + .. + f (n - 1)
unfoldable pub sum : ℕ → (ℕ → ℕ) → ℕ
sum zero f = 0
sum (suc n) f = sum n f + f n

-- 1 for yes, 0 for no
abbrev pub one : Bool → ℕ
one true = 1
one false = 0

-- How many labels of a rate pass a test, over every four bytes.
unfoldable pub how_many : TimeCodeType → (MtcTime → Bool) → ℕ
how_many r test = sum 256 (λ h. sum 256 (λ m. sum 256 (λ s. sum 256 (λ f. one (test (label r h m s f))))))

-- A label's count: the number of valid labels before it that day.
unfoldable pub count_before : MtcTime → ℕ
count_before t = how_many t.rate (λ u. is_earlier u t && is_valid u)

-- The labels of a day.
unfoldable pub labels_of_day : TimeCodeType → ℕ
labels_of_day r = how_many r is_valid
