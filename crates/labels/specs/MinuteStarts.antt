-- Minute starts (document 02, #102): the count of each minute's first valid label within an hour at 30 drop-frame. Assumes nothing.
use Rattle.std.specs.Prelude.{ℕ, ◌+◌, ◌-◌, ◌*◌, ◌/◌, ◌%◌, ◌≡◌, List, map, T, not, cond, eqb}
use Rattle.std.specs.List.{range_with_len}
use Rattle.labels.specs.St12.{label, is_valid, is_earlier, count_before}
use Rattle.labels.specs.declared.time.MtcTime.{MtcTime}
use Rattle.labels.specs.declared.time.TimeCodeType.TheVariants.{Fps30Drop}

-- Of the valid labels of a minute of an hour, this is the first.
pub record FirstOfMinute (h m : ℕ) (t : MtcTime) : Type 0 where
  pub rate : t.rate ≡ Fps30Drop
  pub hours : t.hours ≡ h
  pub minutes : t.minutes ≡ m
  pub valid : T (is_valid t)
  pub first : (v : MtcTime) → v.rate ≡ Fps30Drop → v.hours ≡ h → v.minutes ≡ m → T (is_valid v) → T (not (is_earlier v t))

-- How many frame numbers a minute skips: none in the minutes 00, 10, 20, 30, 40 and 50, else two.
abbrev pub skipped_in : ℕ → ℕ
skipped_in m = cond (eqb (m % 10) 0) 0 2

-- The first valid label stands in second 00, after the numbers that the minute skips.
abbrev pub first_of_minute : ℕ → ℕ → MtcTime
first_of_minute h m = label Fps30Drop h m 0 (skipped_in m)

-- "the count of each minute's first valid label within a drop hour": the valid labels before it in the first hour of the day. Every other
-- hour has as many before it (the law `start_in_hour`).
unfoldable pub minute_start : ℕ → ℕ
minute_start m = count_before (first_of_minute 0 m)

-- "a table of sixty numbers": the starts of the minutes 0 to 59.
abbrev pub minute_starts : List ℕ
minute_starts = map minute_start (range_with_len 0 60)

-- The rule by which the numbers are computed: the labels of so many minutes from midnight on, 1,800 for each, less 2 for each but every
-- tenth (the law `count_by_minutes`).
abbrev pub labels_of_minutes : ℕ → ℕ
labels_of_minutes n = 1800 * n - 2 * (n - (n + 9) / 10)
