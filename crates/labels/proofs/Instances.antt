-- Worked instances of document 02, #102, as computed tables: numbers of the table of minute starts, the first frame number of their
-- minutes, and labels at 30 drop-frame with the count of each. Assumes nothing.
use Rattle.std.specs.Prelude.{ℕ, ◌≡◌, List, [], ◌∷◌, map, get_or}
use mathlib.Core.Path.{refl}
use Rattle.labels.specs.declared.time.MtcTime.{MtcTime}
use Rattle.labels.specs.declared.time.TimeCodeType.TheVariants.{Fps30Drop}
use Rattle.labels.specs.declared.minutes.TheConstants.{MINUTE_STARTS}
use Rattle.labels.specs.MinuteStarts.{first_of_minute}
use Rattle.labels.specs.St12.{label}
use Rattle.labels.specs.Time.{frame_count}

-- A minute of an hour, the frame number of its first valid label, and its number in the table.
pub record StartRow : Type 0 where
  pub minute : ℕ
  pub first : ℕ
  pub start : ℕ

abbrev start_row : ℕ → ℕ → ℕ → StartRow
start_row minute first start = record { minute = minute; first = first; start = start }

-- The first line, the second, those beside the tenth minutes, and the last.
pub start_table : List StartRow
start_table =
    start_row 0 0 0
    ∷ start_row 1 2 1800
    ∷ start_row 2 2 3598
    ∷ start_row 9 2 16184
    ∷ start_row 10 0 17982
    ∷ start_row 11 2 19782
    ∷ start_row 50 0 89910
    ∷ start_row 59 2 106094
    ∷ []

pub start_instances : map (λ (r : StartRow). start_row r.minute (first_of_minute 0 r.minute).frames (get_or MINUTE_STARTS r.minute 0)) start_table ≡ start_table
unfolding start_table
start_instances = refl

-- A label, and what it should count.
pub record CountRow : Type 0 where
  pub time : MtcTime
  pub count : ℕ

abbrev count_row : MtcTime → ℕ → CountRow
count_row time count = record { time = time; count = count }

pub count_table : List CountRow
count_table =
    -- the first valid labels of minutes
    count_row (label Fps30Drop 0 0 0 0) 0
    ∷ count_row (label Fps30Drop 0 1 0 2) 1800
    ∷ count_row (label Fps30Drop 0 10 0 0) 17982
    ∷ count_row (label Fps30Drop 0 11 0 2) 19782
    ∷ count_row (label Fps30Drop 0 59 0 2) 106094
    -- the labels before and after a start
    ∷ count_row (label Fps30Drop 0 0 59 29) 1799
    ∷ count_row (label Fps30Drop 0 1 0 3) 1801
    ∷ count_row (label Fps30Drop 0 10 0 1) 17983
    -- skipped labels count two less than the start of their minute and one less
    ∷ count_row (label Fps30Drop 0 1 0 0) 1798
    ∷ count_row (label Fps30Drop 0 1 0 1) 1799
    ∷ count_row (label Fps30Drop 0 59 0 0) 106092
    ∷ count_row (label Fps30Drop 23 59 0 1) 2587609
    -- behind whole hours; the last label of the day
    ∷ count_row (label Fps30Drop 1 0 0 0) 107892
    ∷ count_row (label Fps30Drop 1 1 0 2) 109692
    ∷ count_row (label Fps30Drop 23 59 59 29) 2589407
    -- minutes from 60 on count in the hours that follow: 00:60 as 01:00, 00:75 as 01:15
    ∷ count_row (label Fps30Drop 0 60 0 0) 107892
    ∷ count_row (label Fps30Drop 0 61 0 0) 109690
    ∷ count_row (label Fps30Drop 0 75 0 2) 134866
    ∷ count_row (label Fps30Drop 0 119 59 29) 215783
    ∷ count_row (label Fps30Drop 1 255 7 3) 566645
    -- seconds and frames beyond their ranges count on; a count is reduced by the day
    ∷ count_row (label Fps30Drop 0 59 60 0) 107892
    ∷ count_row (label Fps30Drop 0 1 0 255) 2053
    ∷ count_row (label Fps30Drop 24 0 0 0) 0
    ∷ count_row (label Fps30Drop 23 60 0 2) 2
    ∷ count_row (label Fps30Drop 255 255 255 255) 2084825
    ∷ []

pub count_instances : map (λ (r : CountRow). frame_count r.time) count_table ≡ map (λ (r : CountRow). r.count) count_table
unfolding count_table frame_count
count_instances = refl
