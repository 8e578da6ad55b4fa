-- The laws of labels that readers and upper crates cite: counts, labels and moves on every input, and what they mean by SMPTE
-- ST 12-1. Assumes nothing.
use Prim.Native.Nat.{ℕ, ◌+◌, ◌-◌, ◌*◌, ◌/◌, ◌%◌, ◌≤◌, ◌<◌}
use mathlib.Core.Path.{◌≡◌, refl}
use mathlib.Core.Bool.{true, false}
use mathlib.Core.Logic.{◌⊎◌}
use lib.Dec.{T}
use lib.IntN.{ℤ, pos, negsuc, ◌+ℤ◌}
use lib.ListN.{get_or}
use Rattle.labels.specs.declared.minutes.TheConstants.{MINUTE_STARTS}
use Rattle.labels.specs.declared.time.MtcTime.{MtcTime}
use Rattle.labels.specs.declared.time.TimeCodeType.{TimeCodeType}
use Rattle.labels.specs.declared.time.TimeCodeType.TheVariants.{Fps30Drop}
use Rattle.labels.specs.MinuteStarts.{FirstOfMinute, skipped_in, first_of_minute, minute_start, minute_starts, labels_of_minutes}
use Rattle.labels.specs.St12.{label, frames_per_second, is_drop_frame, is_skipped, is_valid, LeastAbove, count_before, labels_of_day, label_after, label_before}
use Rattle.labels.specs.Time.{day_of, formula, frame_count, label_at_second, label_at, mod_z, add_frames, next_valid}
use Rattle.labels.proofs.LabelAfter
use Rattle.labels.proofs.LabelBefore
use Rattle.labels.proofs.Counts
use Rattle.labels.proofs.DayCount
-- A signed distance modulo a day, as code has it that tests its sign: -1 - z where it is negative.
pub use Rattle.labels.proofs.Distance.{back_fits, back_casts, back_mod, ahead_casts, ahead_mod, passed_mod, mod_pred, mod_below, mod_back}
use Rattle.labels.proofs.CountParts
use Rattle.labels.proofs.Moves
use Rattle.labels.proofs.LabelOrder
use Rattle.labels.proofs.Rates
-- A rate has two bits, which tell it, and at most 30 frames, a day as many as it has; a count and a residue of the day fit a word.
pub use Rattle.labels.proofs.Rates.{bits_small, rate_back, fps_small, day_positive, day_small, sum_fits}
use Rattle.labels.proofs.MinuteStarts
-- What the faster form rests on: a number of the table by its rule, and a label's count back from the next minute's start.
pub use Rattle.labels.proofs.MinuteStarts.{start_by_rule, from_next_start}
use Rattle.labels.proofs.Skipped
use Rattle.labels.proofs.Validity
-- A valid label's numbers are in their ranges, and fit the widths in which they are sent.
pub use Rattle.labels.proofs.Validity.{InRange, valid_facts, Widths, valid_widths}

-- ---- counts and labels

-- The count of the label of n is n modulo the day.
pub count_of_label : (n : ℕ) (r : TimeCodeType) → frame_count (label_at n r) ≡ n % day_of r
count_of_label = Counts.count_of_label

-- The label of a valid label's count is that label.
pub label_of_count : (t : MtcTime) → T (is_valid t) → label_at (frame_count t) t.rate ≡ t
label_of_count = Counts.label_of_count

-- Every label of a count is valid.
pub label_valid : (n : ℕ) (r : TimeCodeType) → T (is_valid (label_at n r))
label_valid = Counts.label_valid

-- A skipped label counts as a label of the minute before, two frames earlier: h:m:00;0f as h:(m-1):59;(28+f), also beyond 23:59.
pub skipped_two_earlier : (t : MtcTime) → T (is_skipped t)
    → frame_count t ≡ frame_count (label t.rate t.hours (t.minutes - 1) 59 (28 + t.frames))
skipped_two_earlier = Skipped.skipped_two_earlier

-- That label is valid, where hours and minutes are in range.
pub two_earlier_valid : (t : MtcTime) → T (is_skipped t) → t.hours ≤ 23 → t.minutes ≤ 59
    → T (is_valid (label t.rate t.hours (t.minutes - 1) 59 (28 + t.frames)))
two_earlier_valid = Skipped.two_earlier_valid

-- So the skipped label 00:01:00;00 counts 1,798, and so does 00:00:59;28.
pub skipped_counts : (frame_count (label Fps30Drop 0 1 0 0) ≡ 1798) × (frame_count (label Fps30Drop 0 0 59 28) ≡ 1798)
unfolding frame_count
skipped_counts = (refl, refl)

-- ---- moves

-- Every move ends on a valid label.
pub moved_valid : (t : MtcTime) (z : ℤ) → T (is_valid (add_frames t z))
moved_valid = Moves.moved_valid

-- A move keeps the rate.
pub moved_rate : (t : MtcTime) (z : ℤ) → (add_frames t z).rate ≡ t.rate
moved_rate = Moves.moved_rate

-- Moving by a and then b is moving by a + b.
pub moved_by_sum : (t : MtcTime) (a b : ℤ) → add_frames (add_frames t a) b ≡ add_frames t (a +ℤ b)
moved_by_sum = Moves.moved_by_sum

-- Moving by 0 keeps a valid label.
pub moved_by_none : (t : MtcTime) → T (is_valid t) → add_frames t (pos 0) ≡ t
moved_by_none = Moves.moved_by_none

-- Frames later in the same second, where the label is valid, are a sum.
pub frames_later : (r : TimeCodeType) (h m s f k : ℕ) → h ≤ 23 → m ≤ 59 → s ≤ 59 → f + k < frames_per_second r
    → T (is_valid (label r h m s (f + k))) → label r h m s (f + k) ≡ add_frames (label r h m s f) (pos k)
frames_later = CountParts.frames_later

-- So are two frames, where the label is always valid.
pub two_later : (r : TimeCodeType) (h m s f : ℕ) → h ≤ 23 → m ≤ 59 → s ≤ 59 → f + 2 < frames_per_second r
    → label r h m s (f + 2) ≡ add_frames (label r h m s f) (pos 2)
two_later = CountParts.two_later

-- ---- by numbers: what the faster forms of upper crates rest on

-- A label's count is its rate's formula, reduced by the day, and so is below it.
pub count_by_formula : (t : MtcTime)
    → frame_count t ≡ formula t.rate (t.hours * 60 + t.minutes) t.seconds t.frames % day_of t.rate
unfolding frame_count
count_by_formula t = refl

pub count_below : (t : MtcTime) → frame_count t < day_of t.rate
count_below = Rates.count_below

-- The label of a count, at a rate that skips none: whole seconds and the frames.
pub even_label : (n : ℕ) (r : TimeCodeType) → is_drop_frame r ≡ false
    → label_at n r ≡ label_at_second r (n % day_of r / frames_per_second r) (n % day_of r % frames_per_second r)
even_label = CountParts.even_label

-- At drop-frame: by tens of minutes, the minute among the ten and the place in it, which is none of the two that are skipped.
pub drop_split : (n t u x : ℕ) → n % 2589408 ≡ 17982 * t + (1798 * u + x) → u < 10 → x < 1800 → (u ≡ 0) ⊎ (2 ≤ x)
    → label_at n Fps30Drop ≡ label_at_second Fps30Drop ((10 * t + u) * 60 + x / 30) (x % 30)
drop_split = CountParts.drop_split

-- Counts that a day parts have one label.
pub label_round : (n : ℕ) (r : TimeCodeType) → label_at (n % day_of r) r ≡ label_at n r
label_round = CountParts.label_round

-- A move goes by the count.
pub moved_by_count : (t : MtcTime) (z : ℤ) → add_frames t z ≡ label_at (frame_count t + mod_z z (day_of t.rate)) t.rate
moved_by_count = CountParts.moved_by_count

-- ---- minute starts at 30 drop-frame (document 02, #102)

-- Each minute of the day has a first valid label, after the numbers that the minute skips, and no other label is the first.
pub first_of_minute_lem : (h m : ℕ) → h ≤ 23 → m ≤ 59 → FirstOfMinute h m (first_of_minute h m)
first_of_minute_lem = MinuteStarts.first_of_minute_lem

pub only_first : (h m : ℕ) (t : MtcTime) → FirstOfMinute h m t → t ≡ first_of_minute h m
only_first = MinuteStarts.only_first

-- The table is the sixty starts: of each minute of an hour, how many valid labels ST 12-1 has before its first one.
pub table_of_starts : MINUTE_STARTS ≡ minute_starts
table_of_starts = MinuteStarts.table_of_starts

-- The first number, the second and the last.
pub starts_named : (minute_start 0 ≡ 0) × ((minute_start 1 ≡ 1800) × (minute_start 59 ≡ 106094))
starts_named = MinuteStarts.starts_named

-- By the rule: 1,800 for each minute before, less 2 for each but every tenth.
pub minute_start_is : (m : ℕ) → m ≤ 59 → minute_start m ≡ labels_of_minutes m
minute_start_is = MinuteStarts.minute_start_is

pub count_by_minutes : (h m : ℕ) → h ≤ 23 → m ≤ 59 → count_before (first_of_minute h m) ≡ labels_of_minutes (h * 60 + m)
count_by_minutes = MinuteStarts.count_by_minutes

-- In every hour: 107,892 labels for each hour before, and the minute's start.
pub start_in_hour : (h m : ℕ) (t : MtcTime) → FirstOfMinute h m t → count_before t ≡ h * 107892 + minute_start m
start_in_hour = MinuteStarts.start_in_hour

-- The count of any label with minutes below 60 by its minute's number, also of one that is skipped or otherwise invalid.
pub count_in_hour : (t : MtcTime) → t.rate ≡ Fps30Drop → t.minutes < 60
    → frame_count t ≡ (t.hours * 107892 + get_or MINUTE_STARTS t.minutes 0 + t.seconds * 30 + t.frames - skipped_in t.minutes) % 2589408
count_in_hour = MinuteStarts.count_in_hour

-- The count of any label at all: minutes from 60 on count in the hours that follow.
pub count_by_table : (t : MtcTime) (m : ℕ) → t.rate ≡ Fps30Drop → m ≡ t.hours * 60 + t.minutes
    → frame_count t ≡ (m / 60 * 107892 + get_or MINUTE_STARTS (m % 60) 0 + t.seconds * 30 + t.frames - skipped_in m) % 2589408
count_by_table = MinuteStarts.count_by_table

-- ---- by ST 12-1

-- On valid labels the reference count is ST 12-1's.
pub count_is_practice : (t : MtcTime) → T (is_valid t) → frame_count t ≡ count_before t
count_is_practice = DayCount.count_is_practice

-- Each day has 2,073,600, 2,160,000, 2,589,408 or 2,592,000 labels.
pub labels_of_day_lem : (r : TimeCodeType) → labels_of_day r ≡ day_of r
labels_of_day_lem = DayCount.labels_of_day_lem

-- Moving by 1 is ST 12-1's label after.
pub moved_by_one : (t : MtcTime) → T (is_valid t) → add_frames t (pos 1) ≡ label_after t
moved_by_one = LabelAfter.moved_by_one

-- Moving by minus 1 is ST 12-1's label before.
pub moved_back_one : (t : MtcTime) → T (is_valid t) → add_frames t (negsuc 0) ≡ label_before t
moved_back_one = LabelBefore.moved_back_one

-- The labels after and before a valid label are valid.
pub after_valid : (t : MtcTime) → T (is_valid t) → T (is_valid (label_after t))
after_valid = LabelBefore.after_valid

pub before_valid : (t : MtcTime) → T (is_valid t) → T (is_valid (label_before t))
before_valid = LabelBefore.before_valid

-- The label after the one before is the label itself, and so is the label before the one after.
pub after_before : (t : MtcTime) → T (is_valid t) → label_after (label_before t) ≡ t
after_before = LabelBefore.after_before

pub before_after : (t : MtcTime) → T (is_valid t) → label_before (label_after t) ≡ t
before_after = LabelBefore.before_after

-- A skipped label with hours and minutes in range moves to the least valid label above it.
pub next_valid_least : (t : MtcTime) → T (is_skipped t) → t.hours ≤ 23 → t.minutes ≤ 59 → LeastAbove t (next_valid t)
next_valid_least = LabelOrder.next_valid_least

-- A label that isn't skipped stays.
pub next_valid_same : (t : MtcTime) → is_skipped t ≡ false → next_valid t ≡ t
next_valid_same = LabelOrder.next_valid_same

-- So does a valid label, which is none of the skipped.
pub next_valid_valid : (t : MtcTime) → T (is_valid t) → next_valid t ≡ t
next_valid_valid t v = LabelOrder.next_valid_same t (Validity.valid_facts t v).kept

-- A label of numbers in their ranges is valid, at 30 drop-frame in a minute that skips none or past the two that are skipped.
pub in_range_valid : (r : TimeCodeType) (h m s f : ℕ) → h ≤ 23 → m ≤ 59 → s ≤ 59 → f < frames_per_second r
    → (is_drop_frame r ≡ true → (m % 10 ≡ 0) ⊎ (2 ≤ s * 30 + f)) → T (is_valid (label r h m s f))
in_range_valid = Validity.in_range_valid

-- 00:00:00:00 is a label of every rate, that of the count 0.
pub zero_valid : (r : TimeCodeType) → T (is_valid (label r 0 0 0 0))
zero_valid = Validity.zero_valid

pub label_zero : (r : TimeCodeType) → label r 0 0 0 0 ≡ label_at 0 r
label_zero = LabelAfter.label_zero
