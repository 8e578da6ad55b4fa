-- What mtc.rs does with labels, on every input: one definition for each public call of src/time.rt. Assumes nothing.
use Rattle.std.specs.Prelude.{ℕ, ◌+◌, ◌-◌, ◌*◌, ◌/◌, ◌%◌, ◌≤◌, ◌<◌, ◌≡◌, false, cond, ℤ, pos, negsuc, eqb}
use Rattle.labels.specs.St12.{label, frames_per_second, is_skipped, is_valid, past_skipped}
use Rattle.labels.specs.declared.time.MtcTime.{MtcTime}
use Rattle.labels.specs.declared.time.TimeCodeType.{TimeCodeType}
use Rattle.labels.specs.declared.time.TimeCodeType.TheVariants.{Fps24, Fps25, Fps30Drop, Fps30}
use Rattle.universal.specs.Refusals.{Answer, gives, refused, refusal}

-- ---- the rate's two bits

abbrev pub bits_of : TimeCodeType → ℕ
bits_of Fps24 = 0
bits_of Fps25 = 1
bits_of Fps30Drop = 2
bits_of Fps30 = 3

-- Two bits as a rate; 3 and more is 30.
abbrev pub rate_at : ℕ → TimeCodeType
rate_at n = cond (eqb n 0) Fps24 (cond (eqb n 1) Fps25 (cond (eqb n 2) Fps30Drop Fps30))

abbrev pub type_of : ℕ → TimeCodeType
type_of byte = rate_at (byte % 4)

-- ---- making a label

-- The label, or refusal 3.
abbrev pub new_time : MtcTime → Answer MtcTime
new_time t = cond (is_valid t) (gives t) (refused (refusal 3))

-- A skipped label with frames 02; any other as it is.
abbrev pub next_valid : MtcTime → MtcTime
next_valid t = past_skipped t

-- Four bytes masked to their widths, with the rate in bits 5 and 6 of the hours.
abbrev pub raw_time : ℕ → ℕ → ℕ → ℕ → MtcTime
raw_time h m s f = label (type_of (h / 32)) (h % 32) (m % 64) (s % 64) (f % 32)

abbrev pub hours_byte : MtcTime → ℕ
hours_byte t = bits_of t.rate * 32 + t.hours % 32

-- ---- counts

-- The frames of 24 hours.
abbrev pub day_of : TimeCodeType → ℕ
day_of Fps24 = 2073600
day_of Fps25 = 2160000
day_of Fps30Drop = 2589408
day_of Fps30 = 2592000

-- The formula, from whole minutes, seconds and frames: at drop-frame two numbers are taken off for each minute but every tenth.
abbrev pub formula : TimeCodeType → ℕ → ℕ → ℕ → ℕ
formula Fps24 m s f = (m * 60 + s) * 24 + f
formula Fps25 m s f = (m * 60 + s) * 25 + f
formula Fps30Drop m s f = (m * 60 + s) * 30 + f - 2 * (m - m / 10)
formula Fps30 m s f = (m * 60 + s) * 30 + f

-- Any label's count, reduced by the day.
unfoldable pub frame_count : MtcTime → ℕ
frame_count t = formula t.rate (t.hours * 60 + t.minutes) t.seconds t.frames % day_of t.rate

-- A count with the skipped numbers put back in.
abbrev pub with_skipped : TimeCodeType → ℕ → ℕ
with_skipped Fps24 n = n
with_skipped Fps25 n = n
with_skipped Fps30Drop n = n + 18 * (n / 17982) + 2 * ((n % 17982 - 2) / 1798)
with_skipped Fps30 n = n

-- Whole seconds and frames as a label.
abbrev pub label_at_second : TimeCodeType → ℕ → ℕ → MtcTime
label_at_second r seconds f = label r (seconds / 3600) (seconds / 60 % 60) (seconds % 60) f

-- The label that is numbered n where none is skipped.
abbrev pub numbered : TimeCodeType → ℕ → MtcTime
numbered r n = label_at_second r (n / frames_per_second r) (n % frames_per_second r)

-- The label of a count, taken round the day.
unfoldable pub label_at : ℕ → TimeCodeType → MtcTime
label_at n r = numbered r (with_skipped r (n % day_of r))

-- A signed number modulo d.
unfoldable pub mod_z : ℤ → ℕ → ℕ
mod_z (pos n) d = n % d
mod_z (negsuc n) d = d - 1 - n % d

-- The label a signed distance away, round midnight.
unfoldable pub add_frames : MtcTime → ℤ → MtcTime
unfolding frame_count label_at mod_z
add_frames t d = label_at (frame_count t + mod_z d (day_of t.rate)) t.rate

-- ---- what holds of a valid label

-- Its numbers are in their ranges, and it is none of the skipped.
pub record InRange (t : MtcTime) : Type 0 where
  pub hours : t.hours ≤ 23
  pub minutes : t.minutes ≤ 59
  pub seconds : t.seconds ≤ 59
  pub frames : t.frames < frames_per_second t.rate
  pub kept : is_skipped t ≡ false

-- The widths in which RP-004/008 and RP-013 send a label's numbers: five bits of frames and hours, six of seconds and minutes.
pub record Widths (t : MtcTime) : Type 0 where
  pub frames : t.frames < 32
  pub seconds : t.seconds < 64
  pub minutes : t.minutes < 64
  pub hours : t.hours < 32
