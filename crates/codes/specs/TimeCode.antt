-- What mmc.rs does with time code fields, on every input: five bytes or two, read and written. Assumes nothing.
use Rattle.std.specs.Prelude.{ℕ, ◌+◌, ◌-◌, ◌*◌, ◌/◌, ◌%◌, Bool, true, false, cond, ◌&&◌, List, [], ◌∷◌, leb, eqb, get_or, Option, Some, None}
use Rattle.codes.specs.declared.time_code.TimeCodeStatus.{TimeCodeStatus}
use Rattle.codes.specs.declared.time_code.FinalByte.{FinalByte}
use Rattle.codes.specs.declared.time_code.FinalByte.TheVariants.{Subframes, Status}
use Rattle.codes.specs.declared.time_code.StandardTimeCode.{StandardTimeCode}
use Rattle.codes.specs.declared.time_code.ShortTimeCode.{ShortTimeCode}
use Rattle.labels.specs.St12.{is_valid, label}
use Rattle.labels.specs.Time.{hours_byte, raw_time}
use Rattle.labels.specs.declared.time.MtcTime.{MtcTime}
use Rattle.universal.specs.Refusals.{Answer, gives, refused, refusal}

-- ---- bits

-- Bit n of a byte, by its weight 2 ^ n.
abbrev pub bit : ℕ → ℕ → Bool
bit weight byte = eqb (byte / weight % 2) 1

-- A flag's weight in a byte.
abbrev pub flag : ℕ → Bool → ℕ
flag weight b = cond b weight 0

-- ---- the last byte

-- The four marks of a status byte; reserved bits are ignored.
abbrev pub read_status : ℕ → TimeCodeStatus
read_status byte =
    record {
      estimated = bit 64 byte;
      invalid = bit 32 byte;
      video_field1 = bit 16 byte;
      no_time_code = bit 8 byte;
    }

-- The status byte, with the reserved bits 0.
abbrev pub status_byte : TimeCodeStatus → ℕ
status_byte st = flag 64 st.estimated + flag 32 st.invalid + flag 16 st.video_field1 + flag 8 st.no_time_code

-- Bit 5 of the frames byte tells the form of the last byte.
abbrev pub read_final : ℕ → ℕ → FinalByte
read_final fr ff = cond (bit 32 fr) (Status (read_status ff)) (Subframes (ff % 128))

-- May be written: subframes up to 99, any status.
abbrev pub final_fits : FinalByte → Bool
final_fits (Subframes s) = leb s 99
final_fits (Status st) = true

-- Its bit of the frames byte.
abbrev pub final_mark : FinalByte → ℕ
final_mark (Subframes s) = 0
final_mark (Status st) = 32

-- The byte itself.
abbrev pub final_value : FinalByte → ℕ
final_value (Subframes s) = s
final_value (Status st) = status_byte st

-- The frames byte: the sign, the form of the last byte, and the frames.
abbrev pub frames_byte : FinalByte → Bool → ℕ → ℕ
frames_byte f negative frames = flag 64 negative + final_mark f + frames

-- ---- five bytes

-- Each count is masked to its width.
unfoldable pub read_standard : ℕ → ℕ → ℕ → ℕ → ℕ → StandardTimeCode
read_standard hr mn sc fr ff =
    record {
      time = raw_time hr mn sc fr;
      color_frame = bit 64 mn;
      blank = bit 64 sc;
      negative = bit 64 fr;
      final_byte = read_final fr ff;
    }

-- The label that is written: zeros where the code is blank.
abbrev pub written_label : StandardTimeCode → MtcTime
written_label c = cond c.blank (label c.time.rate 0 0 0 0) c.time

-- May be written: a last byte that may, and a blank or a valid label.
unfoldable pub standard_fits : StandardTimeCode → Bool
standard_fits c = final_fits c.final_byte && is_valid (written_label c)

-- The five bytes.
unfoldable pub standard_list : StandardTimeCode → List ℕ
standard_list c =
    hours_byte (written_label c)
    ∷ (flag 64 c.color_frame + (written_label c).minutes)
    ∷ (flag 64 c.blank + (written_label c).seconds)
    ∷ frames_byte c.final_byte c.negative (written_label c).frames
    ∷ final_value c.final_byte
    ∷ []

-- The bytes, or 3.
abbrev pub standard_bytes : StandardTimeCode → Answer (List ℕ)
standard_bytes c = cond (standard_fits c) (gives (standard_list c)) (refused (refusal 3))

-- ---- two bytes

-- The frames are masked to their width.
unfoldable pub read_short : ℕ → ℕ → ShortTimeCode
read_short fr ff = record { frames = fr % 32; negative = bit 64 fr; final_byte = read_final fr ff }

-- May be written: frames up to 29, and a last byte that may.
unfoldable pub short_fits : ShortTimeCode → Bool
short_fits c = leb c.frames 29 && final_fits c.final_byte

-- The two bytes.
unfoldable pub short_list : ShortTimeCode → List ℕ
short_list c = frames_byte c.final_byte c.negative c.frames ∷ final_value c.final_byte ∷ []

-- The bytes, or 3.
abbrev pub short_bytes : ShortTimeCode → Answer (List ℕ)
short_bytes c = cond (short_fits c) (gives (short_list c)) (refused (refusal 3))

-- ---- forms

-- The short form of a code: frames, sign and last byte.
abbrev pub short_form : StandardTimeCode → ShortTimeCode
short_form c = record { frames = c.time.frames; negative = c.negative; final_byte = c.final_byte }

-- A code with a short form's frames, sign and last byte.
abbrev pub with_short : StandardTimeCode → ShortTimeCode → StandardTimeCode
with_short c s =
    record {
      time = label c.time.rate c.time.hours c.time.minutes c.time.seconds s.frames;
      color_frame = c.color_frame;
      blank = c.blank;
      negative = s.negative;
      final_byte = s.final_byte;
    }

-- A code with another last byte.
abbrev pub with_final : StandardTimeCode → FinalByte → StandardTimeCode
with_final c f =
    record { time = c.time; color_frame = c.color_frame; blank = c.blank; negative = c.negative; final_byte = f }

-- A status becomes subframes 0; subframes stay.
abbrev pub final_subframes : FinalByte → FinalByte
final_subframes (Subframes s) = Subframes s
final_subframes (Status st) = Subframes 0

-- Subframes become a status with d as given and n set; a status stays.
abbrev pub final_status : Bool → FinalByte → FinalByte
final_status d (Subframes s) = Status (record { estimated = false; invalid = false; video_field1 = d; no_time_code = true })
final_status d (Status st) = Status st

-- A code with its last byte as subframes.
abbrev pub subframes_form : StandardTimeCode → StandardTimeCode
subframes_form c = with_final c (final_subframes c.final_byte)

-- A code with its last byte as a status.
abbrev pub status_form : StandardTimeCode → Bool → StandardTimeCode
status_form c d = with_final c (final_status d c.final_byte)

-- ---- read back, and written again

-- What five bytes of a list read as.
abbrev pub read_five : List ℕ → StandardTimeCode
read_five bytes = read_standard (get_or bytes 0 0) (get_or bytes 1 0) (get_or bytes 2 0) (get_or bytes 3 0) (get_or bytes 4 0)

-- What two bytes of a list read as.
abbrev pub read_two : List ℕ → ShortTimeCode
read_two bytes = read_short (get_or bytes 0 0) (get_or bytes 1 0)

-- A code with its label as zeros where it is blank.
abbrev pub zeroed : StandardTimeCode → StandardTimeCode
zeroed c =
    record {
      time = written_label c;
      color_frame = c.color_frame;
      blank = c.blank;
      negative = c.negative;
      final_byte = c.final_byte;
    }

-- A byte without bit 7 and, where told, without the bits below a weight.
abbrev pub cleared : Bool → ℕ → ℕ → ℕ
cleared told weight byte = cond told (byte % 128 / weight * weight) (byte % 128)

-- Five bytes that were read, as they are written again: without bit 7, without the label where the code is blank, and
-- without the reserved bits of a status.
abbrev pub standard_again : ℕ → ℕ → ℕ → ℕ → ℕ → List ℕ
standard_again hr mn sc fr ff =
    cleared (bit 64 sc) 32 hr
    ∷ cleared (bit 64 sc) 64 mn
    ∷ cleared (bit 64 sc) 64 sc
    ∷ cleared (bit 64 sc) 32 fr
    ∷ cleared (bit 32 fr) 8 ff
    ∷ []

-- Two, likewise.
abbrev pub short_again : ℕ → ℕ → List ℕ
short_again fr ff = cleared false 32 fr ∷ cleared (bit 32 fr) 8 ff ∷ []

-- ---- names

-- 01H to 1FH have the short name 20H higher.
abbrev pub short_name_of : ℕ → Option ℕ
short_name_of n = cond (leb 1 n && leb n 31) (Some (n + 32)) None

-- 21H to 3FH have the full name 20H lower.
abbrev pub full_name : ℕ → Option ℕ
full_name n = cond (leb 33 n && leb n 63) (Some (n - 32)) None
