-- Time code fields as flat records, and back: the last byte is a status byte or subframes. Assumes nothing.
use Rattle.std.specs.Prelude.{ℕ, Bool, true, false, cond, List, [], ◌∷◌, Option, Some, None}
use Rattle.fast_mtc.specs.Time.{time_of, flat_time, no_time}
use Rattle.fast_mmc.specs.declared.code.FlatCode.{FlatCode}
use Rattle.fast_mmc.specs.declared.code.FlatShort.{FlatShort}
use Rattle.fast_mmc.specs.declared.code.FlatStatus.{FlatStatus}
use Rattle.codes.specs.TimeCode.{read_status, final_value, standard_fits, standard_list, short_fits, short_list}
use Rattle.codes.specs.declared.time_code.FinalByte.{FinalByte}
use Rattle.codes.specs.declared.time_code.FinalByte.TheVariants.{Subframes, Status}
use Rattle.codes.specs.declared.time_code.ShortTimeCode.{ShortTimeCode}
use Rattle.codes.specs.declared.time_code.StandardTimeCode.{StandardTimeCode}
use Rattle.codes.specs.declared.time_code.TimeCodeStatus.{TimeCodeStatus}
use Rattle.universal.specs.Refusals.{Answer, gives, refused}

unfoldable pub status_of : FlatStatus → TimeCodeStatus
status_of s =
    record {
      estimated = s.estimated;
      invalid = s.invalid;
      video_field1 = s.video_field1;
      no_time_code = s.no_time_code;
    }

unfoldable pub flat_status : TimeCodeStatus → FlatStatus
flat_status s =
    record {
      estimated = s.estimated;
      invalid = s.invalid;
      video_field1 = s.video_field1;
      no_time_code = s.no_time_code;
    }

-- ---- the last byte

unfoldable pub final_of : Bool → ℕ → FinalByte
final_of status last = cond status (Status (read_status last)) (Subframes last)

unfoldable pub is_status : FinalByte → Bool
is_status (Subframes s) = false
is_status (Status s) = true

-- ---- five bytes and two

unfoldable pub code_of : FlatCode → StandardTimeCode
code_of c =
    record {
      time = time_of c.time;
      color_frame = c.color_frame;
      blank = c.blank;
      negative = c.negative;
      final_byte = final_of c.status c.last;
    }

unfoldable pub flat_code : StandardTimeCode → FlatCode
flat_code c =
    record {
      time = flat_time c.time;
      color_frame = c.color_frame;
      blank = c.blank;
      negative = c.negative;
      status = is_status c.final_byte;
      last = final_value c.final_byte;
    }

-- All zeros, where there is none.
abbrev pub no_code : FlatCode
no_code = record { time = no_time; color_frame = false; blank = false; negative = false; status = false; last = 0 }

unfoldable pub short_of : FlatShort → ShortTimeCode
short_of c = record { frames = c.frames; negative = c.negative; final_byte = final_of c.status c.last }

unfoldable pub flat_short : ShortTimeCode → FlatShort
flat_short c =
    record {
      frames = c.frames;
      negative = c.negative;
      status = is_status c.final_byte;
      last = final_value c.final_byte;
    }

abbrev pub no_short : FlatShort
no_short = record { frames = 0; negative = false; status = false; last = 0 }

-- ---- the bytes of a record, zeros on a refusal

-- The bytes of an answer, or these where it has none.
abbrev pub bytes_or : List ℕ → Answer (List ℕ) → List ℕ
bytes_or zeros (gives bs) = bs
bytes_or zeros (refused r) = zeros

-- Five bytes, and two.
abbrev pub five_bytes : Answer (List ℕ) → List ℕ
five_bytes a = bytes_or (0 ∷ 0 ∷ 0 ∷ 0 ∷ 0 ∷ []) a

abbrev pub two_bytes : Answer (List ℕ) → List ℕ
two_bytes a = bytes_or (0 ∷ 0 ∷ []) a

-- The bytes that come back with the answer: zeros on a refusal.
abbrev pub standard_left : StandardTimeCode → List ℕ
standard_left c = cond (standard_fits c) (standard_list c) (0 ∷ 0 ∷ 0 ∷ 0 ∷ 0 ∷ [])

abbrev pub short_left : ShortTimeCode → List ℕ
short_left c = cond (short_fits c) (short_list c) (0 ∷ 0 ∷ [])

-- ---- names

-- A name, or 0 for none.
unfoldable pub flat_name : Option ℕ → ℕ
flat_name None = 0
flat_name (Some n) = n
