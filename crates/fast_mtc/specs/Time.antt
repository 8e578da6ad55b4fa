-- Labels and quarter frames as flat records, and back. Assumes nothing.
use Rattle.std.specs.Prelude.{ℕ, ◌+◌, ◌/◌, ◌%◌, List, get_or}
use Rattle.fast_mtc.specs.declared.time.FlatFrame.{FlatFrame}
use Rattle.fast_mtc.specs.declared.time.FlatReadFrame.{FlatReadFrame}
use Rattle.fast_mtc.specs.declared.time.FlatTime.{FlatTime}
use Rattle.labels.specs.Time.{bits_of, type_of}
use Rattle.mtc.specs.declared.quarter_frame.QuarterFrame.{QuarterFrame}
use Rattle.labels.specs.declared.time.MtcTime.{MtcTime}
use Rattle.universal.specs.Refusals.{Answer, gives, refused}

-- The label: of the rate only the two low bits are read.
unfoldable pub time_of : FlatTime → MtcTime
time_of t =
    record { hours = t.hours; minutes = t.minutes; seconds = t.seconds; frames = t.frames; rate = type_of t.rate }

unfoldable pub flat_time : MtcTime → FlatTime
flat_time t =
    record { hours = t.hours; minutes = t.minutes; seconds = t.seconds; frames = t.frames; rate = bits_of t.rate }

unfoldable pub frame_of : FlatFrame → QuarterFrame
frame_of q = record { piece = q.piece; value = q.value }

unfoldable pub flat_frame : QuarterFrame → FlatFrame
flat_frame q = record { piece = q.piece; value = q.value }

-- What a byte is read as, or a refusal and zeros.
unfoldable pub flat_read_frame : Answer QuarterFrame → FlatReadFrame
flat_read_frame (gives q) = record { refusal = 0; frame = flat_frame q }
flat_read_frame (refused r) = record { refusal = r.number; frame = record { piece = 0; value = 0 } }

-- The label in the five bytes from a place on.
unfoldable pub time_at : List ℕ → ℕ → MtcTime
time_at bs k =
    record {
      hours = get_or bs k 0;
      minutes = get_or bs (k + 1) 0;
      seconds = get_or bs (k + 2) 0;
      frames = get_or bs (k + 3) 0;
      rate = type_of (get_or bs (k + 4) 0);
    }

-- The label of a number: hours in the lowest byte, above them minutes, seconds, frames and the rate.
unfoldable pub time_numbered : ℕ → FlatTime
time_numbered n =
    record {
      hours = n % 256;
      minutes = n / 256 % 256;
      seconds = n / 65536 % 256;
      frames = n / 16777216 % 256;
      rate = n / 4294967296 % 256;
    }

-- All zeros, where there is no label.
abbrev pub no_time : FlatTime
no_time = record { hours = 0; minutes = 0; seconds = 0; frames = 0; rate = 0 }
