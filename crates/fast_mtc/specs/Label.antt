-- A label as one number, in a register. Assumes nothing.
use Rattle.std.specs.Prelude.{ℕ, ◌+◌, ◌*◌}
use Rattle.labels.specs.Time.{bits_of}
use Rattle.labels.specs.declared.time.MtcTime.{MtcTime}

-- The hours in the lowest byte, above them the minutes, the seconds, the frames and the rate.
unfoldable pub label_number : MtcTime → ℕ
label_number t =
    t.hours + t.minutes * 256 + t.seconds * 65536 + t.frames * 16777216 + bits_of t.rate * 4294967296
