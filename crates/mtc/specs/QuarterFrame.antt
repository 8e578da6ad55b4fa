-- What mtc.rs does with quarter frames, on every input, but that a byte of 80H or more is refused (document 02, #105): one definition for
-- each public call of src/quarter_frame.rt. Assumes nothing.
use Rattle.std.specs.Prelude.{ℕ, ◌+◌, ◌*◌, ◌/◌, ◌%◌, Bool, not, cond, List, [], ◌∷◌, leb, filter}
use Rattle.labels.specs.St12.{label}
use Rattle.labels.specs.Time.{bits_of}
use Rattle.labels.specs.declared.time.MtcTime.{MtcTime}
use Rattle.mtc.specs.declared.quarter_frame.QuarterFrame.{QuarterFrame}
use Rattle.universal.specs.Refusals.{Answer, gives, refused, refusal}

-- The piece in bits 4 to 6.
abbrev pub piece_of : ℕ → ℕ
piece_of byte = byte / 16 % 8

-- The value in bits 0 to 3.
abbrev pub value_of : ℕ → ℕ
value_of byte = byte % 16

-- A piece with its value.
abbrev pub quarter_frame : ℕ → ℕ → QuarterFrame
quarter_frame p v = record { piece = p; value = v }

-- A byte that is heard: a data byte, whose bit 7 is clear. One of 80H or more is a status byte.
abbrev pub is_heard : ℕ → Bool
is_heard byte = leb byte 0x7F

-- Those of a list that are heard, in order.
abbrev pub heard : List ℕ → List ℕ
heard bs = filter is_heard bs

-- And those that are not.
abbrev pub unheard : List ℕ → List ℕ
unheard bs = filter (λ b. not (is_heard b)) bs

-- The piece and the value of a byte that is heard; 13 for any other.
abbrev pub from_byte : ℕ → Answer QuarterFrame
from_byte byte = cond (is_heard byte) (gives (quarter_frame (piece_of byte) (value_of byte))) (refused (refusal 13))

-- Piece and value, each masked to its bits.
abbrev pub to_byte : QuarterFrame → ℕ
to_byte q = q.piece % 8 * 16 + q.value % 16

-- A label with its counts masked to their widths: five bits of frames and hours, six of seconds and minutes.
abbrev pub masked : MtcTime → MtcTime
masked t = label t.rate (t.hours % 32) (t.minutes % 64) (t.seconds % 64) (t.frames % 32)

-- The eight data bytes of a label, with the counts masked to their widths.
unfoldable pub pieces : MtcTime → List ℕ
pieces t =
    (t.frames % 16)
    ∷ (0x10 + t.frames / 16 % 2)
    ∷ (0x20 + t.seconds % 16)
    ∷ (0x30 + t.seconds / 16 % 4)
    ∷ (0x40 + t.minutes % 16)
    ∷ (0x50 + t.minutes / 16 % 4)
    ∷ (0x60 + t.hours % 16)
    ∷ (0x70 + bits_of t.rate * 2 + t.hours / 16 % 2)
    ∷ []
