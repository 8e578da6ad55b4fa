-- MIDI Time Code, RP-004/008: the data byte of a quarter frame message, the eight pieces of a label, their order, the sequences
-- from a label on, the frame boundaries and the current time, in the document's order. Left out: cueing and set-up messages.
-- Assumes nothing.
use Rattle.std.specs.Prelude.{ℕ, zero, suc, ◌+◌, ◌*◌, ◌/◌, ◌%◌, ◌<◌, Bool, ◌||◌, List, [], ◌∷◌, ◌++◌, reverse, eqb}
use Rattle.labels.specs.St12.{label_after, label_before}
use Rattle.labels.specs.declared.time.MtcTime.{MtcTime}
use Rattle.labels.specs.declared.time.TimeCodeType.{TimeCodeType}
use Rattle.labels.specs.declared.time.TimeCodeType.TheVariants.{Fps24, Fps25, Fps30Drop, Fps30}
use Rattle.mtc.specs.declared.generator.Direction.{Direction}
use Rattle.mtc.specs.declared.generator.Direction.TheVariants.{Forward, Reverse}

-- ---- p. 1: the data byte

-- 0nnn dddd: message type nnn, which is the piece, and the nibble dddd.
abbrev pub data_byte : ℕ → ℕ → ℕ
data_byte nnn dddd = nnn * 16 + dddd

-- ---- p. 2: the pieces of a label

-- Time code type: 0 is 24, 1 is 25, 2 is 30 drop-frame, 3 is 30 frames per second.
abbrev pub type_code : TimeCodeType → ℕ
type_code Fps24 = 0
type_code Fps25 = 1
type_code Fps30Drop = 2
type_code Fps30 = 3

-- Frame count xxx yyyyy, seconds and minutes count xx yyyyyy, hours count x yy zzzzz with the type in yy: five bits of frames
-- and hours, six of seconds and minutes.
pub record InWidths (t : MtcTime) : Type 0 where
  pub frames : t.frames < 32
  pub seconds : t.seconds < 64
  pub minutes : t.minutes < 64
  pub hours : t.hours < 32

-- The hours count: the type, and the hours below it. Undefined and reserved bits, x, are 0.
abbrev pub hours_count : MtcTime → ℕ
hours_count t = type_code t.rate * 32 + t.hours

-- The LS and the MS nibble of a count.
abbrev pub low : ℕ → ℕ
low n = n % 16

abbrev pub high : ℕ → ℕ
high n = n / 16

-- Pieces 0 to 7: frames, seconds, minutes and hours, each LS nibble first.
unfoldable pub data_bytes : MtcTime → List ℕ
data_bytes t =
    data_byte 0 (low t.frames)
    ∷ data_byte 1 (high t.frames)
    ∷ data_byte 2 (low t.seconds)
    ∷ data_byte 3 (high t.seconds)
    ∷ data_byte 4 (low t.minutes)
    ∷ data_byte 5 (high t.minutes)
    ∷ data_byte 6 (low (hours_count t))
    ∷ data_byte 7 (high (hours_count t))
    ∷ []

-- ---- p. 3: sequences

-- Forward the pieces go from 0 to 7, in reverse from 7 to 0.
abbrev pub sequence : Direction → MtcTime → List ℕ
sequence Forward t = data_bytes t
sequence Reverse t = reverse (data_bytes t)

-- A sequence takes two frames: the next one has the label two after, in reverse the label two before.
abbrev pub next_label : Direction → MtcTime → MtcTime
next_label Forward t = label_after (label_after t)
next_label Reverse t = label_before (label_before t)

-- The data bytes of so many sequences, from a label on.
unfoldable pub sequences_from : Direction → MtcTime → ℕ → List ℕ
sequences_from d t zero = []
sequences_from d t (suc n) = sequence d t ++ sequences_from d (next_label d t) n

-- Pieces 0 and 4 stand on frame boundaries.
abbrev pub is_boundary : ℕ → Bool
is_boundary piece = eqb piece 0 || eqb piece 4

-- The current time at the end of a sequence forward: its label is two frames late. In reverse the page does not say.
abbrev pub current_time : MtcTime → MtcTime
current_time t = label_after (label_after t)
