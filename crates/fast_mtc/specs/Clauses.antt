-- What only the contracts of inner functions need, on the way to the label calls, `next_byte`, `receive` and `full_message`. Assumes nothing.
use Rattle.std.specs.Prelude.{ℕ, ◌+◌, ◌-◌, ◌%◌, ◌≤◌, ◌<◌, true, false, cond, List, ◌≡◌, ltb, eqb, length, get_or, Option, Some, None}
use Rattle.fast_mtc.specs.Reader.{flat_event, way_in, last_in, count_in, first_in, time_in, reader_in}
use Rattle.labels.specs.St12.{label, frames_per_second}
use Rattle.labels.specs.Time.{bits_of, type_of}
use Rattle.labels.specs.declared.time.MtcTime.{MtcTime}
use Rattle.mtc.specs.Generator.{opposite}
use Rattle.mtc.specs.Reader.{ordered, starts, number_after, reader_by_number, event_with, sequence_of_label, sequence_of, completed, after_heard, event_heard}
use Rattle.mtc.specs.declared.generator.Direction.{Direction}
use Rattle.mtc.specs.declared.generator.Direction.TheVariants.{Forward, Reverse}
use Rattle.mtc.specs.declared.generator.MtcGenerator.{MtcGenerator}
use Rattle.mtc.specs.declared.reader.MtcSequence.{MtcSequence}

-- Two bits stand for a rate of so many frames a second.
pub record RateOf (f b : ℕ) : Type 0 where
  pub frames : f ≡ frames_per_second (type_of b)
  pub bits : b ≡ bits_of (type_of b)

-- ---- a generator

-- At another time.
abbrev pub moved_to : MtcGenerator → MtcTime → MtcGenerator
moved_to g t = record { time = t; direction = g.direction; last = g.last; running = g.running }

-- Having just sent a piece.
abbrev pub sent_by : MtcGenerator → ℕ → MtcGenerator
sent_by g p = record { time = g.time; direction = g.direction; last = Some p; running = g.running }

-- ---- the order, by the direction

-- In a sequence, by the next piece.
abbrev pub order_in : Direction → ℕ → ℕ
order_in Forward next = next
order_in Reverse next = next + 8

-- In no sequence.
abbrev pub order_out : Direction → ℕ → ℕ
order_out Forward next = 16 + next
order_out Reverse next = 24 + next

-- After the first piece alone, which gives no direction yet.
abbrev pub order_begun : Direction → ℕ
order_begun Forward = 40
order_begun Reverse = 41

-- The orders in a sequence, and those in none.
abbrev pub InSequence : Direction → ℕ → Type 0
InSequence Forward k = k < 8
InSequence Reverse k = (8 ≤ k) × (k < 16)

abbrev pub OutOfSequence : Direction → ℕ → Type 0
OutOfSequence Forward k = (16 ≤ k) × (k < 24)
OutOfSequence Reverse k = (24 ≤ k) × (k < 32)

-- The piece before the last one.
abbrev pub turning : Direction → ℕ → ℕ
turning Forward k = (k + 6) % 8
turning Reverse k = (k + 2) % 8

-- The direction after a piece that does not follow the last one: the one before the last turns it.
abbrev pub passing : Direction → ℕ → ℕ → Option Direction
passing d k p = cond (eqb (turning d k) p) (Some (opposite d)) (Some d)

-- ---- a data byte

-- What a byte that is heard gives, and the reader that it leaves, in words.
pub record Received (before : List ℕ) (byte e : ℕ) (left : List ℕ) : Type 0 where
  pub event : e ≡ flat_event (event_heard (reader_in before) byte)
  pub reader : reader_in left ≡ after_heard (reader_in before) byte

-- What a piece that is not the next one gives, in the direction that it leaves.
pub record PassedPiece (direction : Option Direction) (before : List ℕ) (piece value e : ℕ) (left : List ℕ) : Type 0 where
  pub event : e ≡ flat_event (event_with piece None)
  pub reader : reader_in left
      ≡ reader_by_number (reader_in before) (ordered false direction true) (number_after 0 (starts direction piece)) piece value

-- The first piece stands in its word.
pub record FirstKept (ws : List ℕ) : Type 0 where
  pub first : first_in (get_or ws 8 0) (get_or ws 9 0) ≡ get_or ws 9 0 % 8
  pub words : length ws ≡ 15

-- What the end of a sequence gives, by the words with its last piece.
pub record SequenceEnded (piece : ℕ) (before : List ℕ) (e : ℕ) (left : List ℕ) : Type 0 where
  pub event : e ≡ flat_event (event_with piece (Some (sequence_of (reader_in before))))
  pub reader : reader_in left ≡ completed (reader_in before)

-- ---- a full message

-- An order that keeps the direction and has no pieces.
pub record StoppedOrder (order stopped : ℕ) : Type 0 where
  pub direction : way_in stopped ≡ way_in order
  pub last : last_in stopped ≡ None
  pub count : count_in stopped ≡ 0
  pub first : (kept : ℕ) → first_in stopped kept ≡ kept % 8
  pub running : ltb stopped 42 ≡ false

-- ---- a steady label

-- The current frames, by a label's in the same second.
abbrev pub nearby : Direction → ℕ → ℕ
nearby Forward f = f + 2
nearby Reverse f = f - 1

-- The report of a label that comes a sequence after the previous one, with the current one, all in one second.
unfoldable pub steady : Direction → MtcTime → MtcSequence
steady d t =
    record {
      raw = t;
      current = label t.rate t.hours t.minutes t.seconds (nearby d t.frames);
      direction = d;
      discontinuity = false;
    }

-- What holds of one.
pub record SteadyLabel (ws : List ℕ) (raw : MtcTime) (d : Direction) : Type 0 where
  pub most : raw.frames ≤ 27
  pub least : 1 ≤ raw.frames
  pub report : sequence_of_label raw d (time_in (get_or ws 11 0) (get_or ws 12 0)) ≡ steady d raw
