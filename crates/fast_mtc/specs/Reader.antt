-- Readers as fifteen words, their events as numbers, and back. Assumes nothing.
use Rattle.mtc.specs.declared.generator.Direction.{Direction}
use Rattle.std.specs.Prelude.{ℕ, ◌+◌, ◌-◌, ◌*◌, ◌/◌, ◌%◌, Bool, true, false, cond, List, [], ◌∷◌, ltb, eqb, get_or, Option, Some, None}
use Rattle.fast_mtc.specs.Generator.{direction_at, flat_direction, flat_piece, is_set}
use Rattle.fast_mtc.specs.Time.{flat_time, no_time}
use Rattle.fast_mtc.specs.declared.words.FlatMaybeTime.{FlatMaybeTime}
use Rattle.fast_mtc.specs.declared.words.FlatReaderFields.{FlatReaderFields}
use Rattle.fast_mtc.specs.declared.report.FlatMaybeSequence.{FlatMaybeSequence}
use Rattle.fast_mtc.specs.declared.report.FlatSequence.{FlatSequence}
use Rattle.labels.specs.St12.{label}
use Rattle.labels.specs.Time.{type_of}
use Rattle.mtc.specs.declared.generator.Direction.TheVariants.{Forward, Reverse}
use Rattle.mtc.specs.declared.reader.MtcEvent.{MtcEvent}
use Rattle.mtc.specs.declared.reader.MtcReader.{MtcReader}
use Rattle.mtc.specs.declared.reader.MtcSequence.{MtcSequence}
use Rattle.labels.specs.declared.time.MtcTime.{MtcTime}
use Rattle.labels.specs.declared.time.TimeCodeType.{TimeCodeType}
use Rattle.universal.specs.Refusals.{Answer, gives, refused}

unfoldable pub flat_way : Option Direction → ℕ
flat_way None = 255
flat_way (Some d) = flat_direction d

unfoldable pub flat_maybe_time : Option MtcTime → FlatMaybeTime
flat_maybe_time None = record { present = false; time = no_time }
flat_maybe_time (Some t) = record { present = true; time = flat_time t }

-- A truth as a bit.
abbrev pub bit_of : Bool → ℕ
bit_of b = cond b 1 0

-- ---- the order: direction, last piece, count and first piece in one number
--
-- 0 to 7     forward, in a sequence that began at piece 0: the number is the next piece, and as many are held
-- 8 to 15    in reverse, in one that began at piece 7: the next piece and 8
-- 16 to 23   forward, in no sequence: the next piece and 16
-- 24 to 31   in reverse, in no sequence: the next piece and 24
-- 32 to 39   no direction, in no sequence: the last piece and 32
-- 40, 41     no direction: piece 0, piece 7 has begun a sequence
-- 42, 43     forward, in reverse, after no piece
-- any other  no direction and no piece

unfoldable pub way_in : ℕ → Option Direction
way_in k =
    cond (ltb k 8) (Some Forward)
    (cond (ltb k 16) (Some Reverse)
    (cond (ltb k 24) (Some Forward)
    (cond (ltb k 32) (Some Reverse) (cond (eqb k 42) (Some Forward) (cond (eqb k 43) (Some Reverse) None)))))

-- The piece before the next one, in the direction.
unfoldable pub last_in : ℕ → Option ℕ
last_in k =
    cond (ltb k 8) (Some ((k + 7) % 8))
    (cond (ltb k 16) (Some ((k + 1) % 8))
    (cond (ltb k 24) (Some ((k + 7) % 8))
    (cond (ltb k 32) (Some ((k + 1) % 8))
    (cond (ltb k 40) (Some (k % 8)) (cond (eqb k 40) (Some 0) (cond (eqb k 41) (Some 7) None))))))

unfoldable pub count_in : ℕ → ℕ
count_in k = cond (ltb k 8) k (cond (ltb k 16) (15 - k) (cond (eqb k 40) 1 (cond (eqb k 41) 1 0)))

-- In a sequence the first piece is known by the order; else it is the one kept.
unfoldable pub first_in : ℕ → ℕ → ℕ
first_in k kept = cond (ltb k 8) 0 (cond (ltb k 16) 7 (cond (eqb k 40) 0 (cond (eqb k 41) 7 (kept % 8))))

-- ---- a reader in fifteen words

-- A label in a word: a byte each of hours, minutes, seconds and frames, from below.
unfoldable pub label_in : TimeCodeType → ℕ → MtcTime
label_in rate w = label rate (w % 256) (w / 256 % 256) (w / 65536 % 256) (w / 16777216 % 256)

-- A label, or none, by a mark beside its word: its lowest bit says whether there is one, the two above it the rate.
unfoldable pub time_in : ℕ → ℕ → Option MtcTime
time_in mark w = cond (is_set (mark % 2)) (Some (label_in (type_of (mark / 2)) w)) None

-- The nibbles: of the first eight words the four low bits.
unfoldable pub nibbles_in : List ℕ → List ℕ
nibbles_in ws =
    (get_or ws 0 0 % 16)
    ∷ (get_or ws 1 0 % 16)
    ∷ (get_or ws 2 0 % 16)
    ∷ (get_or ws 3 0 % 16)
    ∷ (get_or ws 4 0 % 16)
    ∷ (get_or ws 5 0 % 16)
    ∷ (get_or ws 6 0 % 16)
    ∷ (get_or ws 7 0 % 16)
    ∷ []

-- The reader of its nibbles, the order, the first piece, the lock, and the marks and words of the previous and the current label. Any
-- words stand for one in its ranges. It runs where there is a last piece.
unfoldable pub reader_in : List ℕ → MtcReader
reader_in ws =
    record {
      nibbles = nibbles_in ws;
      count = count_in (get_or ws 8 0);
      first = first_in (get_or ws 8 0) (get_or ws 9 0);
      last = last_in (get_or ws 8 0);
      direction = way_in (get_or ws 8 0);
      locked = is_set (get_or ws 10 0);
      running = ltb (get_or ws 8 0) 42;
      previous = time_in (get_or ws 11 0) (get_or ws 12 0);
      time = time_in (get_or ws 13 0) (get_or ws 14 0);
    }

-- The same field by field.
unfoldable pub reader_fields : MtcReader → FlatReaderFields
reader_fields r =
    record {
      nibbles = r.nibbles;
      count = r.count;
      first = r.first;
      last = flat_piece r.last;
      direction = flat_way r.direction;
      locked = r.locked;
      running = r.running;
      previous = flat_maybe_time r.previous;
      time = flat_maybe_time r.time;
    }

-- ---- events and reports as numbers

-- A report: 1, and above it the direction and the discontinuity. 0 is none. Its labels stay in the reader.
unfoldable pub flat_report : Option MtcSequence → ℕ
flat_report None = 0
flat_report (Some s) = 1 + flat_direction s.direction * 2 + bit_of s.discontinuity * 4

-- An event: the piece in the lowest byte, the boundary in the bit above it, and from there on the report.
unfoldable pub flat_event : MtcEvent → ℕ
flat_event e = e.piece + bit_of e.boundary * 256 + flat_report e.sequence * 512

-- From this number on, which has 1 in the highest byte, a byte was refused; every event is below it.
abbrev pub refused_from : ℕ
refused_from = 0x100000000000000

-- What a byte is answered, as one number: an event's, or a refusal's number in the highest byte alone.
unfoldable pub flat_byte_answer : Answer MtcEvent → ℕ
flat_byte_answer (gives e) = flat_event e
flat_byte_answer (refused r) = r.number * refused_from

-- A label, or all zeros.
abbrev pub label_or : Option MtcTime → MtcTime
label_or None = label (type_of 0) 0 0 0 0
label_or (Some t) = t

-- And back: the report of a number, with the labels of the reader that it left. It is none where its lowest bit is 0.
unfoldable pub report_in : MtcReader → ℕ → Option MtcSequence
report_in r n =
    cond (is_set (n % 2))
    (Some (record {
      raw = label_or r.previous;
      current = label_or r.time;
      direction = direction_at (n / 2 % 2);
      discontinuity = is_set (n / 4 % 2);
    })) None

unfoldable pub flat_sequence : MtcSequence → FlatSequence
flat_sequence s =
    record {
      raw = flat_time s.raw;
      current = flat_time s.current;
      direction = flat_direction s.direction;
      discontinuity = s.discontinuity;
    }

-- All zeros, where there is no report.
abbrev pub no_sequence : FlatSequence
no_sequence = record { raw = no_time; current = no_time; direction = 0; discontinuity = false }

unfoldable pub flat_maybe_sequence : Option MtcSequence → FlatMaybeSequence
flat_maybe_sequence None = record { present = false; sequence = no_sequence }
flat_maybe_sequence (Some s) = record { present = true; sequence = flat_sequence s }
