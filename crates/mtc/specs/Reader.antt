-- What mtc.rs's reader does, on every record, but that it hears no byte of 80H or more (document 02, #105): one definition for each public
-- call of src/reader.rt. The count, the first and last piece and the direction decide what becomes of a piece; nibbles, times and marks are
-- carried along. Assumes nothing.
use Rattle.std.specs.Prelude.{ℕ, zero, suc, ◌+◌, ◌*◌, ◌%◌, ◌≤◌, ◌<◌, Bool, true, false, not, cond, ◌&&◌, ◌||◌, List, ◌≡◌, T, leb, ltb, eqb, ℤ, pos, negsuc, length, get_or, set, replicate, Option, Some, None}
use Rattle.mtc.specs.Generator.{first, after, sequence_frames}
use Rattle.mtc.specs.QuarterFrame.{piece_of, value_of, is_heard}
use Rattle.labels.specs.Time.{add_frames, raw_time, bits_of}
use Rattle.labels.specs.declared.time.MtcTime.{MtcTime}
use Rattle.mtc.specs.declared.generator.Direction.{Direction}
use Rattle.mtc.specs.declared.generator.Direction.TheVariants.{Forward, Reverse}
use Rattle.mtc.specs.declared.reader.MtcEvent.{MtcEvent}
use Rattle.mtc.specs.declared.reader.MtcReader.{MtcReader}
use Rattle.mtc.specs.declared.reader.MtcSequence.{MtcSequence}
use Rattle.universal.specs.Refusals.{Answer, gives, refused, refusal}

-- ---- fresh readers

-- No piece, no direction, no time; not locked, and stopped.
abbrev pub fresh : MtcReader
fresh =
    record {
      nibbles = replicate 8 0;
      count = 0;
      first = 0;
      last = None;
      direction = None;
      locked = false;
      running = false;
      previous = None;
      time = None;
    }

-- The first k nibbles are at most 15.
unfoldable pub nibbles_fit : ℕ → List ℕ → Bool
nibbles_fit zero n = true
nibbles_fit (suc k) n = nibbles_fit k n && leb (get_or n k 0) 15

-- No piece, or one of 0 to 7.
abbrev pub piece_fits : Option ℕ → Bool
piece_fits None = true
piece_fits (Some p) = leb p 7

-- Count and pieces at most 7, nibbles at most 15.
unfoldable pub is_sound : MtcReader → Bool
is_sound r = leb r.count 7 && (leb r.first 7 && (piece_fits r.last && nibbles_fit 8 r.nibbles))

-- A record that calls leave: sound, with its eight nibbles.
pub record Sound (r : MtcReader) : Type 0 where
  pub is_sound_record : T (is_sound r)
  pub eight : length r.nibbles ≡ 8

-- The bounds of such a record.
pub record Bounds (r : MtcReader) : Type 0 where
  pub count : r.count ≤ 7
  pub first : r.first ≤ 7
  pub last : (p : ℕ) → r.last ≡ Some p → p ≤ 7
  pub nibbles : (j : ℕ) → j < 8 → get_or r.nibbles j 0 ≤ 15
  pub eight : length r.nibbles ≡ 8

-- Any other record is taken as fresh.
unfoldable pub or_fresh : MtcReader → MtcReader
or_fresh r = cond (is_sound r) r fresh

-- ---- what decides: count, first and last piece, direction

-- The part of a reader that decides what becomes of a piece.
pub record Control : Type 0 where
  pub count : ℕ
  pub first : ℕ
  pub last : Option ℕ
  pub direction : Option Direction

abbrev pub control : MtcReader → Control
control r = record { count = r.count; first = r.first; last = r.last; direction = r.direction }

-- The direction in which a piece comes right after another.
abbrev pub direction_between : ℕ → ℕ → Option Direction
direction_between l p = cond (eqb (after Forward l) p) (Some Forward) (cond (eqb (after Reverse l) p) (Some Reverse) None)

-- How a piece stands to those before it: it is the next one in its direction; the direction that it leaves; it keeps the lock.
pub record Standing : Type 0 where
  pub next : Bool
  pub direction : Option Direction
  pub keeps : Bool

abbrev pub ordered : Bool → Option Direction → Bool → Standing
ordered next d keeps = record { next = next; direction = d; keeps = keeps }

-- Without a direction the second piece gives it, and goes on where the sequence began at that direction's first piece. A
-- piece beside the last one turns a direction and drops the lock; any other only drops the lock.
abbrev pub out_of_order : Control → Option Direction → Option Direction → Standing
out_of_order c None (Some f) = ordered (ltb 0 c.count && eqb c.first (first f)) (Some f) true
out_of_order c None None = ordered false None false
out_of_order c (Some d) (Some f) = ordered false (Some f) false
out_of_order c (Some d) None = ordered false (Some d) false

-- A piece after a last piece, in a direction: it is the next one, or out of order. The first piece of all is not the next one.
abbrev pub order_after : Control → Option ℕ → Option Direction → ℕ → Standing
order_after c None d p = ordered false d true
order_after c (Some l) None p = out_of_order c None (direction_between l p)
order_after c (Some l) (Some d) p =
    cond (eqb (after d l) p) (ordered true (Some d) true) (out_of_order c (Some d) (direction_between l p))

-- How a piece stands to those before it.
unfoldable pub order_of : Control → ℕ → Standing
order_of c p = order_after c c.last c.direction p

-- A piece starts a sequence: the first one of the direction, and without a direction 0 or 7.
abbrev pub starts : Option Direction → ℕ → Bool
starts None p = eqb p 0 || eqb p 7
starts (Some d) p = eqb p (first d)

-- The number of a piece in its sequence, 1 to 8, after `held` pieces; 0 where it belongs to none.
abbrev pub number_after : ℕ → Bool → ℕ
number_after held begins = cond (eqb held 0) (cond begins 1 0) (held + 1)

-- The number of a piece: a piece that is not the next one finds none held.
unfoldable pub number_of : Control → Standing → ℕ → ℕ
number_of c o p = number_after (cond o.next c.count 0) (starts o.direction p)

-- ---- what is carried along: nibbles and times

-- The label of eight nibbles.
abbrev pub raw_of : List ℕ → MtcTime
raw_of n =
    raw_time (get_or n 6 0 + get_or n 7 0 * 16) (get_or n 4 0 + get_or n 5 0 * 16) (get_or n 2 0 + get_or n 3 0 * 16)
    (get_or n 0 0 + get_or n 1 0 * 16)

-- The frames from a sequence's label to the current time: it is two frames late forward; in reverse play enters the frame
-- before it.
abbrev pub offset : Direction → ℤ
offset Forward = pos 2
offset Reverse = negsuc 0

-- Pieces that end without a direction count as forward.
abbrev pub direction_of : Option Direction → Direction
direction_of None = Forward
direction_of (Some d) = d

-- Two labels are one, rate included.
abbrev pub same_time : MtcTime → MtcTime → Bool
same_time t u =
    eqb t.hours u.hours
    && (eqb t.minutes u.minutes
    && (eqb t.seconds u.seconds && (eqb t.frames u.frames && eqb (bits_of t.rate) (bits_of u.rate))))

-- There is a previous label, and a sequence further on it is not this one.
abbrev pub jumps : Option MtcTime → Direction → MtcTime → Bool
jumps None d raw = false
jumps (Some t) d raw = not (same_time (add_frames t (sequence_frames d)) raw)

-- The report of a label, after a previous one.
abbrev pub sequence_of_label : MtcTime → Direction → Option MtcTime → MtcSequence
sequence_of_label raw d previous =
    record { raw = raw; current = add_frames raw (offset d); direction = d; discontinuity = jumps previous d raw }

-- The report of a reader that holds eight pieces.
unfoldable pub sequence_of : MtcReader → MtcSequence
sequence_of r = sequence_of_label (raw_of r.nibbles) (direction_of r.direction) r.previous

-- The reader that a whole sequence leaves.
abbrev pub completed : MtcReader → MtcReader
completed r =
    record {
      nibbles = r.nibbles;
      count = r.count;
      first = r.first;
      last = r.last;
      direction = r.direction;
      locked = true;
      running = r.running;
      previous = Some (sequence_of r).raw;
      time = Some (sequence_of r).current;
    }

-- ---- one piece

-- The reader after a piece, with these nibbles, count and first piece.
abbrev pub with_piece : MtcReader → Standing → ℕ → List ℕ → ℕ → ℕ → MtcReader
with_piece r o p nibbles count first =
    record {
      nibbles = nibbles;
      count = count;
      first = first;
      last = Some p;
      direction = o.direction;
      locked = o.keeps && r.locked;
      running = true;
      previous = r.previous;
      time = r.time;
    }

-- A piece that belongs to no sequence.
abbrev pub passed : MtcReader → Standing → ℕ → MtcReader
passed r o p = with_piece r o p r.nibbles 0 r.first

-- The n-th piece of a sequence.
abbrev pub stored : MtcReader → Standing → ℕ → ℕ → ℕ → MtcReader
stored r o n p v = with_piece r o p (set r.nibbles p v) (n % 8) (cond (eqb n 1) p r.first)

-- By the piece's number: it passes, completes a sequence, or is kept.
abbrev pub reader_by_number : MtcReader → Standing → ℕ → ℕ → ℕ → MtcReader
reader_by_number r o n p v =
    cond (eqb n 0) (passed r o p) (cond (eqb n 8) (completed (stored r o n p v)) (stored r o n p v))

-- Only the eighth piece reports.
abbrev pub report_by_number : MtcReader → Standing → ℕ → ℕ → ℕ → Option MtcSequence
report_by_number r o n p v = cond (eqb n 8) (Some (sequence_of (stored r o n p v))) None

-- A piece, with pieces 0 and 4 marking frame boundaries, and what it reports.
abbrev pub event_with : ℕ → Option MtcSequence → MtcEvent
event_with p s = record { piece = p; boundary = eqb p 0 || eqb p 4; sequence = s }

-- The reader that a piece and its value leave, and what they report.
unfoldable pub after_piece : MtcReader → ℕ → ℕ → MtcReader
after_piece r p v = reader_by_number r (order_of (control r) p) (number_of (control r) (order_of (control r) p) p) p v

unfoldable pub report_of : MtcReader → ℕ → ℕ → Option MtcSequence
report_of r p v = report_by_number r (order_of (control r) p) (number_of (control r) (order_of (control r) p) p) p v

-- ---- the calls

-- The reader that a heard byte leaves, and what that byte gives.
abbrev pub after_heard : MtcReader → ℕ → MtcReader
after_heard r byte = after_piece (or_fresh r) (piece_of byte) (value_of byte)

abbrev pub event_heard : MtcReader → ℕ → MtcEvent
event_heard r byte = event_with (piece_of byte) (report_of (or_fresh r) (piece_of byte) (value_of byte))

-- The reader that any byte leaves: one that is not heard leaves it as it was, whatever it was (document 02, #105).
abbrev pub after_byte : MtcReader → ℕ → MtcReader
after_byte r byte = cond (is_heard byte) (after_heard r byte) r

-- What any byte is answered: its event, or 13.
abbrev pub event_of : MtcReader → ℕ → Answer MtcEvent
event_of r byte = cond (is_heard byte) (gives (event_heard r byte)) (refused (refusal 13))

-- Where a report's labels stay: the reader that it leaves has both, and without a report those that it had.
abbrev pub ReportLabels : Option MtcSequence → MtcReader → MtcReader → Type 0
ReportLabels None before left = (left.previous ≡ before.previous) × (left.time ≡ before.time)
ReportLabels (Some s) before left = (left.previous ≡ Some s.raw) × (left.time ≡ Some s.current)

-- The time is the message's, the reader is stopped, and last piece, count and previous time are forgotten.
abbrev pub informed : MtcReader → MtcTime → MtcReader
informed r t =
    record {
      nibbles = r.nibbles;
      count = 0;
      first = r.first;
      last = None;
      direction = r.direction;
      locked = false;
      running = false;
      previous = None;
      time = Some t;
    }

-- The reader that a full message leaves.
abbrev pub after_full_message : MtcReader → MtcTime → MtcReader
after_full_message r t = informed (or_fresh r) t
