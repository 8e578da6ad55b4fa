-- Worked instances of document 02, #105, as computed tables: bytes read as quarter frames, lists of bytes with their answers after calls on
-- a fresh reader, what calls leave, and the last seven bytes. Assumes nothing.
use Rattle.std.specs.Prelude.{ℕ, ◌≡◌, Bool, true, false, cond, List, [], ◌∷◌, ◌++◌, map, Option, Some, None}
use mathlib.Core.Path.{refl}
use Rattle.labels.specs.St12.{label}
use Rattle.labels.specs.Time.{add_frames}
use Rattle.labels.specs.declared.time.TimeCodeType.TheVariants.{Fps30}
use Rattle.mtc.specs.declared.generator.Direction.TheVariants.{Forward}
use Rattle.mtc.specs.QuarterFrame.{from_byte}
use Rattle.mtc.specs.Reader.{fresh, nibbles_fit, is_sound, or_fresh, order_of, number_of, sequence_of, after_piece, report_of}
use Rattle.mtc.specs.Stream.{Call, byte, full, newest, last_seven, after_calls, byte_answers}
use Rattle.mtc.specs.declared.quarter_frame.QuarterFrame.{QuarterFrame}
use Rattle.mtc.specs.declared.reader.MtcEvent.{MtcEvent}
use Rattle.mtc.specs.declared.reader.MtcReader.{MtcReader}
use Rattle.mtc.specs.declared.reader.MtcSequence.{MtcSequence}
use Rattle.universal.specs.Refusals.{Answer, gives, refused}

-- What is given, and the numbers that it should come to.
pub record BytesRow : Type 0 where
  pub calls : List Call
  pub bytes : List ℕ
  pub stated : List ℕ

-- ---- one byte

-- A piece and its value, or a refusal's number.
abbrev frame_numbers : Answer QuarterFrame → List ℕ
frame_numbers (gives q) = q.piece ∷ q.value ∷ []
frame_numbers (refused r) = r.number ∷ []

abbrev frames_read : List ℕ → List ℕ
frames_read [] = []
frames_read (b ∷ bs) = frame_numbers (from_byte b) ++ frames_read bs

-- 7FH is the last byte that is read, and 80H the first one that is not.
pub frame_instances : frames_read (0x00 ∷ 0x76 ∷ 0x7F ∷ 0x80 ∷ 0xC0 ∷ 0xF6 ∷ 0xFF ∷ []) ≡ 0 ∷ 0 ∷ 7 ∷ 6 ∷ 7 ∷ 15 ∷ 13 ∷ 13 ∷ 13 ∷ 13 ∷ []
frame_instances = refl

-- ---- lists of bytes

-- An event without a report.
abbrev quiet : ℕ
quiet = 0

-- A report, and one with a discontinuity. Any other number is a refusal's.
abbrev reports : ℕ
reports = 100

abbrev jumps_off : ℕ
jumps_off = 101

abbrev report_kind : Option MtcSequence → ℕ
report_kind None = quiet
report_kind (Some s) = cond s.discontinuity jumps_off reports

abbrev answer_number : Answer MtcEvent → ℕ
answer_number (gives e) = report_kind e.sequence
answer_number (refused r) = r.number

abbrev bytes_row : List Call → List ℕ → List ℕ → BytesRow
bytes_row calls bytes stated = record { calls = calls; bytes = bytes; stated = stated }

-- 01:37:52:16, :18 and :20 at rate 3.
abbrev first_eight : List ℕ
first_eight = 0x00 ∷ 0x11 ∷ 0x24 ∷ 0x33 ∷ 0x45 ∷ 0x52 ∷ 0x61 ∷ 0x76 ∷ []

abbrev second_eight : List ℕ
second_eight = 0x02 ∷ 0x11 ∷ 0x24 ∷ 0x33 ∷ 0x45 ∷ 0x52 ∷ 0x61 ∷ 0x76 ∷ []

abbrev third_eight : List ℕ
third_eight = 0x04 ∷ 0x11 ∷ 0x24 ∷ 0x33 ∷ 0x45 ∷ 0x52 ∷ 0x61 ∷ 0x76 ∷ []

-- The calls of a list of bytes, and one with a full message.
abbrev given_before : List ℕ → List Call
given_before bs = map byte bs

abbrev full_call : Call
full_call = full (label Fps30 1 0 0 0)

-- Eight answers of a sequence, with or without its report.
abbrev eight_answers : ℕ → List ℕ
eight_answers last = quiet ∷ quiet ∷ quiet ∷ quiet ∷ quiet ∷ quiet ∷ quiet ∷ last ∷ []

pub bytes_table : List BytesRow
bytes_table =
    -- F6H after seven good pieces is 13, and the eighth still reports
    bytes_row [] (0x00 ∷ 0x11 ∷ 0x24 ∷ 0x33 ∷ 0x45 ∷ 0x52 ∷ 0x61 ∷ 0xF6 ∷ 0x76 ∷ [])
    (quiet ∷ quiet ∷ quiet ∷ quiet ∷ quiet ∷ quiet ∷ quiet ∷ 13 ∷ reports ∷ [])
    -- so it does where a status byte comes before every piece, the first one's own among them
    ∷ bytes_row [] (0x80 ∷ 0x00 ∷ 0x91 ∷ 0x11 ∷ 0xF8 ∷ 0x24 ∷ 0xB3 ∷ 0x33 ∷ 0xC5 ∷ 0x45 ∷ 0xFE ∷ 0x52 ∷ 0xE1 ∷ 0x61 ∷ 0xFF ∷ 0x76 ∷ [])
    (13 ∷ quiet ∷ 13 ∷ quiet ∷ 13 ∷ quiet ∷ 13 ∷ quiet ∷ 13 ∷ quiet ∷ 13 ∷ quiet ∷ 13 ∷ quiet ∷ 13 ∷ reports ∷ [])
    -- of the bytes that are heard the sixteenth and the twenty-fourth report
    ∷ bytes_row [] (first_eight ++ (0xF8 ∷ second_eight) ++ (0x80 ∷ 0xF0 ∷ third_eight))
    (eight_answers reports ++ (13 ∷ eight_answers reports) ++ (13 ∷ 13 ∷ eight_answers reports))
    -- after 76H and 61H with C0H between, a forward stream first reports at its sixteenth byte
    ∷ bytes_row (given_before (0x76 ∷ 0xC0 ∷ 0x61 ∷ [])) (first_eight ++ second_eight ++ third_eight)
    (eight_answers quiet ++ eight_answers reports ++ eight_answers reports)
    -- so it does after 76H and 61H, which give the direction, and then C0H
    ∷ bytes_row (given_before (0x76 ∷ 0x61 ∷ 0xC0 ∷ [])) (first_eight ++ second_eight ++ third_eight)
    (eight_answers quiet ++ eight_answers reports ++ eight_answers reports)
    -- after pieces 7 down to 1 the first byte may report: C0H between them does not take that away
    ∷ bytes_row (given_before (0x76 ∷ 0x61 ∷ 0x52 ∷ 0xC0 ∷ 0x45 ∷ 0x33 ∷ 0x24 ∷ 0x11 ∷ [])) (0x00 ∷ []) (reports ∷ [])
    -- nor does one behind them, also one whose seven low bits are those of a piece
    ∷ bytes_row (given_before (0x76 ∷ 0x61 ∷ 0x52 ∷ 0x45 ∷ 0x33 ∷ 0x24 ∷ 0x11 ∷ 0xF6 ∷ [])) (0x80 ∷ 0x00 ∷ []) (13 ∷ reports ∷ [])
    -- and 91H in the place of 11H does not make it
    ∷ bytes_row (given_before (0x76 ∷ 0x61 ∷ 0x52 ∷ 0x45 ∷ 0x33 ∷ 0x24 ∷ 0x91 ∷ [])) (0x00 ∷ []) (quiet ∷ [])
    -- in reverse likewise
    ∷ bytes_row (given_before (0x00 ∷ 0x11 ∷ 0x24 ∷ 0x33 ∷ 0xF8 ∷ 0x45 ∷ 0x52 ∷ 0x61 ∷ [])) (0xF6 ∷ 0x76 ∷ []) (13 ∷ reports ∷ [])
    ∷ bytes_row (given_before (0x00 ∷ 0x11 ∷ 0x24 ∷ 0x33 ∷ 0x45 ∷ 0x52 ∷ 0xE1 ∷ [])) (0x76 ∷ []) (quiet ∷ [])
    -- the previous time is kept: the same label again is a discontinuity, the next one is none
    ∷ bytes_row (given_before (first_eight ++ (0x80 ∷ []))) (first_eight ++ (0xFF ∷ second_eight)) (eight_answers jumps_off ++ (13 ∷ eight_answers reports))
    -- 7FH is heard: it is piece 7 out of its order, so that the sequence is dropped
    ∷ bytes_row (given_before first_eight) (0x02 ∷ 0x11 ∷ 0x24 ∷ 0x33 ∷ 0x7F ∷ 0x45 ∷ 0x52 ∷ 0x61 ∷ 0x76 ∷ [])
    (quiet ∷ quiet ∷ quiet ∷ quiet ∷ quiet ∷ quiet ∷ quiet ∷ quiet ∷ quiet ∷ [])
    ∷ []

abbrev answers_in : BytesRow → List ℕ
answers_in r = map answer_number (byte_answers (after_calls fresh r.calls) r.bytes)

pub bytes_instances : map answers_in bytes_table ≡ map (λ (r : BytesRow). r.stated) bytes_table
unfolding bytes_table byte_answers after_calls nibbles_fit is_sound or_fresh order_of number_of sequence_of after_piece report_of add_frames
bytes_instances = refl

-- ---- what calls leave

-- The running mark and the lock as 0 or 1, the count, and the last piece or 255.
abbrev truth : Bool → ℕ
truth b = cond b 1 0

abbrev last_or : Option ℕ → ℕ
last_or None = 255
last_or (Some p) = p

abbrev state_numbers : MtcReader → List ℕ
state_numbers r = truth r.running ∷ truth r.locked ∷ r.count ∷ last_or r.last ∷ []

pub state_table : List BytesRow
state_table =
    -- a refused byte does not set a fresh reader running, nor one after a full message
    bytes_row (given_before (0x80 ∷ [])) [] (0 ∷ 0 ∷ 0 ∷ 255 ∷ [])
    ∷ bytes_row (full_call ∷ given_before (0xF1 ∷ 0x80 ∷ [])) [] (0 ∷ 0 ∷ 0 ∷ 255 ∷ [])
    ∷ bytes_row (full_call ∷ given_before (0x00 ∷ [])) [] (1 ∷ 0 ∷ 1 ∷ 0 ∷ [])
    -- it keeps the pieces that are held, the last piece and the lock
    ∷ bytes_row (given_before (0x00 ∷ 0x11 ∷ 0x24 ∷ 0xF6 ∷ [])) [] (1 ∷ 0 ∷ 3 ∷ 2 ∷ [])
    ∷ bytes_row (given_before (first_eight ++ (0xC0 ∷ 0xFF ∷ []))) [] (1 ∷ 1 ∷ 0 ∷ 7 ∷ [])
    ∷ []

pub state_instances : map (λ (r : BytesRow). state_numbers (after_calls fresh r.calls)) state_table ≡ map (λ (r : BytesRow). r.stated) state_table
unfolding state_table after_calls nibbles_fit is_sound or_fresh order_of number_of sequence_of after_piece report_of add_frames
state_instances = refl

-- The whole record stays: within a sequence, after one, and one with a count of 9, which no calls leave.
pub kept_within : after_calls fresh (given_before (0x76 ∷ 0x61 ∷ 0xF6 ∷ 0xC5 ∷ [])) ≡ after_calls fresh (given_before (0x76 ∷ 0x61 ∷ []))
unfolding after_calls nibbles_fit is_sound or_fresh order_of number_of sequence_of after_piece
kept_within = refl

pub kept_after : after_calls fresh (given_before (first_eight ++ (0x9F ∷ 0xC8 ∷ []))) ≡ after_calls fresh (given_before first_eight)
unfolding after_calls nibbles_fit is_sound or_fresh order_of number_of sequence_of after_piece add_frames
kept_after = refl

abbrev count_nine : MtcReader
count_nine =
    record {
      nibbles = 1 ∷ 2 ∷ 3 ∷ 4 ∷ 5 ∷ 6 ∷ 7 ∷ 8 ∷ [];
      count = 9;
      first = 0;
      last = Some 3;
      direction = Some Forward;
      locked = true;
      running = false;
      previous = None;
      time = Some (label Fps30 1 0 0 0);
    }

pub kept_unsound : after_calls count_nine (given_before (0xF6 ∷ 0x80 ∷ [])) ≡ count_nine
unfolding after_calls
kept_unsound = refl

-- ---- the last seven

pub seven_table : List BytesRow
seven_table =
    bytes_row (given_before (0x76 ∷ 0x61 ∷ 0xF8 ∷ 0x52 ∷ 0x45 ∷ 0x33 ∷ 0x24 ∷ 0x11 ∷ 0xC0 ∷ [])) [] (0x76 ∷ 0x61 ∷ 0x52 ∷ 0x45 ∷ 0x33 ∷ 0x24 ∷ 0x11 ∷ [])
    ∷ bytes_row (given_before (0x05 ∷ 0x76 ∷ 0x61 ∷ 0x52 ∷ 0x45 ∷ 0x33 ∷ 0x24 ∷ 0x91 ∷ [])) [] (0x05 ∷ 0x76 ∷ 0x61 ∷ 0x52 ∷ 0x45 ∷ 0x33 ∷ 0x24 ∷ [])
    -- 7FH is heard, and 80H is not; a full message begins anew
    ∷ bytes_row (given_before (0x7F ∷ 0x80 ∷ [])) [] (0x7F ∷ [])
    ∷ bytes_row (given_before (0x76 ∷ 0x61 ∷ []) ++ (full_call ∷ given_before (0x90 ∷ 0x52 ∷ []))) [] (0x52 ∷ [])
    ∷ []

pub seven_instances : map (λ (r : BytesRow). last_seven r.calls) seven_table ≡ map (λ (r : BytesRow). r.stated) seven_table
unfolding seven_table newest
seven_instances = refl
