-- Document 01's instances that are marked *, all of them, and the reader's after 76 61 H, as one computed table: what the definitions
-- give, beside what the document says. Then targets of document 02, #103, as another. A label stands as hours, minutes, seconds, frames
-- and the rate's two bits; an answer as 0 and its number, or as a refusal's number and values. A buffer begins as bytes EEH, so that a
-- byte that was not written shows. Assumes nothing.
use Rattle.mtc.specs.declared.reader.MtcSequence.{MtcSequence}
use Rattle.std.specs.Prelude.{Option, Some, None}
use Prim.Native.Nat.{ℕ, suc}
use mathlib.Core.Path.{◌≡◌, refl}
use mathlib.Core.List.{List, [], ◌∷◌, ◌++◌, map, reverse}
use lib.IntN.{pos}
use Rattle.labels.specs.declared.time.MtcTime.{MtcTime}
use Rattle.labels.specs.declared.time.TimeCodeType.TheVariants.{Fps30Drop, Fps30, Fps25}
use Rattle.mtc.specs.declared.generator.Direction.TheVariants.{Forward}
use Rattle.mtc.specs.declared.generator.MtcGenerator.{MtcGenerator}
use Rattle.mtc.specs.declared.reader.MtcEvent.{MtcEvent}
use Rattle.mtc.specs.Generator.{next_byte, after_next_byte, started}
use Rattle.mtc.specs.QuarterFrame.{pieces}
use Rattle.mtc.specs.Reader.{fresh, nibbles_fit, is_sound, or_fresh, order_of, number_of, sequence_of, after_piece, report_of}
use Rattle.labels.specs.St12.{label, is_valid}
use Rattle.mtc.specs.Stream.{bytes_sent, byte, after_calls, byte_answers, events_among, events}
use Rattle.labels.specs.Time.{add_frames, bits_of}
use Rattle.mtc.specs.UserBits.{group_bytes}
use mathlib.Core.Bool.{false}
use lib.ListN.{replicate}
use Rattle.mmc.specs.declared.command.MmcCommand.{MmcCommand}
use Rattle.mmc.specs.declared.command.MmcCommand.TheVariants.{Stop, Play, DeferredPlay, FastForward, Rewind, RecordStrobe, RecordExit, Pause, Reset, Write, LocateField, LocateTarget, Move, Other}
use Rattle.mmc.specs.declared.length.Kind.TheVariants.{Commands}
use Rattle.codes.specs.declared.time_code.FinalByte.TheVariants.{Subframes}
use Rattle.codes.specs.declared.time_code.StandardTimeCode.{StandardTimeCode}
use Rattle.mmc.specs.Command.{read_command, command_by_name, read_locate, next_command}
use Rattle.mmc.specs.Item.{command_item, locate_target_item, locate_field_item, standard_item}
use Rattle.mmc.specs.Length.{command_length, length_of}
use Rattle.mmc.specs.Part.{is_inside, part_of}
use Rattle.mmc.specs.Split.{prefixes_at, measured, split_at, next}
use Rattle.mmc.specs.Strings.{Given, given, Walk, walk_from, read_from, commands_read}
use Rattle.codes.specs.TimeCode.{read_standard, read_five, standard_fits, standard_list}
use Rattle.mmc.specs.Write as W
use Rattle.mmc.specs.Write.{or_failed, opened_commands, begun, ready, admitted, closed_message, whole_message}
use Rattle.mmc.specs.Writings.{after_items, string_state, string_answer, string_left}
use Rattle.universal.specs.Refusals.{Refusal, Answer, gives, refused}
use Rattle.universal.specs.Message.{opening}
use Rattle.universal.specs.Overlay.{overlay}
use Rattle.transport.specs.Demand3.{obey_from, obey}
use Rattle.transport.specs.Transport.{before_midnight, resolved, unchanged, acted, applied}

-- A row: what is given, and what it should be.
pub record Row : Type 0 where
  pub given : List ℕ
  pub stated : List ℕ

abbrev row : List ℕ → List ℕ → Row
row g s = record { given = g; stated = s }

abbrev numbers : MtcTime → List ℕ
numbers t = t.hours ∷ t.minutes ∷ t.seconds ∷ t.frames ∷ bits_of t.rate ∷ []

-- 01:37:52:16 at rate 3
abbrev t : MtcTime
t = label Fps30 1 37 52 16

-- The current times that events report.
abbrev current : Option MtcSequence → List ℕ
current None = []
current (Some s) = numbers s.current

abbrev currents : List MtcEvent → List ℕ
currents [] = []
currents (e ∷ es) = current e.sequence ++ currents es

-- The numbers of the events that report, counted from n.
abbrev report_number : ℕ → Option MtcSequence → List ℕ
report_number n None = []
report_number n (Some s) = n ∷ []

abbrev report_numbers : ℕ → List MtcEvent → List ℕ
report_numbers n [] = []
report_numbers n (e ∷ es) = report_number n e.sequence ++ report_numbers (suc n) es

abbrev refusal_numbers : Refusal → List ℕ
refusal_numbers r = r.number ∷ r.values

abbrev answer_numbers : Answer ℕ → List ℕ
answer_numbers (gives n) = 0 ∷ n ∷ []
answer_numbers (refused r) = refusal_numbers r

-- A command by its name's last byte and its values; 255 for another, with where its name and data stand.
abbrev command_numbers : MmcCommand → List ℕ
command_numbers Stop = 1 ∷ []
command_numbers Play = 2 ∷ []
command_numbers DeferredPlay = 3 ∷ []
command_numbers FastForward = 4 ∷ []
command_numbers Rewind = 5 ∷ []
command_numbers RecordStrobe = 6 ∷ []
command_numbers RecordExit = 7 ∷ []
command_numbers Pause = 9 ∷ []
command_numbers Reset = 13 ∷ []
command_numbers (Write d) = 64 ∷ d.start ∷ d.len ∷ []
command_numbers (LocateField r) = 68 ∷ 0 ∷ r ∷ []
command_numbers (LocateTarget c) = 68 ∷ 1 ∷ []
command_numbers (Move d s) = 76 ∷ d ∷ s ∷ []
command_numbers (Other n d) = 255 ∷ n.start ∷ n.len ∷ d.start ∷ d.len ∷ []

abbrev all_numbers : List MmcCommand → List ℕ
all_numbers [] = []
all_numbers (c ∷ cs) = command_numbers c ++ all_numbers cs

-- The commands of a string, and the refusal that ends it.
abbrev read_numbers : Walk MmcCommand → List ℕ
read_numbers w = all_numbers w.items ++ refusal_numbers w.stop

-- 01:00:00:00 at 25 with so many subframes
abbrev target : ℕ → StandardTimeCode
target subframes =
    record {
      time = label Fps25 1 0 0 0;
      color_frame = false;
      blank = false;
      negative = false;
      final_byte = Subframes subframes;
    }

-- Locate there, then Play.
abbrev locate_play : ℕ → List (Given Commands)
locate_play subframes = given Commands [] (LocateTarget (target subframes)) ∷ given Commands [] Play ∷ []

-- Locate to field 7.
abbrev locate_seven : List (Given Commands)
locate_seven = given Commands [] (LocateField 7) ∷ []

abbrev stop_commands : ℕ → List (Given Commands)
stop_commands n = replicate n (given Commands [] Stop)

pub table : List Row
table =
    -- 00:00:59;28 plus 2 is 00:01:00;02
    row (numbers (add_frames (label Fps30Drop 0 0 59 28) (pos 2))) (0 ∷ 1 ∷ 0 ∷ 2 ∷ 2 ∷ [])
    -- 00:09:59;29 plus 1 is 00:10:00;00
    ∷ row (numbers (add_frames (label Fps30Drop 0 9 59 29) (pos 1))) (0 ∷ 10 ∷ 0 ∷ 0 ∷ 2 ∷ [])
    -- 23:59:59;29 plus 1 is 00:00:00;00
    ∷ row (numbers (add_frames (label Fps30Drop 23 59 59 29) (pos 1))) (0 ∷ 0 ∷ 0 ∷ 0 ∷ 2 ∷ [])
    -- 01:37:52:16 at rate 3 is 00 11 24 33 45 52 61 76 H, current 01:37:52:18
    ∷ row (pieces t) (0x00 ∷ 0x11 ∷ 0x24 ∷ 0x33 ∷ 0x45 ∷ 0x52 ∷ 0x61 ∷ 0x76 ∷ [])
    ∷ row (currents (events fresh (pieces t))) (1 ∷ 37 ∷ 52 ∷ 18 ∷ 3 ∷ [])
    -- backwards, 76H first: current 01:37:52:15
    ∷ row (currents (events fresh (reverse (pieces t)))) (1 ∷ 37 ∷ 52 ∷ 15 ∷ 3 ∷ [])
    -- a fresh reader given 76 61 H, then a forward stream, first reports at that stream's sixteenth byte
    ∷ row (report_numbers 1 (events (after_calls fresh (byte 0x76 ∷ byte 0x61 ∷ [])) (bytes_sent 24 (started t Forward)))) (16 ∷ 24 ∷ [])
    -- user groups 1 to 8 give 87 65 43 21 H
    ∷ row (group_bytes (1 ∷ 2 ∷ 3 ∷ 4 ∷ 5 ∷ 6 ∷ 7 ∷ 8 ∷ [])) (0x87 ∷ 0x65 ∷ 0x43 ∷ 0x21 ∷ [])
    -- Locate 01:00:00:00 at 25, subframes 0, then Play, device 7FH: a buffer of 14 passes
    ∷ row (answer_numbers (string_answer Commands 127 (locate_play 0) (replicate 14 0xEE))) (0 ∷ 14 ∷ [])
    ∷ row (string_left Commands 127 (locate_play 0) (replicate 14 0xEE))
    (0xF0 ∷ 0x7F ∷ 0x7F ∷ 0x06 ∷ 0x44 ∷ 0x06 ∷ 0x01 ∷ 0x21 ∷ 0x00 ∷ 0x00 ∷ 0x00 ∷ 0x00 ∷ 0x02 ∷ 0xF7 ∷ [])
    -- 13 is 4 with 14, the first 13 bytes written
    ∷ row (answer_numbers (string_answer Commands 127 (locate_play 0) (replicate 13 0xEE))) (4 ∷ 14 ∷ [])
    ∷ row (string_left Commands 127 (locate_play 0) (replicate 13 0xEE))
    (0xF0 ∷ 0x7F ∷ 0x7F ∷ 0x06 ∷ 0x44 ∷ 0x06 ∷ 0x01 ∷ 0x21 ∷ 0x00 ∷ 0x00 ∷ 0x00 ∷ 0x00 ∷ 0x02 ∷ [])
    -- body 00H is 2, 00 00 00 H is one unknown item
    ∷ row (read_numbers (commands_read (0 ∷ []))) (2 ∷ [])
    ∷ row (read_numbers (commands_read (0 ∷ 0 ∷ 0 ∷ []))) (255 ∷ 0 ∷ 3 ∷ 3 ∷ 0 ∷ 9 ∷ [])
    -- 48 Stops pass, 49 and 0 are 2
    ∷ row (answer_numbers (string_answer Commands 0 (stop_commands 48) (replicate 60 0xEE))) (0 ∷ 53 ∷ [])
    ∷ row (answer_numbers (string_answer Commands 0 (stop_commands 49) (replicate 60 0xEE))) (2 ∷ [])
    ∷ row (answer_numbers (string_answer Commands 0 (stop_commands 0) (replicate 60 0xEE))) (2 ∷ [])
    -- 44 02 00 07 H reads as Locate field 7; writing that is 3
    ∷ row (read_numbers (commands_read (0x44 ∷ 0x02 ∷ 0x00 ∷ 0x07 ∷ []))) (68 ∷ 0 ∷ 7 ∷ 9 ∷ [])
    ∷ row (answer_numbers (string_answer Commands 127 locate_seven (replicate 9 0xEE))) (3 ∷ [])
    ∷ row (string_left Commands 127 locate_seven (replicate 9 0xEE)) (0xF0 ∷ 0x7F ∷ 0x7F ∷ 0x06 ∷ 0xEE ∷ 0xEE ∷ 0xEE ∷ 0xEE ∷ 0xEE ∷ [])
    -- subframes 100 in a written Locate is 3, with the four opening bytes and 44 06 01 H emitted
    ∷ row (answer_numbers (string_answer Commands 127 (locate_play 100) (replicate 14 0xEE))) (3 ∷ [])
    ∷ row (string_left Commands 127 (locate_play 100) (replicate 14 0xEE))
    (0xF0 ∷ 0x7F ∷ 0x7F ∷ 0x06 ∷ 0x44 ∷ 0x06 ∷ 0x01 ∷ 0xEE ∷ 0xEE ∷ 0xEE ∷ 0xEE ∷ 0xEE ∷ 0xEE ∷ 0xEE ∷ [])
    ∷ []

pub instances : map (λ (r : Row). r.given) table ≡ map (λ (r : Row). r.stated) table
unfolding table group_bytes pieces byte_answers events_among bytes_sent after_calls next_byte after_next_byte nibbles_fit is_sound or_fresh order_of number_of sequence_of after_piece report_of add_frames string_answer string_left string_state after_items opened_commands begun or_failed ready admitted W.writing_after closed_message whole_message command_item locate_target_item locate_field_item standard_item standard_fits standard_list is_valid opening overlay read_from walk_from next_command next split_at prefixes_at measured length_of command_length read_command command_by_name read_locate part_of is_inside
instances = refl

-- ---- targets (document 02, #103)

-- What a target resolves to; none has no numbers.
abbrev resolved_numbers : Option MtcTime → List ℕ
resolved_numbers None = []
resolved_numbers (Some t) = numbers t

-- The five bytes of a target, and the label that it resolves to.
pub target_table : List Row
target_table =
    -- minus one second is 23:59:59:00 at 24, 25, 30 drop-frame and 30
    row (0x00 ∷ 0x00 ∷ 0x01 ∷ 0x40 ∷ 0x00 ∷ []) (23 ∷ 59 ∷ 59 ∷ 0 ∷ 0 ∷ [])
    ∷ row (0x20 ∷ 0x00 ∷ 0x01 ∷ 0x40 ∷ 0x00 ∷ []) (23 ∷ 59 ∷ 59 ∷ 0 ∷ 1 ∷ [])
    ∷ row (0x40 ∷ 0x00 ∷ 0x01 ∷ 0x40 ∷ 0x00 ∷ []) (23 ∷ 59 ∷ 59 ∷ 0 ∷ 2 ∷ [])
    ∷ row (0x60 ∷ 0x00 ∷ 0x01 ∷ 0x40 ∷ 0x00 ∷ []) (23 ∷ 59 ∷ 59 ∷ 0 ∷ 3 ∷ [])
    -- without the sign it is 00:00:01:00
    ∷ row (0x20 ∷ 0x00 ∷ 0x01 ∷ 0x00 ∷ 0x00 ∷ []) (0 ∷ 0 ∷ 1 ∷ 0 ∷ 1 ∷ [])
    -- the sign counts also beside a status, with the colour frame mark, and whatever the subframes are
    ∷ row (0x20 ∷ 0x00 ∷ 0x01 ∷ 0x60 ∷ 0x08 ∷ []) (23 ∷ 59 ∷ 59 ∷ 0 ∷ 1 ∷ [])
    ∷ row (0x20 ∷ 0x40 ∷ 0x01 ∷ 0x40 ∷ 0x63 ∷ []) (23 ∷ 59 ∷ 59 ∷ 0 ∷ 1 ∷ [])
    -- minus zero is zero
    ∷ row (0x00 ∷ 0x00 ∷ 0x00 ∷ 0x40 ∷ 0x00 ∷ []) (0 ∷ 0 ∷ 0 ∷ 0 ∷ 0 ∷ [])
    ∷ row (0x20 ∷ 0x00 ∷ 0x00 ∷ 0x40 ∷ 0x00 ∷ []) (0 ∷ 0 ∷ 0 ∷ 0 ∷ 1 ∷ [])
    ∷ row (0x40 ∷ 0x00 ∷ 0x00 ∷ 0x40 ∷ 0x00 ∷ []) (0 ∷ 0 ∷ 0 ∷ 0 ∷ 2 ∷ [])
    ∷ row (0x60 ∷ 0x00 ∷ 0x00 ∷ 0x40 ∷ 0x00 ∷ []) (0 ∷ 0 ∷ 0 ∷ 0 ∷ 3 ∷ [])
    -- minus one frame is the day's last label
    ∷ row (0x20 ∷ 0x00 ∷ 0x00 ∷ 0x41 ∷ 0x00 ∷ []) (23 ∷ 59 ∷ 59 ∷ 24 ∷ 1 ∷ [])
    ∷ row (0x40 ∷ 0x00 ∷ 0x00 ∷ 0x41 ∷ 0x00 ∷ []) (23 ∷ 59 ∷ 59 ∷ 29 ∷ 2 ∷ [])
    -- minus the day's last label is the first frame
    ∷ row (0x37 ∷ 0x3B ∷ 0x3B ∷ 0x58 ∷ 0x00 ∷ []) (0 ∷ 0 ∷ 0 ∷ 1 ∷ 1 ∷ [])
    ∷ row (0x57 ∷ 0x3B ∷ 0x3B ∷ 0x5D ∷ 0x00 ∷ []) (0 ∷ 0 ∷ 0 ∷ 1 ∷ 2 ∷ [])
    -- labels are counted: 00:00:59;29 counts 1,799, and the day's last minute has 1,798 labels
    ∷ row (0x40 ∷ 0x00 ∷ 0x3B ∷ 0x5D ∷ 0x00 ∷ []) (23 ∷ 58 ∷ 59 ∷ 29 ∷ 2 ∷ [])
    -- 00:01:00;00 and ;01 are skipped, and go where ;02 goes
    ∷ row (0x40 ∷ 0x01 ∷ 0x00 ∷ 0x42 ∷ 0x00 ∷ []) (23 ∷ 58 ∷ 59 ∷ 28 ∷ 2 ∷ [])
    ∷ row (0x40 ∷ 0x01 ∷ 0x00 ∷ 0x40 ∷ 0x00 ∷ []) (23 ∷ 58 ∷ 59 ∷ 28 ∷ 2 ∷ [])
    ∷ row (0x40 ∷ 0x01 ∷ 0x00 ∷ 0x41 ∷ 0x00 ∷ []) (23 ∷ 58 ∷ 59 ∷ 28 ∷ 2 ∷ [])
    ∷ row (0x40 ∷ 0x0A ∷ 0x00 ∷ 0x40 ∷ 0x00 ∷ []) (23 ∷ 50 ∷ 0 ∷ 0 ∷ 2 ∷ [])
    -- without the sign a skipped label moves as before
    ∷ row (0x40 ∷ 0x01 ∷ 0x00 ∷ 0x00 ∷ 0x00 ∷ []) (0 ∷ 1 ∷ 0 ∷ 2 ∷ 2 ∷ [])
    -- blank and negative, and negative and invalid, are none
    ∷ row (0x20 ∷ 0x00 ∷ 0x41 ∷ 0x40 ∷ 0x00 ∷ []) []
    ∷ row (0x38 ∷ 0x00 ∷ 0x00 ∷ 0x40 ∷ 0x00 ∷ []) []
    ∷ row (0x20 ∷ 0x00 ∷ 0x01 ∷ 0x59 ∷ 0x00 ∷ []) []
    ∷ []

pub target_instances : map (λ (r : Row). resolved_numbers (resolved (read_five r.given))) target_table ≡ map (λ (r : Row). r.stated) target_table
unfolding target_table read_standard resolved before_midnight add_frames is_valid
target_instances = refl

-- Blank and negative is 7.
pub blank_negative_refused : (g : MtcGenerator)
    → applied g 127 5 (LocateTarget (read_five (0x20 ∷ 0x00 ∷ 0x41 ∷ 0x40 ∷ 0x00 ∷ []))) ≡ unchanged g 7
unfolding applied acted resolved read_standard
blank_negative_refused g = refl

-- A string on the wire, whatever the generator was: Locate minus one second at 25 and Play send 23:59:59:00.
pub negative_sent : (g : MtcGenerator)
    → bytes_sent 8 (obey (0x44 ∷ 0x06 ∷ 0x01 ∷ 0x20 ∷ 0x00 ∷ 0x01 ∷ 0x40 ∷ 0x00 ∷ 0x02 ∷ []) 127 5 g).generator
    ≡ pieces (label Fps25 23 59 59 0)
unfolding obey_from read_standard applied acted resolved before_midnight add_frames is_valid pieces bytes_sent next_byte after_next_byte next_command next split_at prefixes_at measured length_of command_length read_command command_by_name read_locate part_of is_inside
negative_sent g = refl
