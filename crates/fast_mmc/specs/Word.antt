-- A command as one number, its word: the case in the lowest byte, in the source's order, and above it what the case has. Which number
-- is the word of which command is said once, by `command_word`; `word_command` is its inverse on names alone, Locate and Move with values of a byte. Assumes nothing.
use Rattle.std.specs.Prelude.{ℕ, ◌+◌, ◌*◌, ◌/◌, ◌%◌, ◌<◌, cond, [], eqb, ltb, Option, Some, None}
use Rattle.mmc.specs.declared.command.MmcCommand.{MmcCommand}
use Rattle.mmc.specs.declared.command.MmcCommand.TheVariants.{Stop, Play, DeferredPlay, FastForward, Rewind, RecordStrobe, RecordExit, Pause, Reset, Write, LocateField, LocateTarget, Move, Other}
use Rattle.codes.specs.declared.time_code.StandardTimeCode.{StandardTimeCode}
use Rattle.fast_mmc.specs.declared.word.NextWord.{NextWord}
use Rattle.fast_mmc.specs.Code.{final_of, is_status}
use Rattle.mmc.specs.Item.{command_item}
use Rattle.mmc.specs.Split.{Next}
use Rattle.codes.specs.TimeCode.{bit, flag, final_value}
use Rattle.labels.specs.St12.{label}
use Rattle.labels.specs.Time.{bits_of, type_of}
use Rattle.universal.specs.Emission.{Emission, refusing}
use Rattle.universal.specs.Refusals.{Answer, gives, refused}

-- ---- the word of a command

-- Two bytes above the case.
abbrev pub with_bytes : ℕ → ℕ → ℕ → ℕ
with_bytes kind first second = kind + first * 256 + second * 65536

-- A time code's four marks in one number: the blank, the colour frame, whether the last byte is a status, and the sign. Each has the
-- place at which a read finds it with one of two shifts.
unfoldable pub four_marks : StandardTimeCode → ℕ
four_marks c = flag 1 c.blank + flag 64 c.color_frame + flag 128 (is_status c.final_byte) + flag 256 c.negative

-- Above case 11 five bytes, hours, minutes, seconds, frames and the last byte; above these the marks, with the rate in two bits, and from
-- bit 3 on the four marks.
abbrev pub target_bytes : ℕ → ℕ → ℕ → ℕ → ℕ → ℕ → ℕ
target_bytes h m s f last marks =
    11 + h * 256 + m * 65536 + s * 16777216 + f * 4294967296 + last * 1099511627776 + marks * 281474976710656

-- The word of a Locate to a time.
unfoldable pub target_word : StandardTimeCode → ℕ
target_word c =
    target_bytes c.time.hours c.time.minutes c.time.seconds c.time.frames (final_value c.final_byte)
    (bits_of c.time.rate + four_marks c * 8)

-- The word of a command. Of a part it has the length, which is below 256 in every command that is read.
unfoldable pub command_word : MmcCommand → ℕ
command_word Stop = 0
command_word Play = 1
command_word DeferredPlay = 2
command_word FastForward = 3
command_word Rewind = 4
command_word RecordStrobe = 5
command_word RecordExit = 6
command_word Pause = 7
command_word Reset = 8
command_word (Write d) = with_bytes 9 0 (d.len % 256)
command_word (LocateField r) = with_bytes 10 r 0
command_word (LocateTarget c) = target_word c
command_word (Move a b) = with_bytes 12 a b
command_word (Other n d) = with_bytes 13 (n.len % 256) (d.len % 256)

-- ---- what is read

-- A refusal is its number and 128.
unfoldable pub answer_word : Answer MmcCommand → ℕ
answer_word (gives c) = command_word c
answer_word (refused r) = 128 + r.number

-- What a read answers, as a number and the place to read on from.
unfoldable pub next_word : Next MmcCommand → NextWord
next_word n = record { word = answer_word n.answer; place = n.place }

-- ---- the command of a word

-- The commands that are a name alone, by their cases, 0 to 8.
unfoldable pub plain_command : ℕ → MmcCommand
plain_command n =
    cond (eqb n 0) Stop
    (cond (eqb n 1) Play
    (cond (eqb n 2) DeferredPlay
    (cond (eqb n 3) FastForward
    (cond (eqb n 4) Rewind (cond (eqb n 5) RecordStrobe (cond (eqb n 6) RecordExit (cond (eqb n 7) Pause Reset)))))))

-- The byte of a number that stands at a weight.
abbrev pub byte_at : ℕ → ℕ → ℕ
byte_at weight w = w / weight % 256

-- A time code by its rate, its counts, its last byte and its four marks.
unfoldable pub marked_code : ℕ → ℕ → ℕ → ℕ → ℕ → ℕ → ℕ → StandardTimeCode
marked_code rate h m s f last marks =
    record {
      time = label (type_of rate) h m s f;
      color_frame = bit 64 marks;
      blank = eqb (marks % 2) 1;
      negative = bit 256 marks;
      final_byte = final_of (bit 128 marks) last;
    }

-- The time code above the case, with all eight bits of each count.
abbrev pub word_code : ℕ → StandardTimeCode
word_code w =
    marked_code (byte_at 281474976710656 w) (byte_at 256 w) (byte_at 65536 w) (byte_at 16777216 w) (byte_at 4294967296 w)
    (byte_at 1099511627776 w) (w / 2251799813685248)

-- The command that the bytes of a number say. None is a Write or another command, whose bytes a number does not have.
unfoldable pub said_command : ℕ → Option MmcCommand
said_command w =
    cond (ltb (w % 256) 9) (Some (plain_command (w % 256)))
    (cond (eqb (w % 256) 10) (Some (LocateField (byte_at 256 w)))
    (cond (eqb (w % 256) 11) (Some (LocateTarget (word_code w)))
    (cond (eqb (w % 256) 12) (Some (Move (byte_at 256 w) (byte_at 65536 w))) None)))

-- A command, where a number is its word.
abbrev pub if_word : ℕ → Option MmcCommand → Option MmcCommand
if_word w None = None
if_word w (Some c) = cond (eqb (command_word c) w) (Some c) None

-- The command that a number is the word of.
unfoldable pub word_command : ℕ → Option MmcCommand
word_command w = if_word w (said_command w)

-- What goes out of it; a number that is no command's word is refused with 3, and nothing goes out of it.
abbrev pub option_item : Option MmcCommand → Emission
option_item None = refusing 3
option_item (Some c) = command_item [] c

unfoldable pub word_item : ℕ → Emission
word_item w = option_item (word_command w)

-- ---- which commands have a word of their own

-- All but Write and another command, with values of a byte.
abbrev pub OneWord : MmcCommand → Type 0
OneWord Stop = Unit
OneWord Play = Unit
OneWord DeferredPlay = Unit
OneWord FastForward = Unit
OneWord Rewind = Unit
OneWord RecordStrobe = Unit
OneWord RecordExit = Unit
OneWord Pause = Unit
OneWord Reset = Unit
OneWord (Write d) = ⊥
OneWord (LocateField r) = r < 256
OneWord (LocateTarget c) =
    (c.time.hours < 256)
    × ((c.time.minutes < 256)
    × ((c.time.seconds < 256) × ((c.time.frames < 256) × (final_value c.final_byte < 256))))
OneWord (Move a b) = (a < 256) × (b < 256)
OneWord (Other n d) = ⊥
