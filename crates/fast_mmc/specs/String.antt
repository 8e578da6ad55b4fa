-- Commands, fields and the answers of the splitter as flat records, and back. Assumes nothing.
use Rattle.std.specs.Prelude.{ℕ, cond, eqb, ltb}
use Rattle.fast_mmc.specs.Code.{code_of, flat_code, no_code, short_of, flat_short, no_short}
use Rattle.fast_mmc.specs.Word.{command_word, plain_command}
use Rattle.fast_mmc.specs.declared.code.FlatCode.{FlatCode}
use Rattle.fast_mmc.specs.declared.code.FlatShort.{FlatShort}
use Rattle.fast_mmc.specs.declared.string.FlatCommand.{FlatCommand}
use Rattle.fast_mmc.specs.declared.string.FlatField.{FlatField}
use Rattle.fast_mmc.specs.declared.string.FlatNextCommand.{FlatNextCommand}
use Rattle.fast_mmc.specs.declared.string.FlatNextField.{FlatNextField}
use Rattle.fast_mmc.specs.declared.string.FlatPart.{FlatPart}
use Rattle.mmc.specs.Part.{part}
use Rattle.mmc.specs.Split.{Next}
use Rattle.mmc.specs.declared.command.MmcCommand.{MmcCommand}
use Rattle.mmc.specs.declared.command.MmcCommand.TheVariants.{Stop, Play, DeferredPlay, FastForward, Rewind, RecordStrobe, RecordExit, Pause, Reset, Write, LocateField, LocateTarget, Move, Other}
use Rattle.mmc.specs.declared.field.InfoField.{InfoField}
use Rattle.mmc.specs.declared.field.InfoField.TheVariants as F
use Rattle.mmc.specs.declared.part.Part.{Part}
use Rattle.universal.specs.Refusals.{Answer, gives, refused}

unfoldable pub part_at : FlatPart → Part
part_at p = part p.start p.length

unfoldable pub flat_part : Part → FlatPart
flat_part p = record { start = p.start; length = p.len }

abbrev pub no_part : FlatPart
no_part = record { start = 0; length = 0 }

-- ---- commands, by their number in the source's order

-- A command with a time code and two parts.
abbrev pub flat_with_parts : ℕ → FlatCode → FlatPart → FlatPart → FlatCommand
flat_with_parts kind code name d = record { kind = kind; first = 0; second = 0; code = code; name = name; «data» = d }

-- A command with two values and no more.
abbrev pub flat_values : ℕ → ℕ → ℕ → FlatCommand
flat_values kind first second =
    record { kind = kind; first = first; second = second; code = no_code; name = no_part; «data» = no_part }

-- A command that is a name alone.
abbrev pub flat_alone : MmcCommand → FlatCommand
flat_alone c = flat_values (command_word c) 0 0

-- The command of a number; one above 13 is taken as 13.
abbrev pub command_at : ℕ → FlatCommand → MmcCommand
command_at kind c =
    cond (ltb kind 9) (plain_command kind)
    (cond (eqb kind 9) (Write (part_at c.«data»))
    (cond (eqb kind 10) (LocateField c.first)
    (cond (eqb kind 11) (LocateTarget (code_of c.code))
    (cond (eqb kind 12) (Move c.first c.second) (Other (part_at c.name) (part_at c.«data»))))))

unfoldable pub command_of : FlatCommand → MmcCommand
command_of c = command_at c.kind c

unfoldable pub flat_command : MmcCommand → FlatCommand
flat_command Stop = flat_alone Stop
flat_command Play = flat_alone Play
flat_command DeferredPlay = flat_alone DeferredPlay
flat_command FastForward = flat_alone FastForward
flat_command Rewind = flat_alone Rewind
flat_command RecordStrobe = flat_alone RecordStrobe
flat_command RecordExit = flat_alone RecordExit
flat_command Pause = flat_alone Pause
flat_command Reset = flat_alone Reset
flat_command (Write d) = flat_with_parts 9 no_code no_part (flat_part d)
flat_command (LocateField r) = flat_values 10 r 0
flat_command (LocateTarget c) = flat_with_parts 11 (flat_code c) no_part no_part
flat_command (Move a b) = flat_values 12 a b
flat_command (Other n d) = flat_with_parts 13 no_code (flat_part n) (flat_part d)

-- Refusal 0 and the command, or the refusal and all zeros.
unfoldable pub flat_command_answer : Answer MmcCommand → ℕ → FlatNextCommand
flat_command_answer (gives c) place = record { refusal = 0; command = flat_command c; place = place }
flat_command_answer (refused r) place = record { refusal = r.number; command = flat_values 0 0 0; place = place }

unfoldable pub flat_next_command : Next MmcCommand → FlatNextCommand
flat_next_command n = flat_command_answer n.answer n.place

-- ---- fields

-- A time code field, full or short.
abbrev pub coded : ℕ → ℕ → FlatCode → FlatShort → FlatField
coded kind field code short =
    record { kind = kind; field = field; code = code; short_code = short; name = no_part; «data» = no_part }

-- The field of a number; one above 2 is taken as 2.
abbrev pub field_at : ℕ → FlatField → InfoField
field_at kind f =
    cond (eqb kind 0) (F.TimeCode f.field (code_of f.code))
    (cond (eqb kind 1) (F.Short f.field (short_of f.short_code)) (F.Other (part_at f.name) (part_at f.«data»)))

unfoldable pub field_of : FlatField → InfoField
field_of f = field_at f.kind f

unfoldable pub flat_field : InfoField → FlatField
flat_field (F.TimeCode f c) = coded 0 f (flat_code c) no_short
flat_field (F.Short f c) = coded 1 f no_code (flat_short c)
flat_field (F.Other n d) =
    record { kind = 2; field = 0; code = no_code; short_code = no_short; name = flat_part n; «data» = flat_part d }

-- Refusal 0 and the field, or the refusal and all zeros.
unfoldable pub flat_field_answer : Answer InfoField → ℕ → FlatNextField
flat_field_answer (gives f) place = record { refusal = 0; field = flat_field f; place = place }
flat_field_answer (refused r) place = record { refusal = r.number; field = coded 0 0 no_code no_short; place = place }

unfoldable pub flat_next_field : Next InfoField → FlatNextField
flat_next_field n = flat_field_answer n.answer n.place
