-- How the commands and fields of the code stand to those of RP-013 (Rp013Commands.antt), and what exactly mmc.rs reads and writes,
-- which is more than the page has. Assumes nothing.
use Rattle.std.specs.Prelude.{ℕ, ◌+◌, ◌≤◌, ◌≡◌, ◌≢◌, Bool, true, List, [], ◌∷◌, ◌++◌, length}
use Rattle.mmc.specs.declared.command.MmcCommand.{MmcCommand}
use Rattle.mmc.specs.declared.command.MmcCommand.TheVariants as C
use Rattle.mmc.specs.declared.field.InfoField.{InfoField}
use Rattle.mmc.specs.declared.field.InfoField.TheVariants as F
use Rattle.mmc.specs.declared.length.Kind.{Kind}
use Rattle.mmc.specs.declared.length.Kind.TheVariants.{Commands, Fields}
use Rattle.mmc.specs.declared.part.Part.{Part}
use Rattle.mmc.specs.Command.{CommandCase, next_command, stop, play, deferred_play, fast_forward, rewind, record_strobe, record_exit, pause, reset, write, other, locate_field, locate_target, move}
use Rattle.mmc.specs.Field.{FieldCase, time_code_field, short_field, next_field, other_field}
use Rattle.mmc.specs.Part.{is_inside, part_of}
use Rattle.mmc.specs.Rp013Commands as P
use Rattle.mmc.specs.Rp013Commands.{byte_of, Command, STOP, PLAY, DEFERRED-PLAY, FAST-FORWARD, REWIND, RECORD-STROBE, RECORD-EXIT, PAUSE, MMC-RESET, WRITE, LOCATE_FIELD, LOCATE_TARGET, MOVE, received_bytes, IsFf, IsCommand, SELECTED-TIME-CODE, GP0, field_name, HasForm, Field, FULL, SHORT, field_bytes}
use Rattle.mmc.specs.Strings.{item, item_bytes, item_fits}
use Rattle.codes.specs.Rp013Code.{allowed, short_allowed}
use Rattle.codes.specs.TimeCode.{read_five, read_two, zeroed}
use Rattle.codes.specs.declared.time_code.FinalByte.{FinalByte}
use Rattle.labels.specs.declared.time.TimeCodeType.TheVariants.{Fps30}
use Rattle.universal.specs.Message.{all_low}
use Rattle.universal.specs.Refusals.{gives}

-- ---- what stands for what

-- A command of the code, whose parts lie in these bytes, stands for one of the page.
abbrev pub StandsFor : List ℕ → Command → MmcCommand → Type 0
StandsFor source STOP c = c ≡ C.Stop
StandsFor source PLAY c = c ≡ C.Play
StandsFor source DEFERRED-PLAY c = c ≡ C.DeferredPlay
StandsFor source FAST-FORWARD c = c ≡ C.FastForward
StandsFor source REWIND c = c ≡ C.Rewind
StandsFor source RECORD-STROBE c = c ≡ C.RecordStrobe
StandsFor source RECORD-EXIT c = c ≡ C.RecordExit
StandsFor source PAUSE c = c ≡ C.Pause
StandsFor source MMC-RESET c = c ≡ C.Reset
StandsFor source (WRITE fields) c = (d : Part) × (c ≡ C.Write d) × (is_inside source d ≡ true) × (part_of source d ≡ fields)
StandsFor source (LOCATE_FIELD register) c = c ≡ C.LocateField register
StandsFor source (LOCATE_TARGET t) c = c ≡ C.LocateTarget t
StandsFor source (MOVE destination from) c = c ≡ C.Move destination from

-- A field of the code stands for one of the page.
abbrev pub FieldStandsFor : Field → InfoField → Type 0
FieldStandsFor (FULL f c) x = x ≡ F.TimeCode (field_name f) c
FieldStandsFor (SHORT f rate c) x = x ≡ F.Short (field_name f) c

-- Where the page's bytes of a command stand in a string, with data past its own or none, one is read that stands for it, and reading
-- goes on after them.
pub record CommandAt (body : List ℕ) (place : ℕ) (p : Command) (past : List ℕ) : Type 0 where
  pub command : MmcCommand
  pub read : next_command body place ≡ record { answer = gives command; place = place + length (received_bytes p past) }
  pub stands : StandsFor body p command

-- Where those of a field stand, likewise.
pub record FieldAt (body : List ℕ) (place : ℕ) (p : Field) : Type 0 where
  pub field : InfoField
  pub read : next_field body place ≡ record { answer = gives field; place = place + length (field_bytes p) }
  pub stands : FieldStandsFor p field

-- ---- what is read, exactly

-- The names and data that are read as each case. Beyond the page: any register but 00H, any five bytes as a target, any two names
-- but 00H, and a Write's data whatever they are.
abbrev pub ReadsAs : CommandCase → List ℕ → List ℕ → Type 0
ReadsAs stop name d = name ≡ byte_of P.Stop ∷ []
ReadsAs play name d = name ≡ byte_of P.Play ∷ []
ReadsAs deferred_play name d = name ≡ byte_of P.DeferredPlay ∷ []
ReadsAs fast_forward name d = name ≡ byte_of P.FastForward ∷ []
ReadsAs rewind name d = name ≡ byte_of P.Rewind ∷ []
ReadsAs record_strobe name d = name ≡ byte_of P.RecordStrobe ∷ []
ReadsAs record_exit name d = name ≡ byte_of P.RecordExit ∷ []
ReadsAs pause name d = name ≡ byte_of P.Pause ∷ []
ReadsAs reset name d = name ≡ byte_of P.MmcReset ∷ []
ReadsAs write name d = name ≡ byte_of P.Write ∷ []
ReadsAs (locate_field r) name d = (name ≡ byte_of P.Locate ∷ []) × (past : List ℕ) × (d ≡ 0x00 ∷ r ∷ past) × (r ≢ 0x00)
ReadsAs (locate_target c) name d =
    (name ≡ byte_of P.Locate ∷ []) × (five : List ℕ) × (past : List ℕ) × (length five ≡ 5) × (d ≡ 0x01 ∷ (five ++ past)) × (c ≡ read_five five)
ReadsAs (move a b) name d = (name ≡ byte_of P.Move ∷ []) × (past : List ℕ) × (d ≡ a ∷ b ∷ past) × (a ≢ 0x00) × (b ≢ 0x00)
ReadsAs other name d = ⊥

-- A field's name, 01H to 1FH.
pub record IsFieldName (f : ℕ) : Type 0 where
  pub from : 0x01 ≤ f
  pub to : f ≤ 0x1F

-- Fields: any five or two bytes under any name 01H to 1FH, or 20H above.
abbrev pub FieldReadsAs : FieldCase → List ℕ → List ℕ → Type 0
FieldReadsAs (time_code_field f c) name d = IsFieldName f × (name ≡ f ∷ []) × (length d ≡ 5) × (c ≡ read_five d)
FieldReadsAs (short_field f c) name d = IsFieldName f × (name ≡ (f + 0x20) ∷ []) × (length d ≡ 2) × (c ≡ read_two d)
FieldReadsAs other_field name d = ⊥

-- ---- what is written, exactly

-- A name and data of the source, by the length rule, all bytes to 7FH.
pub record Writable (kind : Kind) (name d : List ℕ) : Type 0 where
  pub fits : item_fits kind (item name d) ≡ true
  pub low : all_low (item_bytes kind (item name d)) ≡ true

-- The commands that may be written. Beyond the page: a Write's data of up to 127 bytes to 7FH, whole fields or not, and a blank target
-- with counts. Beyond the transport tier: any other name and data by the length rule, the name 00 00 00 too.
abbrev pub Writes : List ℕ → MmcCommand → Type 0
Writes source C.Stop = Unit
Writes source C.Play = Unit
Writes source C.DeferredPlay = Unit
Writes source C.FastForward = Unit
Writes source C.Rewind = Unit
Writes source C.RecordStrobe = Unit
Writes source C.RecordExit = Unit
Writes source C.Pause = Unit
Writes source C.Reset = Unit
Writes source (C.Write d) = (is_inside source d ≡ true) × Writable Commands (byte_of P.Write ∷ []) (part_of source d)
Writes source (C.LocateField r) = IsCommand (LOCATE_FIELD r)
Writes source (C.LocateTarget c) = IsFf c.final_byte × (allowed (zeroed c) ≡ true)
Writes source (C.Move d s) = IsCommand (MOVE d s)
Writes source (C.Other n d) =
    (is_inside source n ≡ true) × (is_inside source d ≡ true) × Writable Commands (part_of source n) (part_of source d)

-- A field's name, and the form of the page where it is one of the tier's two. Beyond the tier: any other name 01H to 1FH, in either
-- form and with either sign.
pub record InForm (f : ℕ) (negative : Bool) (last : FinalByte) : Type 0 where
  pub name : IsFieldName f
  pub selected : f ≡ field_name SELECTED-TIME-CODE → HasForm SELECTED-TIME-CODE negative last
  pub gp0 : f ≡ field_name GP0 → HasForm GP0 negative last

-- The fields that may be written, likewise. Short frames go up to 29 at every rate.
abbrev pub FieldWrites : List ℕ → InfoField → Type 0
FieldWrites source (F.TimeCode f c) = InForm f c.negative c.final_byte × (allowed (zeroed c) ≡ true)
FieldWrites source (F.Short f c) = InForm f c.negative c.final_byte × (short_allowed Fps30 c ≡ true)
FieldWrites source (F.Other n d) =
    (is_inside source n ≡ true) × (is_inside source d ≡ true) × Writable Fields (part_of source n) (part_of source d)
