-- MIDI Machine Control (RP-013), the transport tier: its commands with their names (p. 14) and bytes (pp. 20 to 32), and the
-- Information Fields SELECTED TIME CODE and GP0 / LOCATE POINT with their forms (pp. 44, 47). The names are the page's, the bytes
-- in hexadecimal. Left out: the other commands and fields. Assumes nothing.
use Rattle.std.specs.Prelude.{ℕ, ◌+◌, ◌≤◌, ◌<◌, ◌≡◌, Bool, true, false, List, [], ◌∷◌, ◌++◌, length, get_or}
use Rattle.mmc.specs.declared.length.Kind.TheVariants.{Fields}
use Rattle.mmc.specs.Rp013.{WellFormed}
use Rattle.codes.specs.Rp013Code.{allowed, short_allowed, written, short_written}
use Rattle.codes.specs.declared.time_code.FinalByte.{FinalByte}
use Rattle.codes.specs.declared.time_code.FinalByte.TheVariants.{Subframes, Status}
use Rattle.codes.specs.declared.time_code.ShortTimeCode.{ShortTimeCode}
use Rattle.codes.specs.declared.time_code.StandardTimeCode.{StandardTimeCode}
use Rattle.labels.specs.declared.time.TimeCodeType.{TimeCodeType}

-- ---- the commands' names (p. 14)

pub data CommandName : Type 0 where
  Stop Play DeferredPlay FastForward Rewind RecordStrobe RecordExit Pause MmcReset Write Locate Move : CommandName

abbrev pub byte_of : CommandName → ℕ
byte_of Stop = 0x01
byte_of Play = 0x02
byte_of DeferredPlay = 0x03
byte_of FastForward = 0x04
byte_of Rewind = 0x05
byte_of RecordStrobe = 0x06
byte_of RecordExit = 0x07
byte_of Pause = 0x09
byte_of MmcReset = 0x0D
byte_of Write = 0x40
byte_of Locate = 0x44
byte_of Move = 0x4C

-- ---- commands

-- WRITE has the names and data of fields, LOCATE [I/F] a register's name, LOCATE [TARGET] a time code, MOVE a destination and a
-- source.
pub data Command : Type 0 where
  STOP PLAY DEFERRED-PLAY FAST-FORWARD REWIND RECORD-STROBE RECORD-EXIT PAUSE MMC-RESET : Command
  WRITE : List ℕ → Command
  LOCATE_FIELD : ℕ → Command
  LOCATE_TARGET : StandardTimeCode → Command
  MOVE : ℕ → ℕ → Command

-- The bytes of a command: its name, and from 40H to 77H a count byte and so many data.
abbrev pub command_bytes : Command → List ℕ
command_bytes STOP = byte_of Stop ∷ []
command_bytes PLAY = byte_of Play ∷ []
command_bytes DEFERRED-PLAY = byte_of DeferredPlay ∷ []
command_bytes FAST-FORWARD = byte_of FastForward ∷ []
command_bytes REWIND = byte_of Rewind ∷ []
command_bytes RECORD-STROBE = byte_of RecordStrobe ∷ []
command_bytes RECORD-EXIT = byte_of RecordExit ∷ []
command_bytes PAUSE = byte_of Pause ∷ []
command_bytes MMC-RESET = byte_of MmcReset ∷ []
command_bytes (WRITE fields) = byte_of Write ∷ length fields ∷ fields
command_bytes (LOCATE_FIELD register) = byte_of Locate ∷ 0x02 ∷ 0x00 ∷ register ∷ []
command_bytes (LOCATE_TARGET c) = byte_of Locate ∷ 0x06 ∷ 0x01 ∷ written c
command_bytes (MOVE destination source) = byte_of Move ∷ 0x02 ∷ destination ∷ source ∷ []

-- Received, a count above the defined length has the defined bytes first, and the rest is skipped (p. 5): a LOCATE or a MOVE with
-- data past its own. The others have no defined length to pass.
abbrev pub received_bytes : Command → List ℕ → List ℕ
received_bytes (LOCATE_FIELD register) past = byte_of Locate ∷ (0x02 + length past) ∷ 0x00 ∷ register ∷ past
received_bytes (LOCATE_TARGET c) past = byte_of Locate ∷ (0x06 + length past) ∷ 0x01 ∷ (written c ++ past)
received_bytes (MOVE destination source) past = byte_of Move ∷ (0x02 + length past) ∷ destination ∷ source ∷ past
received_bytes STOP past = command_bytes STOP
received_bytes PLAY past = command_bytes PLAY
received_bytes DEFERRED-PLAY past = command_bytes DEFERRED-PLAY
received_bytes FAST-FORWARD past = command_bytes FAST-FORWARD
received_bytes REWIND past = command_bytes REWIND
received_bytes RECORD-STROBE past = command_bytes RECORD-STROBE
received_bytes RECORD-EXIT past = command_bytes RECORD-EXIT
received_bytes PAUSE past = command_bytes PAUSE
received_bytes MMC-RESET past = command_bytes MMC-RESET
received_bytes (WRITE fields) past = command_bytes (WRITE fields)

-- The form {ff}: fractional frames.
abbrev pub IsFf : FinalByte → Type 0
IsFf (Subframes b) = Unit
IsFf (Status s) = ⊥

-- What a WRITE may carry: a well-formed string of fields, of bytes to 7FH and no more than its count byte can say.
pub record WrittenFields (fields : List ℕ) : Type 0 where
  pub count : length fields ≤ 0x7F
  pub seven_bits : (i : ℕ) → i < length fields → get_or fields i 0 ≤ 0x7F
  pub well_formed : WellFormed Fields fields

-- Which commands there are: LOCATE [I/F] to 08H (GP0) to 0FH (GP7), LOCATE [TARGET] with a time code in the form {ff}, MOVE between
-- fields 01H to 1FH. The source cites no rule on the sign or the blank flag of a target, so both are let through.
abbrev pub IsCommand : Command → Type 0
IsCommand STOP = Unit
IsCommand PLAY = Unit
IsCommand DEFERRED-PLAY = Unit
IsCommand FAST-FORWARD = Unit
IsCommand REWIND = Unit
IsCommand RECORD-STROBE = Unit
IsCommand RECORD-EXIT = Unit
IsCommand PAUSE = Unit
IsCommand MMC-RESET = Unit
IsCommand (WRITE fields) = WrittenFields fields
IsCommand (LOCATE_FIELD register) = (0x08 ≤ register) × (register ≤ 0x0F)
IsCommand (LOCATE_TARGET c) = (allowed c ≡ true) × IsFf c.final_byte
IsCommand (MOVE destination source) = (0x01 ≤ destination) × (destination ≤ 0x1F) × (0x01 ≤ source) × (source ≤ 0x1F)

-- ---- Information Fields

pub data FieldName : Type 0 where
  SELECTED-TIME-CODE GP0 : FieldName

-- 01H SELECTED TIME CODE (p. 44), 08H GP0 / LOCATE POINT (p. 47).
abbrev pub field_name : FieldName → ℕ
field_name SELECTED-TIME-CODE = 0x01
field_name GP0 = 0x08

-- SELECTED TIME CODE has the form {st} and is not negative; GP0 has the form {ff} and is signed.
abbrev pub HasForm : FieldName → Bool → FinalByte → Type 0
HasForm SELECTED-TIME-CODE negative (Subframes b) = ⊥
HasForm SELECTED-TIME-CODE negative (Status s) = negative ≡ false
HasForm GP0 negative (Subframes b) = Unit
HasForm GP0 negative (Status s) = ⊥

-- A field in full, or in the short form of one at a rate.
pub data Field : Type 0 where
  FULL : FieldName → StandardTimeCode → Field
  SHORT : FieldName → TimeCodeType → ShortTimeCode → Field

-- The bytes of a field: its name, or the short name 20H above, and its time code (pp. 8, 9).
abbrev pub field_bytes : Field → List ℕ
field_bytes (FULL f c) = field_name f ∷ written c
field_bytes (SHORT f rate c) = (field_name f + 0x20) ∷ short_written c

-- Which fields there are: a time code that the page has, in the field's form.
abbrev pub IsField : Field → Type 0
IsField (FULL f c) = (allowed c ≡ true) × HasForm f c.negative c.final_byte
IsField (SHORT f rate c) = (short_allowed rate c ≡ true) × HasForm f c.negative c.final_byte
