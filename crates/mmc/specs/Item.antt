-- What mmc.rs emits of a command or a field before the refusing check. 6 comes first, for a part that is not inside the lent
-- source. Assumes nothing.
use Rattle.std.specs.Prelude.{ℕ, ◌+◌, Bool, true, false, not, cond, ◌&&◌, List, [], ◌∷◌, eqb, Some}
use Rattle.mmc.specs.declared.command.MmcCommand.{MmcCommand}
use Rattle.mmc.specs.declared.command.MmcCommand.TheVariants as C
use Rattle.mmc.specs.declared.field.InfoField.{InfoField}
use Rattle.mmc.specs.declared.field.InfoField.TheVariants as F
use Rattle.mmc.specs.declared.length.Kind.{Kind}
use Rattle.mmc.specs.declared.length.Kind.TheVariants.{Commands, Fields}
use Rattle.mmc.specs.declared.part.Part.{Part}
use Rattle.codes.specs.declared.time_code.FinalByte.{FinalByte}
use Rattle.codes.specs.declared.time_code.FinalByte.TheVariants.{Subframes, Status}
use Rattle.codes.specs.declared.time_code.StandardTimeCode.{StandardTimeCode}
use Rattle.codes.specs.declared.time_code.ShortTimeCode.{ShortTimeCode}
use Rattle.mmc.specs.Length.{within}
use Rattle.mmc.specs.Named.{named_item}
use Rattle.mmc.specs.Rp013Commands as P
use Rattle.mmc.specs.Part.{is_inside, part_of}
use Rattle.codes.specs.TimeCode.{standard_fits, standard_list, short_fits, short_list}
use Rattle.universal.specs.Refusals.{Answer, gives, refused}
use Rattle.universal.specs.Emission.{Emission, sent, check, ◌then◌}

-- ---- time codes, and names with data of the source

-- Bytes, or a refusal with nothing emitted.
abbrev pub code_item : Answer (List ℕ) → Emission
code_item (gives bs) = sent bs
code_item (refused r) = record { bytes = []; stop = Some r }

unfoldable pub standard_item : StandardTimeCode → Emission
standard_item c = check (standard_fits c) 3 then sent (standard_list c)

unfoldable pub short_item : ShortTimeCode → Emission
short_item c = check (short_fits c) 3 then sent (short_list c)

unfoldable pub other_item : Kind → List ℕ → Part → Part → Emission
other_item kind source n d =
    check (is_inside source n && is_inside source d) 6 then named_item kind (part_of source n) (part_of source d)

-- ---- commands

unfoldable pub write_item : List ℕ → Part → Emission
write_item source d = check (is_inside source d) 6 then named_item Commands (P.byte_of P.Write ∷ []) (part_of source d)

-- A register from 08H to 0FH.
unfoldable pub locate_field_item : ℕ → Emission
locate_field_item r = check (within 8 16 r) 3 then sent (P.byte_of P.Locate ∷ 2 ∷ 0 ∷ r ∷ [])

abbrev pub is_subframes : FinalByte → Bool
is_subframes (Subframes s) = true
is_subframes (Status st) = false

-- A target in the form with subframes.
unfoldable pub locate_target_item : StandardTimeCode → Emission
locate_target_item c = check (is_subframes c.final_byte) 3 then sent (P.byte_of P.Locate ∷ 6 ∷ 1 ∷ []) then standard_item c

-- Two fields from 01H to 1FH.
unfoldable pub move_item : ℕ → ℕ → Emission
move_item d s = check (within 1 32 d && within 1 32 s) 3 then sent (P.byte_of P.Move ∷ 2 ∷ d ∷ s ∷ [])

unfoldable pub command_item : List ℕ → MmcCommand → Emission
command_item source C.Stop = sent (P.byte_of P.Stop ∷ [])
command_item source C.Play = sent (P.byte_of P.Play ∷ [])
command_item source C.DeferredPlay = sent (P.byte_of P.DeferredPlay ∷ [])
command_item source C.FastForward = sent (P.byte_of P.FastForward ∷ [])
command_item source C.Rewind = sent (P.byte_of P.Rewind ∷ [])
command_item source C.RecordStrobe = sent (P.byte_of P.RecordStrobe ∷ [])
command_item source C.RecordExit = sent (P.byte_of P.RecordExit ∷ [])
command_item source C.Pause = sent (P.byte_of P.Pause ∷ [])
command_item source C.Reset = sent (P.byte_of P.MmcReset ∷ [])
command_item source (C.Write d) = write_item source d
command_item source (C.LocateField r) = locate_field_item r
command_item source (C.LocateTarget c) = locate_target_item c
command_item source (C.Move d s) = move_item d s
command_item source (C.Other n d) = other_item Commands source n d

-- ---- fields

-- Selected Time Code (01H) has a status and no sign, GP0 (08H) subframes (pp. 44, 47).
abbrev pub form_fits : ℕ → Bool → FinalByte → Bool
form_fits f negative (Subframes s) = not (eqb f 1)
form_fits f negative (Status st) = cond (eqb f 1) (not negative) (not (eqb f 8))

-- A field from 01H to 1FH, in its form.
unfoldable pub code_fits : ℕ → Bool → FinalByte → Bool
code_fits f negative last = within 1 32 f && form_fits f negative last

unfoldable pub time_code_item : ℕ → StandardTimeCode → Emission
time_code_item f c = check (code_fits f c.negative c.final_byte) 3 then sent (f ∷ []) then standard_item c

unfoldable pub short_code_item : ℕ → ShortTimeCode → Emission
short_code_item f c = check (code_fits f c.negative c.final_byte) 3 then sent ((f + 32) ∷ []) then short_item c

unfoldable pub field_item : List ℕ → InfoField → Emission
field_item source (F.TimeCode f c) = time_code_item f c
field_item source (F.Short f c) = short_code_item f c
field_item source (F.Other n d) = other_item Fields source n d
