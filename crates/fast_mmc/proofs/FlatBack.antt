-- Flat time codes, commands and fields stand for one value each: what is flattened and read back is the same. So does a message's
-- kind, with its device. The bytes of a record are those of the answer, zeros on a refusal. Assumes nothing.
use Rattle.std.specs.Prelude.{None}
use Prim.Native.Nat.{ℕ}
use mathlib.Core.Path.{◌≡◌, refl, ap, ap₂}
use mathlib.Core.Bool.{Bool, true, false, cond}
use mathlib.Core.List.{List, [], ◌∷◌}
use lib.Dec.{eqb}
use lib.ListN.{length}
use Rattle.fast_mmc.specs.Message.{flat_mmc_message, mmc_kind, mmc_of}
use Rattle.mmc.specs.Message.{message_from, message_by}
use Rattle.mmc.proofs.StringLaws.{message_by_lem}
use Rattle.universal.specs.Message.{header}
use Rattle.universal.specs.declared.message.Universal.{Universal}
use Rattle.fast_mmc.specs.Code.{final_of, is_status, code_of, flat_code, short_of, flat_short, five_bytes, two_bytes, standard_left, short_left}
use Rattle.fast_mmc.specs.Word.{command_word, plain_command}
use Rattle.fast_mmc.specs.String.{part_at, flat_part, command_of, flat_command, field_of, flat_field}
use Rattle.codes.specs.TimeCode.{read_status, status_byte, final_value, standard_fits, standard_list, standard_bytes, short_fits, short_list, short_bytes}
use Rattle.universal.specs.Refusals.{gives, refused, refusal}
use Rattle.mmc.specs.declared.command.MmcCommand.{MmcCommand}
use Rattle.mmc.specs.declared.command.MmcCommand.TheVariants.{Stop, Play, DeferredPlay, FastForward, Rewind, RecordStrobe, RecordExit, Pause, Reset, Write, LocateField, LocateTarget, Move, Other}
use Rattle.mmc.specs.declared.field.InfoField.{InfoField}
use Rattle.mmc.specs.declared.field.InfoField.TheVariants as F
use Rattle.mmc.specs.declared.part.Part.{Part}
use Rattle.codes.specs.declared.time_code.FinalByte.{FinalByte}
use Rattle.codes.specs.declared.time_code.FinalByte.TheVariants.{Subframes, Status}
use Rattle.codes.specs.declared.time_code.ShortTimeCode.{ShortTimeCode}
use Rattle.codes.specs.declared.time_code.StandardTimeCode.{StandardTimeCode}
use Rattle.codes.specs.declared.time_code.TimeCodeStatus.{TimeCodeStatus}
use Rattle.fast_mtc.proofs.Laws.{time_back}

abbrev marks : Bool → Bool → Bool → Bool → TimeCodeStatus
marks e v d n = record { estimated = e; invalid = v; video_field1 = d; no_time_code = n }

status_marks_back : (e v d n : Bool) → read_status (status_byte (marks e v d n)) ≡ marks e v d n
status_marks_back true true true true = refl
status_marks_back true true true false = refl
status_marks_back true true false true = refl
status_marks_back true true false false = refl
status_marks_back true false true true = refl
status_marks_back true false true false = refl
status_marks_back true false false true = refl
status_marks_back true false false false = refl
status_marks_back false true true true = refl
status_marks_back false true true false = refl
status_marks_back false true false true = refl
status_marks_back false true false false = refl
status_marks_back false false true true = refl
status_marks_back false false true false = refl
status_marks_back false false false true = refl
status_marks_back false false false false = refl

status_back : (s : TimeCodeStatus) → read_status (status_byte s) ≡ s
status_back s = status_marks_back s.estimated s.invalid s.video_field1 s.no_time_code

pub final_back : (f : FinalByte) → final_of (is_status f) (final_value f) ≡ f
unfolding final_of is_status
final_back (Subframes s) = refl
final_back (Status s) = ap Status (status_back s)

pub flat_code_back : (c : StandardTimeCode) → code_of (flat_code c) ≡ c
unfolding code_of flat_code
flat_code_back c = rw (time_back c.time, final_back c.final_byte)

pub flat_short_back : (c : ShortTimeCode) → short_of (flat_short c) ≡ c
unfolding short_of flat_short
flat_short_back c = rw (final_back c.final_byte)

part_back : (p : Part) → part_at (flat_part p) ≡ p
unfolding part_at flat_part
part_back p = refl

pub flat_command_back : (c : MmcCommand) → command_of (flat_command c) ≡ c
unfolding command_of flat_command command_word plain_command
flat_command_back Stop = refl
flat_command_back Play = refl
flat_command_back DeferredPlay = refl
flat_command_back FastForward = refl
flat_command_back Rewind = refl
flat_command_back RecordStrobe = refl
flat_command_back RecordExit = refl
flat_command_back Pause = refl
flat_command_back Reset = refl
flat_command_back (Write d) = ap Write (part_back d)
flat_command_back (LocateField r) = refl
flat_command_back (LocateTarget c) = ap LocateTarget (flat_code_back c)
flat_command_back (Move a b) = refl
flat_command_back (Other n d) = ap₂ Other (part_back n) (part_back d)

pub flat_field_back : (f : InfoField) → field_of (flat_field f) ≡ f
unfolding field_of flat_field
flat_field_back (F.TimeCode n c) = ap (F.TimeCode n) (flat_code_back c)
flat_field_back (F.Short n c) = ap (F.Short n) (flat_short_back c)
flat_field_back (F.Other n d) = ap₂ F.Other (part_back n) (part_back d)

-- A message's kind and the header's device say all of it: no other part of the header decides anything.
pub kind_says : (u : Universal) (d : List ℕ)
    → flat_mmc_message (message_from u d)
    ≡ mmc_of u.device_id (mmc_kind (message_from (header u.real_time 0 u.sub_id1 None) d))
unfolding flat_mmc_message mmc_of mmc_kind
kind_says u d =
    rw (message_by_lem u d, message_by_lem (header u.real_time 0 u.sub_id1 None) d)
    (go u.real_time (eqb u.sub_id1 6) (eqb u.sub_id1 7) (eqb (length d) 0) u.device_id)
  where
    go : (t c r e : Bool) (device : ℕ) → flat_mmc_message (message_by t c r e device) ≡ mmc_of device (mmc_kind (message_by t c r e 0))
    go true true r true device = refl
    go true true r false device = refl
    go true false true true device = refl
    go true false true false device = refl
    go true false false e device = refl
    go false c r e device = refl

-- The bytes of a record are those of the answer, zeros on a refusal.
pub standard_left_lem : (c : StandardTimeCode) → five_bytes (standard_bytes c) ≡ standard_left c
standard_left_lem c = five_bytes_cond (standard_fits c) (standard_list c)
  where
    five_bytes_cond : (b : Bool) (bs : List ℕ) → five_bytes (cond b (gives bs) (refused (refusal 3))) ≡ cond b bs (0 ∷ 0 ∷ 0 ∷ 0 ∷ 0 ∷ [])
    five_bytes_cond true bs = refl
    five_bytes_cond false bs = refl

pub short_left_lem : (c : ShortTimeCode) → two_bytes (short_bytes c) ≡ short_left c
short_left_lem c = two_bytes_cond (short_fits c) (short_list c)
  where
    two_bytes_cond : (b : Bool) (bs : List ℕ) → two_bytes (cond b (gives bs) (refused (refusal 3))) ≡ cond b bs (0 ∷ 0 ∷ [])
    two_bytes_cond true bs = refl
    two_bytes_cond false bs = refl
