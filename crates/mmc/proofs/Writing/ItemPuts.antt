-- Commands and fields put into a buffer, check by check. Assumes nothing.
use Prim.Native.Nat.{ℕ, ◌+◌, ◌≤◌, ◌<◌}
use mathlib.Core.Path.{◌≡◌, refl}
use mathlib.Core.Bool.{Bool, true, false, cond, ◌&&◌}
use mathlib.Core.List.{List, [], ◌∷◌}
use native.Mathlib.Omega.{arith}
use lib.ListN.{length, length-append}
use Rattle.mmc.specs.declared.command.MmcCommand.{MmcCommand}
use Rattle.mmc.specs.declared.command.MmcCommand.TheVariants as C
use Rattle.mmc.specs.declared.field.InfoField.{InfoField}
use Rattle.mmc.specs.declared.field.InfoField.TheVariants as F
use Rattle.mmc.specs.declared.length.Kind.TheVariants.{Commands, Fields}
use Rattle.codes.specs.declared.time_code.FinalByte.{FinalByte}
use Rattle.codes.specs.declared.time_code.StandardTimeCode.{StandardTimeCode}
use Rattle.codes.specs.declared.time_code.ShortTimeCode.{ShortTimeCode}
use Rattle.mmc.specs.Item.{code_item, standard_item, short_item, other_item, write_item, locate_field_item, is_subframes, locate_target_item, move_item, command_item, form_fits, code_fits, time_code_item, short_code_item, field_item}
use Rattle.mmc.specs.Length.{within}
use Rattle.mmc.specs.Part.{is_inside, part_of}
use Rattle.codes.specs.TimeCode.{standard_fits, standard_list, standard_bytes, short_fits, short_list, short_bytes}
use Rattle.universal.specs.Refusals.{gives, refused, refusal}
use Rattle.universal.specs.Emission.{Emission, sent, check, ◌then◌}
use Rattle.codes.proofs.Laws.{standard_list_length, short_list_length}
use Rattle.mmc.proofs.Writing.EmissionPuts.{named_small}
use Rattle.mmc.proofs.RangeTests.{within_told}

-- ---- time codes

-- At most so many bytes go out.
code_length : (t : Bool) (l : List ℕ) (n : ℕ) → length l ≡ n → length (check t 3 then sent l).bytes ≤ n
code_length true l n e = omega arith
code_length false l n e = omega arith

pub standard_length : (c : StandardTimeCode) → length (standard_item c).bytes ≤ 5
unfolding standard_item
standard_length c = code_length (standard_fits c) (standard_list c) 5 (standard_list_length c)

pub short_length : (c : ShortTimeCode) → length (short_item c).bytes ≤ 2
unfolding short_item
short_length c = code_length (short_fits c) (short_list c) 2 (short_list_length c)

-- Bytes under a check are those of its answer.
code_by : (t : Bool) (l : List ℕ) → check t 3 then sent l ≡ code_item (cond t (gives l) (refused (refusal 3)))
code_by true l = refl
code_by false l = refl

pub standard_code : (c : StandardTimeCode) → standard_item c ≡ code_item (standard_bytes c)
unfolding standard_item
standard_code c = code_by (standard_fits c) (standard_list c)

pub short_as_code : (c : ShortTimeCode) → short_item c ≡ code_item (short_bytes c)
unfolding short_item
short_as_code c = code_by (short_fits c) (short_list c)

-- ---- names with data of the source

-- ---- locate and move

pub target_sent : (c : StandardTimeCode) (f : FinalByte) → c.final_byte ≡ f → is_subframes f ≡ true
    → locate_target_item c ≡ sent (68 ∷ 6 ∷ 1 ∷ []) then standard_item c
unfolding locate_target_item
target_sent c f e h = rw (e, h)

-- ---- time code fields

pub fits_below : (f : ℕ) (g : Bool) (l : FinalByte) → code_fits f g l ≡ true → f < 32
unfolding code_fits
fits_below f g l h = (within_told 1 32 f (and_left (within 1 32 f) (form_fits f g l) h)).1
  where
    and_left : (a b : Bool) → (a && b) ≡ true → a ≡ true
    and_left true b e = refl
    and_left false b e = e

pub code_sent : (f : ℕ) (c : StandardTimeCode) → code_fits f c.negative c.final_byte ≡ true
    → time_code_item f c ≡ sent (f ∷ []) then standard_item c
unfolding time_code_item
code_sent f c h = rw h

pub short_sent : (f : ℕ) (c : ShortTimeCode) → code_fits f c.negative c.final_byte ≡ true
    → short_code_item f c ≡ sent ((f + 32) ∷ []) then short_item c
unfolding short_code_item
short_sent f c h = rw h

-- ---- by the case

-- ---- how much goes out at most

-- A check, and what goes out after it.
checked_small : (t : Bool) (k n : ℕ) (e : Emission) → length e.bytes ≤ n → length (check t k then e).bytes ≤ n
checked_small true k n e h = h
checked_small false k n e h = omega arith

-- Bytes before what goes out.
sent_small : (bs : List ℕ) (n : ℕ) (e : Emission) → length e.bytes ≤ n → length (sent bs then e).bytes ≤ length bs + n
sent_small bs n e h = omega (arith, length-append bs e.bytes)

-- At most 131 bytes go out of a command, and of a field.
pub command_small : (source : List ℕ) (c : MmcCommand) → length (command_item source c).bytes ≤ 131
unfolding command_item write_item locate_field_item locate_target_item move_item other_item
command_small source C.Stop = omega arith
command_small source C.Play = omega arith
command_small source C.DeferredPlay = omega arith
command_small source C.FastForward = omega arith
command_small source C.Rewind = omega arith
command_small source C.RecordStrobe = omega arith
command_small source C.RecordExit = omega arith
command_small source C.Pause = omega arith
command_small source C.Reset = omega arith
command_small source (C.Write d) = checked_small (is_inside source d) 6 131 _ (named_small Commands (64 ∷ []) (part_of source d))
command_small source (C.LocateField r) = checked_small (within 8 16 r) 3 131 (sent (68 ∷ 2 ∷ 0 ∷ r ∷ [])) (omega arith)
command_small source (C.LocateTarget c) =
    checked_small (is_subframes c.final_byte) 3 131 _
    (omega (arith, sent_small (68 ∷ 6 ∷ 1 ∷ []) 5 (standard_item c) (standard_length c)))
command_small source (C.Move d s) =
    checked_small (within 1 32 d && within 1 32 s) 3 131 (sent (76 ∷ 2 ∷ d ∷ s ∷ [])) (omega arith)
command_small source (C.Other n d) =
    checked_small (is_inside source n && is_inside source d) 6 131 _ (named_small Commands (part_of source n) (part_of source d))

pub field_small : (source : List ℕ) (f : InfoField) → length (field_item source f).bytes ≤ 131
unfolding field_item time_code_item short_code_item other_item
field_small source (F.TimeCode f c) =
    checked_small (code_fits f c.negative c.final_byte) 3 131 _
    (omega (arith, sent_small (f ∷ []) 5 (standard_item c) (standard_length c)))
field_small source (F.Short f c) =
    checked_small (code_fits f c.negative c.final_byte) 3 131 _
    (omega (arith, sent_small ((f + 32) ∷ []) 2 (short_item c) (short_length c)))
field_small source (F.Other n d) =
    checked_small (is_inside source n && is_inside source d) 6 131 _ (named_small Fields (part_of source n) (part_of source d))
