-- What the name and data of an accepted command or field are read as. Assumes nothing.
use Rattle.std.specs.Prelude.{None}
use Prim.Native.Nat.{ℕ, ◌+◌, ◌-◌}
use mathlib.Core.Path.{◌≡◌, refl, ap}
use mathlib.Core.List.{List, [], ◌∷◌}
use native.Mathlib.Omega.{arith}
use borrow.Author.Tests.{ne_eqb}
use Rattle.mmc.specs.declared.command.MmcCommand.{MmcCommand}
use Rattle.mmc.specs.declared.command.MmcCommand.TheVariants as C
use Rattle.mmc.specs.declared.field.InfoField.{InfoField}
use Rattle.mmc.specs.declared.field.InfoField.TheVariants as F
use Rattle.codes.specs.declared.time_code.StandardTimeCode.{StandardTimeCode}
use Rattle.codes.specs.declared.time_code.ShortTimeCode.{ShortTimeCode}
use Rattle.mmc.specs.Command.{locate_field, locate_target, move, read_locate, read_move, command_by_name, read_command}
use Rattle.mmc.specs.Field.{time_code_field, short_field, field_by_name, read_field}
use Rattle.mmc.specs.Item.{locate_field_item, locate_target_item, move_item, command_item, time_code_item, short_code_item, field_item}
use Rattle.mmc.specs.Strings.{command_pair, field_pair, command_back, field_back}
use Rattle.codes.specs.TimeCode.{standard_list, short_list, zeroed}
use Rattle.codes.proofs.Laws.{read_back, short_read_back, five_listed, two_listed}
use Rattle.mmc.proofs.Writing.ItemBytes.{locate_field_checks, locate_target_checks, move_checks, time_code_checks, short_code_checks}
use Rattle.mmc.proofs.RangeTests.{within_range, above_range}

-- ---- commands

locate_field_back : (r : ℕ) → (locate_field_item r).stop ≡ None → read_command (68 ∷ []) (0 ∷ r ∷ []) ≡ locate_field r
unfolding read_command command_by_name read_locate
locate_field_back r h = let t = locate_field_checks r h in rw (ne_eqb r 0 (λ e. omega (arith, t.0)))

locate_target_back : (c : StandardTimeCode) → (locate_target_item c).stop ≡ None
    → read_command (68 ∷ []) (1 ∷ standard_list c) ≡ locate_target (zeroed c)
unfolding read_command command_by_name read_locate
locate_target_back c h = rw (five_listed c) (ap locate_target (read_back c (locate_target_checks c h).0))

move_read_back : (d s : ℕ) → (move_item d s).stop ≡ None → read_command (76 ∷ []) (d ∷ s ∷ []) ≡ move d s
unfolding read_command command_by_name read_move
move_read_back d s h =
    let t = move_checks d s h in
    rw (ne_eqb d 0 (λ e. omega (arith, t.0)), ne_eqb s 0 (λ e. omega (arith, t.2)))

pub command_back_lem : (source : List ℕ) (c : MmcCommand) → (command_item source c).stop ≡ None
    → read_command (command_pair source c).name (command_pair source c).«data» ≡ command_back source c
unfolding command_item command_pair read_command command_by_name
command_back_lem source C.Stop h = refl
command_back_lem source C.Play h = refl
command_back_lem source C.DeferredPlay h = refl
command_back_lem source C.FastForward h = refl
command_back_lem source C.Rewind h = refl
command_back_lem source C.RecordStrobe h = refl
command_back_lem source C.RecordExit h = refl
command_back_lem source C.Pause h = refl
command_back_lem source C.Reset h = refl
command_back_lem source (C.Write d) h = refl
command_back_lem source (C.LocateField r) h = locate_field_back r h
command_back_lem source (C.LocateTarget c) h = locate_target_back c h
command_back_lem source (C.Move d s) h = move_read_back d s h
command_back_lem source (C.Other n d) h = refl

-- ---- fields

time_code_back : (f : ℕ) (c : StandardTimeCode) → (time_code_item f c).stop ≡ None
    → read_field (f ∷ []) (standard_list c) ≡ time_code_field f (zeroed c)
unfolding read_field field_by_name
time_code_back f c h =
    let t = time_code_checks f c h in rw (five_listed c, within_range 1 32 f t.0 t.1) (ap (time_code_field f) (read_back c t.2))

short_code_back : (f : ℕ) (c : ShortTimeCode) → (short_code_item f c).stop ≡ None
    → read_field ((f + 32) ∷ []) (short_list c) ≡ short_field f c
unfolding read_field field_by_name
short_code_back f c h =
    let t = short_code_checks f c h in
    let n : f + 32 - 32 ≡ f = omega arith in
    rw (
      two_listed c,
      above_range 1 32 (f + 32) (omega arith) (omega arith),
      within_range 33 64 (f + 32) (omega (arith, t.0)) (omega (arith, t.1)),
      n,
    )
    (ap (short_field f) (short_read_back c t.2))

pub field_back_lem : (source : List ℕ) (f : InfoField) → (field_item source f).stop ≡ None
    → read_field (field_pair source f).name (field_pair source f).«data» ≡ field_back source f
unfolding field_item field_pair
field_back_lem source (F.TimeCode f c) h = time_code_back f c h
field_back_lem source (F.Short f c) h = short_code_back f c h
field_back_lem source (F.Other n d) h = refl
