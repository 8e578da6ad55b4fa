-- Information fields, and how mmc.rs reads them. Assumes nothing.
use Rattle.std.specs.Prelude.{ℕ, ◌-◌, cond, List, eqb, length, get_or}
use Rattle.mmc.specs.declared.field.InfoField.{InfoField}
use Rattle.mmc.specs.declared.field.InfoField.TheVariants.{TimeCode, Short, Other}
use Rattle.mmc.specs.declared.length.Kind.TheVariants.{Fields}
use Rattle.mmc.specs.declared.part.Part.{Part}
use Rattle.codes.specs.declared.time_code.StandardTimeCode.{StandardTimeCode}
use Rattle.codes.specs.declared.time_code.ShortTimeCode.{ShortTimeCode}
use Rattle.mmc.specs.Length.{within}
use Rattle.mmc.specs.Split.{Next, next, next_as, parts_as}
use Rattle.codes.specs.TimeCode.{read_standard, read_short}

-- The case of a field, without the bytes of its own that another field has.
pub data FieldCase : Type 0 where
  time_code_field : ℕ → StandardTimeCode → FieldCase
  short_field : ℕ → ShortTimeCode → FieldCase
  other_field : FieldCase

-- A name of one byte, with its data: 01H to 1FH with five bytes, 21H to 3FH with two.
unfoldable pub field_by_name : ℕ → List ℕ → FieldCase
field_by_name n d =
    cond (within 1 32 n)
    (cond (eqb (length d) 5) (time_code_field n (read_standard (get_or d 0 0) (get_or d 1 0) (get_or d 2 0) (get_or d 3 0) (get_or d 4 0))) other_field)
    (cond (within 33 64 n) (cond (eqb (length d) 2) (short_field (n - 32) (read_short (get_or d 0 0) (get_or d 1 0))) other_field) other_field)

-- What a name and data are read as: a name with prefixes is no time code.
unfoldable pub read_field : List ℕ → List ℕ → FieldCase
read_field name d = cond (eqb (length name) 1) (field_by_name (get_or name 0 0) d) other_field

-- The case with the parts that its name and data are.
abbrev pub field_of_case : FieldCase → Part → Part → InfoField
field_of_case (time_code_field f c) n d = TimeCode f c
field_of_case (short_field f c) n d = Short f c
field_of_case other_field n d = Other n d

-- ---- the next field of a string

unfoldable pub next_field : List ℕ → ℕ → Next InfoField
next_field body place = next_as (parts_as (λ (x y : List ℕ). field_of_case (read_field x y)) body) (next Fields body place)
