-- The answer of a lookup in an index of fields, in numbers. Assumes nothing.
use Rattle.std.specs.Prelude.{ℕ}
use Rattle.fimbrast.specs.declared.index.FlatFieldPlace.{FlatFieldPlace}
use Rattle.universal.specs.Refusals.{Answer, gives, refused}

-- The place with refusal 0, or a refusal and place 0.
unfoldable pub flat_field_place : Answer ℕ → FlatFieldPlace
flat_field_place (gives place) = record { refusal = 0; place = place }
flat_field_place (refused r) = record { refusal = r.number; place = 0 }
