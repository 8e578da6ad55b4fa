-- A field whose name and data are inside the source. Assumes nothing.
use Rattle.std.specs.Prelude.{Some}
use Prim.Native.Nat.{ℕ}
use native.Mathlib.Omega.{arith}
use mathlib.Core.Bool.{true}
use mathlib.Core.List.{List, [], ◌∷◌}
use mathlib.Core.Path.{◌≡◌, ap}
use lib.ListN.{length, get_or}
use Rattle.mmc.specs.declared.field.InfoField.{InfoField}
use Rattle.mmc.specs.declared.field.InfoField.TheVariants.{Other}
use Rattle.mmc.specs.declared.part.Part.{Part}
use Rattle.mmc.specs.Part.{is_inside, part_of}
use Rattle.track_field.specs.View.{TRACK-RECORD-READY, tracks_view, field_tracks}
use Rattle.tracks.specs.Tracks.{read_tracks}

-- A name of one byte is that byte alone.
one_byte : (name : List ℕ) (n : ℕ) → length name ≡ 1 → get_or name 0 0 ≡ n → name ≡ n ∷ []
one_byte [] n one first = absurd (omega (arith, one))
one_byte (b ∷ []) n one first = ap (λ (c : ℕ). c ∷ []) first
one_byte (b ∷ c ∷ bs) n one first = absurd (omega (arith, one))

-- Where it is named by the one byte 4FH, its view is that of its data.
pub named_view : (source : List ℕ) (field : InfoField) (n d : Part) → field ≡ Other n d → is_inside source n ≡ true
    → is_inside source d ≡ true → length (part_of source n) ≡ 1 → get_or (part_of source n) 0 0 ≡ TRACK-RECORD-READY
    → field_tracks source field ≡ Some (read_tracks (part_of source d))
unfolding field_tracks tracks_view
named_view source field n d e name_inside data_inside one first =
    rw (e, name_inside, data_inside, one_byte (part_of source n) TRACK-RECORD-READY one first)
