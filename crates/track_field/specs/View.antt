-- "The set is a view beside the unknown field" (document 02, #104): which fields have one, and what it is. Assumes nothing.
use Rattle.std.specs.Prelude.{ℕ, Bool, cond, ◌&&◌, List, [], ◌∷◌, bytes_eq, Option, Some, None}
use Rattle.mmc.specs.declared.field.InfoField.{InfoField}
use Rattle.mmc.specs.declared.field.InfoField.TheVariants.{TimeCode, Short, Other}
use Rattle.mmc.specs.Part.{is_inside, part_of}
use Rattle.tracks.specs.Tracks.{read_tracks}
use Rattle.tracks.specs.declared.set.TrackSet.{TrackSet}
use Rattle.universal.specs.Refusals.{Answer, refused, refusal}

-- "Field 4FH": RP-013's Track Record Ready.
abbrev pub TRACK-RECORD-READY : ℕ
TRACK-RECORD-READY = 0x4F

-- A name that is this one byte: one with prefixes is another.
abbrev pub is_record_ready : List ℕ → Bool
is_record_ready name = bytes_eq name (TRACK-RECORD-READY ∷ [])

-- The view of a name and its data.
unfoldable pub tracks_view : List ℕ → List ℕ → Option (Answer TrackSet)
tracks_view name d = cond (is_record_ready name) (Some (read_tracks d)) None

-- The view of a field beside its source: 6 where its name or data are not inside it. A time code has none.
unfoldable pub field_tracks : List ℕ → InfoField → Option (Answer TrackSet)
field_tracks source (TimeCode f c) = None
field_tracks source (Short f c) = None
field_tracks source (Other n d) =
    cond (is_inside source n && is_inside source d) (tracks_view (part_of source n) (part_of source d)) (Some (refused (refusal 6)))
