-- Worked instances of the view (document 02, #104), as one computed table: strings of fields, and the armed tracks that each field shows.
-- Assumes nothing.
use Rattle.std.specs.Prelude.{ℕ, ◌≡◌, List, [], ◌∷◌, ◌++◌, map, replicate, Option, Some, None}
use mathlib.Core.Path.{refl}
use Rattle.mmc.specs.Field.{field_by_name, read_field, next_field}
use Rattle.mmc.specs.Length.{field_length, length_of}
use Rattle.mmc.specs.declared.field.InfoField.TheVariants.{Other}
use Rattle.mmc.specs.declared.part.Part.{Part}
use Rattle.mmc.specs.Part.{is_inside, part, part_of}
use Rattle.mmc.specs.Split.{prefixes_at, measured, split_at, next}
use Rattle.mmc.specs.Strings.{walk_from, read_from, fields_read}
use Rattle.track_field.specs.View.{field_tracks, tracks_view}
use Rattle.tracks.specs.Rp013Tracks.{position_in_data}
use Rattle.tracks.specs.Tracks.{as_number, positions_in, read_tracks, armed_tracks}
use Rattle.tracks.specs.declared.set.TrackSet.{TrackSet}
use Rattle.universal.specs.Refusals.{Answer, gives, refused, refusal}

-- A string of fields, and what each of its fields should show: its armed tracks, a refusal, or no view.
pub record ViewRow : Type 0 where
  pub fields : List ℕ
  pub stated : List (Option (Answer (List ℕ)))

abbrev view_row : List ℕ → List (Option (Answer (List ℕ))) → ViewRow
view_row fields stated = record { fields = fields; stated = stated }

abbrev armed_answer : Answer TrackSet → Answer (List ℕ)
armed_answer (gives t) = gives (armed_tracks (positions_in t))
armed_answer (refused r) = refused r

abbrev armed_shown : Option (Answer TrackSet) → Option (Answer (List ℕ))
armed_shown None = None
armed_shown (Some a) = Some (armed_answer a)

abbrev views : List ℕ → List (Option (Answer (List ℕ)))
views fields = map armed_shown (map (field_tracks fields) (fields_read fields).items)

-- A field with a view, the refusal of one, and a field without.
abbrev shows : List ℕ → Option (Answer (List ℕ))
shows tracks = Some (gives tracks)

abbrev shows_12 : Option (Answer (List ℕ))
shows_12 = Some (refused (refusal 12))

abbrev no_view : Option (Answer (List ℕ))
no_view = None

pub view_table : List ViewRow
view_table =
    -- time code and the tracks 1, 2 and 17
    view_row (0x4F ∷ 0x04 ∷ 0x64 ∷ 0x00 ∷ 0x00 ∷ 0x01 ∷ []) (shows (1 ∷ 2 ∷ 17 ∷ []) ∷ [])
    -- no data is an empty set
    ∷ view_row (0x4F ∷ 0x00 ∷ []) (shows [] ∷ [])
    -- nine bytes are enough for track 58; ten are too many, also where the last is zero
    ∷ view_row (0x4F ∷ 0x09 ∷ replicate 8 0x00 ++ 0x40 ∷ []) (shows (58 ∷ []) ∷ [])
    ∷ view_row (0x4F ∷ 0x0A ∷ replicate 10 0x00) (shows_12 ∷ [])
    ∷ view_row (0x4F ∷ 0x2D ∷ replicate 45 0x00) (shows_12 ∷ [])
    -- each field has its own view, also behind one that is refused
    ∷ view_row (0x4F ∷ 0x0A ∷ replicate 10 0x00 ++ 0x4F ∷ 0x01 ∷ 0x20 ∷ 0x4F ∷ 0x01 ∷ 0x40 ∷ [])
    (shows_12 ∷ shows (1 ∷ []) ∷ shows (2 ∷ []) ∷ [])
    -- a name with prefixes is another name, and so are its neighbours
    ∷ view_row (0x00 ∷ 0x4F ∷ 0x01 ∷ 0x20 ∷ 0x00 ∷ 0x00 ∷ 0x4F ∷ 0x01 ∷ 0x20 ∷ []) (no_view ∷ no_view ∷ [])
    ∷ view_row (0x4E ∷ 0x01 ∷ 0x20 ∷ 0x50 ∷ 0x01 ∷ 0x20 ∷ []) (no_view ∷ no_view ∷ [])
    -- a time code has none, full or short, nor has a byte above 7FH
    ∷ view_row (0x08 ∷ 0x21 ∷ 0x00 ∷ 0x00 ∷ 0x00 ∷ 0x00 ∷ 0x2F ∷ 0x05 ∷ 0x00 ∷ 0xCF ∷ []) (no_view ∷ no_view ∷ no_view ∷ [])
    -- of a string that is cut short, the fields before the cut
    ∷ view_row (0x4F ∷ 0x01 ∷ 0x20 ∷ 0x4F ∷ 0x02 ∷ 0x40 ∷ []) (shows (1 ∷ []) ∷ [])
    ∷ []

pub view_instances : map (λ (r : ViewRow). views r.fields) view_table ≡ map (λ (r : ViewRow). r.stated) view_table
unfolding view_table field_tracks tracks_view read_from walk_from next_field next split_at measured prefixes_at length_of field_length read_field field_by_name part_of is_inside read_tracks position_in_data as_number positions_in armed_tracks
view_instances = refl

-- A field made by hand: its name and data at these places of `4F 01 20`.
abbrev shown_at : Part → Part → Option (Answer (List ℕ))
shown_at name d = armed_shown (field_tracks (0x4F ∷ 0x01 ∷ 0x20 ∷ []) (Other name d))

-- 6 where its name or data are not inside the source.
pub outside_is_6 : (shown_at (part 0 1) (part 2 1) ≡ shows (1 ∷ []))
    × (shown_at (part 0 1) (part 2 2) ≡ Some (refused (refusal 6)))
    × (shown_at (part 3 1) (part 2 1) ≡ Some (refused (refusal 6)))
    × (shown_at (part 2 1) (part 0 1) ≡ no_view)
unfolding field_tracks tracks_view part_of is_inside read_tracks position_in_data as_number positions_in armed_tracks
outside_is_6 = (refl, refl, refl, refl)
