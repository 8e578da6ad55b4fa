-- Worked instances of document 02, #101, as one computed table: strings built one after another from a fresh index, which of them were
-- accepted, and what lookups then answer, beside what the request says. Assumes nothing.
use Rattle.std.specs.Prelude.{ℕ, ◌≡◌, List, [], ◌∷◌, ◌++◌, map, replicate, Option, Some, None}
use mathlib.Core.Path.{refl}
use Rattle.field_index.specs.Index.{no_fields, fields_from, index_of, can_be_split, build_stop, after_build, look_up, after_builds}
use Rattle.mmc.specs.Length.{field_length, length_of}
use Rattle.mmc.specs.Part.{is_inside, part_of}
use Rattle.mmc.specs.Split.{prefixes_at, measured, split_at, next}
use Rattle.mmc.specs.Strings.{walk_from}
use Rattle.universal.specs.Refusals.{Refusal, Answer, gives, refused, refusal}

-- What builds and lookups answer.
pub record IndexAnswers : Type 0 where
  pub builds : List (Option Refusal)
  pub places : List (Answer ℕ)

-- Strings and names, and what they should answer.
pub record IndexRow : Type 0 where
  pub strings : List (List ℕ)
  pub names : List ℕ
  pub stated : IndexAnswers

abbrev index_row : List (List ℕ) → List ℕ → List (Option Refusal) → List (Answer ℕ) → IndexRow
index_row strings names builds places =
    record { strings = strings; names = names; stated = record { builds = builds; places = places } }

abbrev index_answers : IndexRow → IndexAnswers
index_answers r =
    record { builds = map build_stop r.strings; places = map (look_up (after_builds no_fields r.strings)) r.names }

-- A string that is accepted, and one that is refused by 2.
abbrev accepts : Option Refusal
accepts = None

abbrev refuses : Option Refusal
refuses = Some (refusal 2)

-- 11
abbrev no_place : Answer ℕ
no_place = refused (refusal 11)

-- SELECTED TIME CODE 01:37:52:16 with its status.
abbrev selected_field : List ℕ
selected_field = 0x01 ∷ 0x61 ∷ 0x25 ∷ 0x34 ∷ 0x30 ∷ 0x00 ∷ []

-- GP0 01:00:00:00 at 25.
abbrev gp0_field : List ℕ
gp0_field = 0x08 ∷ 0x21 ∷ 0x00 ∷ 0x00 ∷ 0x00 ∷ 0x00 ∷ []

-- Field 4FH, which has a count, with two bytes.
abbrev counted_field : List ℕ
counted_field = 0x4F ∷ 0x02 ∷ 0x20 ∷ 0x01 ∷ []

-- A field 08H behind the prefix 00H.
abbrev prefixed_field : List ℕ
prefixed_field = 0x00 ∷ gp0_field

pub index_table : List IndexRow
index_table =
    -- a fresh index has no fields
    index_row [] (0x00 ∷ 0x01 ∷ 0x7F ∷ 0x80 ∷ []) [] (no_place ∷ no_place ∷ no_place ∷ no_place ∷ [])
    -- places count from the string's first byte, and begin at the name
    ∷ index_row ((selected_field ++ counted_field ++ gp0_field) ∷ []) (0x01 ∷ 0x4F ∷ 0x08 ∷ 0x28 ∷ []) (accepts ∷ [])
    (gives 0 ∷ gives 6 ∷ gives 10 ∷ no_place ∷ [])
    -- of two fields of a name the first
    ∷ index_row ((counted_field ++ gp0_field ++ gp0_field ++ counted_field) ∷ []) (0x08 ∷ 0x4F ∷ []) (accepts ∷ [])
    (gives 4 ∷ gives 0 ∷ [])
    -- a field of two bytes; a name with bit 7 set is another name
    ∷ index_row ((0x28 ∷ 0x30 ∷ 0x00 ∷ gp0_field) ∷ []) (0x28 ∷ 0x08 ∷ 0x88 ∷ 0xFF ∷ []) (accepts ∷ [])
    (gives 0 ∷ gives 3 ∷ no_place ∷ no_place ∷ [])
    -- a field with no data behind its count
    ∷ index_row ((0x4F ∷ 0x00 ∷ gp0_field) ∷ []) (0x4F ∷ 0x08 ∷ []) (accepts ∷ []) (gives 0 ∷ gives 2 ∷ [])
    -- a prefixed name is not indexed, and hides no field
    ∷ index_row (prefixed_field ∷ []) (0x08 ∷ 0x00 ∷ []) (accepts ∷ []) (no_place ∷ no_place ∷ [])
    ∷ index_row ((prefixed_field ++ gp0_field) ∷ []) (0x08 ∷ []) (accepts ∷ []) (gives 7 ∷ [])
    ∷ index_row ((0x00 ∷ prefixed_field) ∷ []) (0x08 ∷ 0x00 ∷ []) (accepts ∷ []) (no_place ∷ no_place ∷ [])
    -- 00 00 00 is an item of no one-byte name
    ∷ index_row ((0x00 ∷ 0x00 ∷ 0x00 ∷ counted_field) ∷ []) (0x00 ∷ 0x4F ∷ []) (accepts ∷ []) (no_place ∷ gives 3 ∷ [])
    -- names above 7FH are walked over; 7FH is indexed
    ∷ index_row ((0xC4 ∷ 0x80 ∷ 0x7F ∷ gp0_field) ∷ []) (0xC4 ∷ 0x44 ∷ 0x80 ∷ 0x00 ∷ 0x7F ∷ 0x08 ∷ []) (accepts ∷ [])
    (no_place ∷ no_place ∷ no_place ∷ no_place ∷ gives 2 ∷ gives 3 ∷ [])
    -- the last accepted string counts: its fields, and none of an earlier one's
    ∷ index_row (selected_field ∷ gp0_field ∷ []) (0x01 ∷ 0x08 ∷ []) (accepts ∷ accepts ∷ []) (no_place ∷ gives 0 ∷ [])
    ∷ index_row (selected_field ∷ (counted_field ++ selected_field) ∷ []) (0x01 ∷ []) (accepts ∷ accepts ∷ []) (gives 4 ∷ [])
    -- a string that cannot be split leaves the index as before
    ∷ index_row (selected_field ∷ (gp0_field ++ 0x08 ∷ 0x21 ∷ []) ∷ []) (0x01 ∷ 0x08 ∷ []) (accepts ∷ refuses ∷ [])
    (gives 0 ∷ no_place ∷ [])
    ∷ index_row (selected_field ∷ (counted_field ++ selected_field ++ 0x08 ∷ []) ∷ []) (0x01 ∷ 0x4F ∷ []) (accepts ∷ refuses ∷ [])
    (gives 0 ∷ no_place ∷ [])
    -- wherever it is cut
    ∷ index_row ((0x4F ∷ 0x05 ∷ 0x01 ∷ []) ∷ (0x4F ∷ []) ∷ (0x00 ∷ 0x00 ∷ []) ∷ []) (0x4F ∷ []) (refuses ∷ refuses ∷ refuses ∷ [])
    (no_place ∷ [])
    -- also where none was accepted before it
    ∷ index_row ((gp0_field ++ 0x00 ∷ []) ∷ []) (0x08 ∷ []) (refuses ∷ []) (no_place ∷ [])
    -- a string accepted after it counts
    ∷ index_row (selected_field ∷ (gp0_field ++ 0x08 ∷ []) ∷ counted_field ∷ []) (0x01 ∷ 0x08 ∷ 0x4F ∷ [])
    (accepts ∷ refuses ∷ accepts ∷ []) (no_place ∷ no_place ∷ gives 0 ∷ [])
    -- data bytes are no names
    ∷ index_row ((counted_field ++ selected_field) ∷ []) (0x20 ∷ 0x01 ∷ []) (accepts ∷ []) (no_place ∷ gives 4 ∷ [])
    -- a place above 255
    ∷ index_row ((0x4F ∷ 0x7F ∷ replicate 127 0x08 ++ 0x50 ∷ 0x7F ∷ replicate 127 0x08 ++ gp0_field) ∷ []) (0x50 ∷ 0x08 ∷ [])
    (accepts ∷ []) (gives 129 ∷ gives 258 ∷ [])
    -- an empty one gives an index without fields
    ∷ index_row (selected_field ∷ [] ∷ []) (0x01 ∷ []) (accepts ∷ accepts ∷ []) (no_place ∷ [])
    ∷ index_row (selected_field ∷ [] ∷ (gp0_field ++ 0x08 ∷ []) ∷ []) (0x01 ∷ 0x08 ∷ []) (accepts ∷ accepts ∷ refuses ∷ [])
    (no_place ∷ no_place ∷ [])
    ∷ []

pub index_instances : map index_answers index_table ≡ map (λ (r : IndexRow). r.stated) index_table
unfolding index_table after_build build_stop can_be_split index_of fields_from look_up walk_from next split_at measured prefixes_at length_of field_length part_of is_inside
index_instances = refl
