-- An index beside a field string (document 02, #101): under each name of one byte up to 7FH, the place of the field that a walk from the
-- front first finds under it. Assumes nothing.
use Rattle.std.specs.Prelude.{ℕ, zero, suc, ◌+◌, ◌<◌, ◌≡◌, ◌≢◌, Bool, cond, List, [], ◌∷◌, ◌++◌, reverse, fold, find, All, eqb, ltb, bytes_eq, length, get_or, Option, Some, None, option_map}
use Rattle.mmc.specs.declared.length.Kind.TheVariants.{Fields}
use Rattle.mmc.specs.declared.split.ItemPlace.{ItemPlace}
use Rattle.mmc.specs.Field.{next_field}
use Rattle.mmc.specs.Part.{part_of}
use Rattle.mmc.specs.Rp013.{Item}
use Rattle.mmc.specs.Split.{next, next_as}
use Rattle.mmc.specs.Strings.{Found, Walk, walk_from, reads_of, read_as, item, item_bytes, item_place, joined, meaning, walk}
use Rattle.universal.specs.Refusals.{Refusal, Answer, gives, refused, refusal}

-- ---- an index

-- Under each one-byte name the place of a field, or none.
abbrev pub Index : Type 0
Index = ℕ → Option ℕ

-- "A fresh index has no fields."
abbrev pub no_fields : Index
no_fields n = None

-- "Names above 7FH aren't indexed."
abbrev pub is_indexed : ℕ → Bool
is_indexed n = ltb n 128

-- ---- the fields of a string

-- A field that a walk finds: its name, prefixes included, and the place where it begins, counted from the string's first byte.
pub record PlacedField : Type 0 where
  pub name : List ℕ
  pub place : ℕ

-- What the splitter found, as such a field.
abbrev pub placed_field : List ℕ → ItemPlace → PlacedField
placed_field body l = record { name = part_of body l.name; place = l.name.start }

-- What a walk from a place on finds, one field after another, and the refusal that ends it.
unfoldable pub fields_from : List ℕ → ℕ → Walk PlacedField
fields_from body place = walk_from (λ (p : ℕ). next_as (placed_field body) (next Fields body p)) (reads_of body) place

-- A string that can be split, and is then accepted: the walk from its front ends with 9.
unfoldable pub can_be_split : List ℕ → Bool
can_be_split body = eqb (fields_from body 0).stop.number 9

-- A name is this one byte, and has no prefix.
abbrev pub is_named : ℕ → List ℕ → Bool
is_named n name = bytes_eq name (n ∷ [])

-- The place of the first field of a one-byte name.
abbrev pub first_named : ℕ → List PlacedField → Option ℕ
first_named n fs = option_map (λ (f : PlacedField). f.place) (find (λ (f : PlacedField). is_named n f.name) fs)

-- The index of a string. (Of one that cannot be split it has the fields before the fault; a build makes no use of that.)
unfoldable pub index_of : List ℕ → Index
index_of body n = cond (is_indexed n) (first_named n (fields_from body 0).items) None

-- ---- a build

-- "A string that cannot be split gives 2 ..
unfoldable pub build_stop : List ℕ → Option Refusal
build_stop body = cond (can_be_split body) None (Some (refusal 2))

-- .. and leaves the index as before."
unfoldable pub after_build : Index → List ℕ → Index
after_build index body = cond (can_be_split body) (index_of body) index

-- ---- a lookup

-- The place, or 11.
abbrev pub place_or_11 : Option ℕ → Answer ℕ
place_or_11 None = refused (refusal 11)
place_or_11 (Some place) = gives place

-- "Refused: 11, at lookup, a name above 7FH or without a field."
unfoldable pub look_up : Index → ℕ → Answer ℕ
look_up index n = cond (is_indexed n) (place_or_11 (index n)) (refused (refusal 11))

-- ---- the record

-- A cell: 0 for none, else the place plus 1.
abbrev pub cell_place : ℕ → Option ℕ
cell_place zero = None
cell_place (suc place) = Some place

-- The index of 128 cells, one for each name up to 7FH.
unfoldable pub index_in : List ℕ → Index
index_in cells n = cell_place (get_or cells n 0)

-- ---- any list of builds

-- The index after builds, one after another.
abbrev pub after_builds : Index → List (List ℕ) → Index
after_builds index bodies = fold after_build index bodies

-- The last of the strings that was accepted.
abbrev pub last_accepted_string : List (List ℕ) → Option (List ℕ)
last_accepted_string bodies = find can_be_split (reverse bodies)

-- What a lookup answers of it: the place of its first field under the name, or 11 where it has none, and where there is no such string.
abbrev pub look_up_in : Option (List ℕ) → ℕ → Answer ℕ
look_up_in None n = refused (refusal 11)
look_up_in (Some body) n = place_or_11 (index_of body n)

-- ---- what a first field is

-- Items that stand one after another from a place on, each by its name and the place where it begins.
abbrev pub placed : ℕ → List Item → List PlacedField
placed place xs =
    read_as (λ (name d : List ℕ) (l : ItemPlace). record { name = name; place = l.name.start }) Fields place xs

-- No item has this one-byte name.
abbrev pub OtherNames : ℕ → List Item → Type 0
OtherNames n xs = All (λ (x : Item). x.name ≢ n ∷ []) xs

-- Of items that stand one after another from a place on, some have other names, and then comes one of this name, which begins behind
-- their bytes.
pub record FirstOf (n start : ℕ) (xs : List Item) (place : ℕ) : Type 0 where
  pub earlier : List Item
  pub «data» : List ℕ
  pub later : List Item
  pub walked : xs ≡ earlier ++ item (n ∷ []) «data» ∷ later
  pub other_names : OtherNames n earlier
  pub begins : place ≡ start + length (joined Fields earlier)

-- Of the items that a walk from the front finds, the first of this name begins at this place.
abbrev pub FirstField : List ℕ → ℕ → ℕ → Type 0
FirstField body n place = FirstOf n 0 (walk Fields body 0).items place

-- At this place of the string stands a field of this name, wholly inside the string, and a read there answers it.
pub record ReadThere (body : List ℕ) (n place : ℕ) : Type 0 where
  pub «data» : List ℕ
  pub inside : place < length body
  pub lies : Found Fields body place (item (n ∷ []) «data»)
  pub read : next_field body place
      ≡ record {
        answer = gives (meaning Fields (n ∷ []) «data» (item_place Fields place (item (n ∷ []) «data»)));
        place = place + length (item_bytes Fields (item (n ∷ []) «data»));
      }
