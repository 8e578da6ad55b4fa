-- What a first field is: the walk's items, each with the place where it begins, and the first of a name among them. Assumes nothing.
use Rattle.std.specs.Prelude.{Option, Some, None, option_map, find, ◌≢◌}
use Rattle.std.proofs.lemmas.Option.{none-some}
use Rattle.std.proofs.lemmas.List.Elements.{All-nil, All-cons, All-head, All-tail}
use Rattle.std.proofs.lemmas.Slice.Eq.{bytes_eq-Decides}
use Prim.Native.Nat.{ℕ, ◌+◌}
use mathlib.Core.Bool.{Bool, true, false, cond, true≢false}
use mathlib.Core.List.{List, [], ◌∷◌, ◌++◌}
use mathlib.Core.Path.{◌≡◌, refl, sym, ap, ◌∙◌}
use native.Mathlib.Nat.{add-zero}
use native.Mathlib.Omega.{arith}
use lib.ListN.{length, length-append}
use Rattle.field_index.specs.Index.{PlacedField, fields_from, is_named, first_named, placed, OtherNames, FirstOf}
use Rattle.mmc.specs.declared.length.Kind.TheVariants.{Fields}
use Rattle.mmc.specs.declared.split.ItemPlace.{ItemPlace}
use Rattle.mmc.specs.Rp013.{Item}
use Rattle.mmc.specs.Strings.{item, item_bytes, joined, walk}
use Rattle.mmc.proofs.StringLaws.{read_walk_as, read_as_none, read_as_cons, joined_none, joined_cons}

-- ---- the walk's items, with their places

-- The fields that a walk from the front finds are the items of `walk` in `mmc`, each with the place where it begins.
pub fields_by_walk : (body : List ℕ)
    → fields_from body 0 ≡ record { items = placed 0 (walk Fields body 0).items; stop = (walk Fields body 0).stop }
unfolding fields_from
fields_by_walk body = read_walk_as (λ (name d : List ℕ) (l : ItemPlace). record { name = name; place = l.name.start }) Fields body

-- No items have no places.
placed_none : (place : ℕ) → placed place [] ≡ []
placed_none place = read_as_none _ Fields place

-- An item at its place, and then the others behind its bytes.
placed_cons : (place : ℕ) (x : Item) (xs : List Item)
    → placed place (x ∷ xs) ≡ record { name = x.name; place = place } ∷ placed (place + length (item_bytes Fields x)) xs
placed_cons place x xs = read_as_cons _ Fields place x xs

-- ---- the first of a name

-- The name is told by its test.
byte_name_told : (n : ℕ) (name : List ℕ) → is_named n name ≡ true → name ≡ n ∷ []
byte_name_told n name h = (bytes_eq-Decides name (n ∷ [])).0 h

byte_name_tells : (n : ℕ) → is_named n (n ∷ []) ≡ true
byte_name_tells n = (bytes_eq-Decides (n ∷ []) (n ∷ [])).1 refl

other_name : (n : ℕ) (name : List ℕ) → is_named n name ≡ false → name ≢ n ∷ []
other_name n name h e = true≢false (sym ((bytes_eq-Decides name (n ∷ [])).1 e) ∙ h)

no_name : (n : ℕ) (name : List ℕ) → name ≢ n ∷ [] → is_named n name ≡ false
no_name n name h = go (is_named n name) refl
  where
    go : (b : Bool) → is_named n name ≡ b → b ≡ false
    go true e = absurd (h (byte_name_told n name e))
    go false e = refl

module _ (n : ℕ) where
  -- An item of another name.
  abbrev HasOther : Item → Type 0
  HasOther x = x.name ≢ n ∷ []

  -- The bytes of one item more.
  joined_more : (x : Item) (xs : List Item) → length (joined Fields (x ∷ xs)) ≡ length (item_bytes Fields x) + length (joined Fields xs)
  joined_more x xs = ap length (joined_cons Fields x xs) ∙ length-append (item_bytes Fields x) (joined Fields xs)

  -- What is found is the first.
  pub found_first : (start : ℕ) (xs : List Item) (place : ℕ) → first_named n (placed start xs) ≡ Some place → FirstOf n start xs place
  found_first start [] place h = absurd (none-some place (sym (ap (first_named n) (placed_none start)) ∙ h))
  found_first start (x ∷ xs) place h =
      go (is_named n x.name) refl (sym (ap (first_named n) (placed_cons start x xs)) ∙ h)
      (found_first (start + length (item_bytes Fields x)) xs place)
    where
      rest : Option PlacedField
      rest = find (λ (f : PlacedField). is_named n f.name) (placed (start + length (item_bytes Fields x)) xs)

      go : (b : Bool) → is_named n x.name ≡ b
          → option_map (λ (f : PlacedField). f.place) (cond b (Some (record { name = x.name; place = start })) rest) ≡ Some place
          → (first_named n (placed (start + length (item_bytes Fields x)) xs) ≡ Some place
          → FirstOf n (start + length (item_bytes Fields x)) xs place)
          → FirstOf n start (x ∷ xs) place
      go true e h later =
          let p : start ≡ place = cc in
          let j : length (joined Fields []) ≡ 0 = ap length (joined_none Fields) in
          record {
            earlier = [];
            «data» = x.«data»;
            later = xs;
            walked = ap (λ (name : List ℕ). item name x.«data» ∷ xs) (byte_name_told n x.name e);
            other_names = All-nil HasOther;
            begins = omega arith;
          }
      go false e h later =
          let f = later h in
          let j = joined_more x f.earlier in
          record {
            earlier = x ∷ f.earlier;
            «data» = f.«data»;
            later = f.later;
            walked = ap (λ (l : List Item). x ∷ l) f.walked;
            other_names = All-cons HasOther x f.earlier (other_name n x.name e) f.other_names;
            begins = omega (arith, f.begins, j);
          }

  -- The first is found.
  pub first_found : (start : ℕ) (earlier : List Item) (d : List ℕ) (later : List Item) → OtherNames n earlier
      → first_named n (placed start (earlier ++ item (n ∷ []) d ∷ later)) ≡ Some (start + length (joined Fields earlier))
  first_found start [] d later h =
      ap (first_named n) (placed_cons start (item (n ∷ []) d) later) ∙ rw (byte_name_tells n, joined_none Fields, add-zero start)
  first_found start (x ∷ xs) d later h =
      ap (first_named n) (placed_cons start x (xs ++ item (n ∷ []) d ∷ later))
      ∙ rw (no_name n x.name (All-head HasOther x xs h))
      (first_found (start + length (item_bytes Fields x)) xs d later (All-tail HasOther x xs h)
      ∙ ap Some (omega (arith, joined_more x xs)))

  -- None is found just where none has the name.
  pub none_found : (start : ℕ) (xs : List Item) → first_named n (placed start xs) ≡ None → OtherNames n xs
  none_found start [] h = All-nil HasOther
  none_found start (x ∷ xs) h =
      go (is_named n x.name) refl (sym (ap (first_named n) (placed_cons start x xs)) ∙ h)
      (none_found (start + length (item_bytes Fields x)) xs)
    where
      rest : Option PlacedField
      rest = find (λ (f : PlacedField). is_named n f.name) (placed (start + length (item_bytes Fields x)) xs)

      go : (b : Bool) → is_named n x.name ≡ b
          → option_map (λ (f : PlacedField). f.place) (cond b (Some (record { name = x.name; place = start })) rest) ≡ None
          → (first_named n (placed (start + length (item_bytes Fields x)) xs) ≡ None → OtherNames n xs)
          → OtherNames n (x ∷ xs)
      go true e h later = absurd (none-some start (sym h))
      go false e h later = All-cons HasOther x xs (other_name n x.name e) (later h)

  pub found_none : (start : ℕ) (xs : List Item) → OtherNames n xs → first_named n (placed start xs) ≡ None
  found_none start [] h = ap (first_named n) (placed_none start)
  found_none start (x ∷ xs) h =
      ap (first_named n) (placed_cons start x xs)
      ∙ rw (no_name n x.name (All-head HasOther x xs h))
      (found_none (start + length (item_bytes Fields x)) xs (All-tail HasOther x xs h))
