-- The laws of an index: what any list of builds leaves, what a lookup answers of it, and what is read at the place that it gives.
-- Assumes nothing.
use Rattle.std.specs.Prelude.{Option, Some, None, reverse, find}
use Rattle.std.specs.Option.{option_or}
use Rattle.std.proofs.lemmas.Bool.{cases_lt}
use Rattle.std.proofs.lemmas.Option.{none-some}
use Rattle.std.proofs.lemmas.List.{reverse-append}
use Rattle.std.proofs.lemmas.List.Folds.{find-append}
use Prim.Native.Nat.{ℕ, ◌≤◌, ◌<◌}
use mathlib.Core.Bool.{Bool, true, false, cond, true≢false}
use mathlib.Core.List.{List, [], ◌∷◌}
use mathlib.Core.Logic.{◌⊎◌, inl, inr, ⊎_elim, ◌↔◌}
use mathlib.Core.Path.{◌≡◌, refl, sym, ap, ◌∙◌}
use native.Mathlib.Nat.{le_refl}
use native.Mathlib.Omega.{arith}
use borrow.Author.Tests.{lt-ltb, le-ltb, ltb-true}
use lib.Dec.{eqb, ltb}
use lib.ListN.{length}
use Rattle.field_index.specs.Index.{Index, no_fields, is_indexed, first_named, placed, index_of, can_be_split, build_stop, after_build, place_or_11, look_up, after_builds, last_accepted_string, look_up_in, OtherNames, FirstField, ReadThere}
use Rattle.field_index.proofs.FirstFields.{found_first, first_found, none_found, found_none}
use Rattle.field_index.proofs.Walking.{front, at_end}
use Rattle.mmc.specs.declared.length.Kind.TheVariants.{Fields}
use Rattle.mmc.specs.declared.field.InfoField.{InfoField}
use Rattle.mmc.specs.Field.{next_field}
use Rattle.mmc.specs.Rp013.{Item}
use Rattle.mmc.specs.Split.{Next}
use Rattle.mmc.specs.Strings.{item, all_fit, joined, walk}
use Rattle.mmc.proofs.StringLaws.{walk_stops, walk_exact, walk_item_fits, walk_item_found, walk_item_read, read_goes_on, zeros_item_lem}
use Rattle.universal.proofs.Laws.{gives_refused}
use Rattle.universal.specs.Refusals.{Refusal, gives, refused, refusal}
-- Two lists of 128 cells that hold the same index are equal cell by cell.
pub use Rattle.field_index.proofs.Cells.{cells_told}
-- The fields that a walk from the front finds are the items of `walk` in `mmc`, each with the place where it begins.
pub use Rattle.field_index.proofs.FirstFields.{fields_by_walk}

-- ---- any list of builds

-- The index that builds leave: that of the last string that was accepted, or the one before them.
abbrev index_left : Option (List ℕ) → Index → Index
index_left None index = index
index_left (Some body) index = index_of body

-- The last accepted string of a list: that of the strings behind the first, or else the first if it can be split.
last_of_string_and_rest : (body : List ℕ) (rest : List (List ℕ))
    → last_accepted_string (body ∷ rest) ≡ option_or (last_accepted_string rest) (cond (can_be_split body) (Some body) None)
last_of_string_and_rest body rest =
    ap (find can_be_split) (reverse-append (body ∷ []) rest) ∙ find-append can_be_split (reverse rest) (body ∷ [])

builds_leave : (bodies : List (List ℕ)) (index : Index) → after_builds index bodies ≡ index_left (last_accepted_string bodies) index
unfolding after_build
builds_leave [] index = refl
builds_leave (body ∷ rest) index =
    builds_leave rest (after_build index body)
    ∙ by (last_accepted_string rest) (can_be_split body)
    ∙ ap (λ (o : Option (List ℕ)). index_left o index) (sym (last_of_string_and_rest body rest))
  where
    by : (o : Option (List ℕ)) (b : Bool)
        → index_left o (cond b (index_of body) index) ≡ index_left (option_or o (cond b (Some body) None)) index
    by None true = refl
    by None false = refl
    by (Some later) b = refl

-- After any builds from fresh on, refused ones included, a lookup answers the place of the first field under the name in the last
-- string that was accepted; 11 where that has none, and where none was accepted.
pub lookup_after_builds : (bodies : List (List ℕ)) (n : ℕ)
    → look_up (after_builds no_fields bodies) n ≡ look_up_in (last_accepted_string bodies) n
unfolding look_up index_of
lookup_after_builds bodies n =
    ap (λ (index : Index). look_up index n) (builds_leave bodies no_fields) ∙ by (last_accepted_string bodies) (is_indexed n) refl
  where
    by : (o : Option (List ℕ)) (b : Bool) → is_indexed n ≡ b → look_up (index_left o no_fields) n ≡ look_up_in o n
    by None true e = rw e
    by None false e = rw e
    by (Some body) true e = rw e
    by (Some body) false e = rw e

-- ---- which strings are accepted

-- A string can be split just where the walk over it ends with 9.
split_walk : (body : List ℕ) → can_be_split body ≡ eqb (walk Fields body 0).stop.number 9
unfolding can_be_split
split_walk body = rw (fields_by_walk body)

-- Its refusal is then 9.
split_ends : (body : List ℕ) → can_be_split body ≡ true → (walk Fields body 0).stop ≡ refusal 9
split_ends body h =
    ⊎_elim (λ nine. nine) (λ two. absurd (true≢false (sym h ∙ split_walk body ∙ ap (λ (r : Refusal). eqb r.number 9) two)))
    (walk_stops Fields body)

-- The strings that are accepted are the bytes of items that fit, whatever they are.
pub accepted_exactly : (body : List ℕ)
    → (build_stop body ≡ None) ↔ ((xs : List Item) × (all_fit Fields xs ≡ true) × (body ≡ joined Fields xs))
unfolding build_stop
accepted_exactly body = (
  λ h. (walk_exact Fields body).0 (split_ends body (go (can_be_split body) h)),
  λ f. rw (split_walk body, (walk_exact Fields body).1 f),
)
  where
    go : (b : Bool) → cond b None (Some (refusal 2)) ≡ None → b ≡ true
    go true h = refl
    go false h = absurd (none-some (refusal 2) (sym h))

-- Every string is accepted, and leaves its own index, or is refused by 2, and leaves any index as before.
pub accepted_or_2 : (body : List ℕ)
    → ((build_stop body ≡ None) × ((index : Index) → after_build index body ≡ index_of body))
    ⊎ ((build_stop body ≡ Some (refusal 2)) × ((index : Index) → after_build index body ≡ index))
unfolding build_stop after_build
accepted_or_2 body = go (can_be_split body) refl
  where
    go : (b : Bool) → can_be_split body ≡ b
        → ((build_stop body ≡ None) × ((index : Index) → after_build index body ≡ index_of body))
        ⊎ ((build_stop body ≡ Some (refusal 2)) × ((index : Index) → after_build index body ≡ index))
    go true e = inl (rw e, λ index. rw e)
    go false e = inr (rw e, λ index. rw e)

-- An empty string is accepted, and has no fields.
pub empty_accepted : (index : Index) → (build_stop [] ≡ None) × (after_build index [] ≡ no_fields)
empty_accepted index =
    let e = at_end [] 0 no_fields (front []) (le_refl 0) in
    (sym e.0, sym (e.1 index))

-- ---- which field is the first

-- The index by the walk's items.
index_by_walk : (body : List ℕ) (n : ℕ)
    → index_of body n ≡ cond (is_indexed n) (first_named n (placed 0 (walk Fields body 0).items)) None
unfolding index_of
index_by_walk body n = rw (fields_by_walk body)

-- A name has a place in the index of a string just where it is at most 7FH and a walk from the front finds a field of it; the first of them
-- begins there.
pub first_field : (body : List ℕ) (n place : ℕ) → (index_of body n ≡ Some place) ↔ ((n < 128) × FirstField body n place)
first_field body n place = (λ h. go (is_indexed n) refl (sym (index_by_walk body n) ∙ h), λ f. back f.0 f.1)
  where
    go : (b : Bool) → ltb n 128 ≡ b → cond b (first_named n (placed 0 (walk Fields body 0).items)) None ≡ Some place
        → (n < 128) × FirstField body n place
    go true e h = (ltb-true n 128 e, found_first n 0 (walk Fields body 0).items place h)
    go false e h = absurd (none-some place h)

    back : n < 128 → FirstField body n place → index_of body n ≡ Some place
    back l f =
        rw (index_by_walk body n, lt-ltb n 128 l, f.walked)
        (first_found n 0 f.earlier f.«data» f.later f.other_names ∙ ap Some (sym f.begins))

-- A name of at most 7FH has no place in the index of a string just where no item of the walk has it.
pub no_field : (body : List ℕ) (n : ℕ) → n < 128 → (index_of body n ≡ None) ↔ OtherNames n (walk Fields body 0).items
no_field body n l = (
  λ h. none_found n 0 (walk Fields body 0).items (rw (index_by_walk body n, lt-ltb n 128 l) at h),
  λ f. rw (index_by_walk body n, lt-ltb n 128 l) (found_none n 0 (walk Fields body 0).items f),
)

-- A name above 7FH has no place in it.
pub above_no_field : (body : List ℕ) (n : ℕ) → 128 ≤ n → index_of body n ≡ None
unfolding index_of
above_no_field body n h = rw (le-ltb n 128 h)

-- 00H is no name of one byte: it has no field in any string.
pub zero_no_field : (body : List ℕ) → index_of body 0 ≡ None
zero_no_field body = go (index_of body 0) refl
  where
    go : (o : Option ℕ) → index_of body 0 ≡ o → o ≡ None
    go None e = refl
    go (Some place) e =
        let f = ((first_field body 0 place).0 e).1 in
        let fits = walk_item_fits Fields body f.earlier (item (0 ∷ []) f.«data») f.later f.walked in
        let three = ap (λ (x : Item). length x.name) (zeros_item_lem Fields (item (0 ∷ []) f.«data») fits refl) in
        absurd (omega (arith, three))

-- At a place of the index of a string, the next field of the string is the one of that name.
pub read_at_index : (body : List ℕ) (n place : ℕ) → index_of body n ≡ Some place → ReadThere body n place
read_at_index body n place h =
    let f = ((first_field body n place).0 h).1 in
    let begins : length (joined Fields f.earlier) ≡ place = omega (arith, f.begins) in
    let read = rw begins at (walk_item_read Fields body f.earlier (item (n ∷ []) f.«data») f.later f.walked) in
    let on = read_goes_on Fields body place _ (ap (λ (x : Next InfoField). x.answer) read) in
    let past : place < (next_field body place).place = on.0 in
    let end : (next_field body place).place ≤ length body = on.1 in
    let there = rw begins at (walk_item_found Fields body f.earlier (item (n ∷ []) f.«data») f.later f.walked) in
    record { «data» = f.«data»; inside = omega arith; lies = there; read = read }

-- ---- what a lookup answers

-- After any builds from fresh on, of which this string was the last accepted: a lookup answers the place in its index, or 11.
pub lookup_in_last : (bodies : List (List ℕ)) (body : List ℕ) (n : ℕ) → last_accepted_string bodies ≡ Some body
    → look_up (after_builds no_fields bodies) n ≡ place_or_11 (index_of body n)
lookup_in_last bodies body n h = lookup_after_builds bodies n ∙ ap (λ (o : Option (List ℕ)). look_up_in o n) h

-- After these builds a lookup gives a place just where the name is at most 7FH and the field that a walk over the string from the front
-- first finds under it begins there.
pub lookup_first : (bodies : List (List ℕ)) (body : List ℕ) (n place : ℕ) → last_accepted_string bodies ≡ Some body
    → (look_up (after_builds no_fields bodies) n ≡ gives place) ↔ ((n < 128) × FirstField body n place)
lookup_first bodies body n place h = (
  λ q. (first_field body n place).0 (to (index_of body n) (sym (lookup_in_last bodies body n h) ∙ q)),
  λ f. lookup_in_last bodies body n h ∙ ap place_or_11 ((first_field body n place).1 f),
)
  where
    to : (o : Option ℕ) → place_or_11 o ≡ gives place → o ≡ Some place
    to None q = absurd (gives_refused place (refusal 11) q)
    to (Some p) q = ap Some cc

-- After these builds a lookup is 11 just where the name is above 7FH or no item of the walk has it.
pub lookup_11 : (bodies : List (List ℕ)) (body : List ℕ) (n : ℕ) → last_accepted_string bodies ≡ Some body
    → (look_up (after_builds no_fields bodies) n ≡ refused (refusal 11)) ↔ ((128 ≤ n) ⊎ OtherNames n (walk Fields body 0).items)
lookup_11 bodies body n h = (
  λ q. go (cases_lt n 128) (none (index_of body n) (sym (lookup_in_last bodies body n h) ∙ q)),
  λ f. lookup_in_last bodies body n h ∙ ap place_or_11 (back f),
)
  where
    none : (o : Option ℕ) → place_or_11 o ≡ refused (refusal 11) → o ≡ None
    none None q = refl
    none (Some p) q = absurd (gives_refused p (refusal 11) (sym q))

    go : (n < 128) ⊎ (128 ≤ n) → index_of body n ≡ None → (128 ≤ n) ⊎ OtherNames n (walk Fields body 0).items
    go (inl l) e = inr ((no_field body n l).0 e)
    go (inr l) e = inl l

    back : (128 ≤ n) ⊎ OtherNames n (walk Fields body 0).items → index_of body n ≡ None
    back (inl l) = above_no_field body n l
    back (inr f) = low (cases_lt n 128)
      where
        low : (n < 128) ⊎ (128 ≤ n) → index_of body n ≡ None
        low (inl l) = (no_field body n l).1 f
        low (inr l) = above_no_field body n l

-- At the place that a lookup gives, the next field of the string is the one that was looked up.
pub read_at_lookup : (bodies : List (List ℕ)) (body : List ℕ) (n place : ℕ) → last_accepted_string bodies ≡ Some body
    → look_up (after_builds no_fields bodies) n ≡ gives place → ReadThere body n place
read_at_lookup bodies body n place h q =
    read_at_index body n place ((first_field body n place).1 ((lookup_first bodies body n place h).0 q))
