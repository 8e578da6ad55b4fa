-- The walk of a build, one read at a time: what the index has so far, with the fields that are left, is the index of the whole string.
-- Assumes nothing.
use Rattle.std.specs.Prelude.{Option, Some, None, Result, Ok, Err, find, option_map}
use Rattle.std.specs.Option.{option_or}
use Prim.Native.Nat.{ℕ, ◌≤◌, ◌<◌}
use mathlib.Core.Bool.{Bool, true, false, cond, ◌&&◌}
use mathlib.Core.List.{List, [], ◌∷◌}
use mathlib.Core.Path.{◌≡◌, refl, sym, ap, ◌∙◌, fun_ext}
use lib.ListN.{length}
use Rattle.field_index.specs.Clauses.{with_field}
use Rattle.field_index.specs.Index.{Index, no_fields, is_indexed, PlacedField, placed_field, fields_from, is_named, first_named, index_of, can_be_split, build_stop, after_build}
use Rattle.mmc.specs.declared.length.Kind.TheVariants.{Fields}
use Rattle.mmc.specs.declared.split.ItemPlace.{ItemPlace}
use Rattle.mmc.specs.declared.split.NextItem.{NextItem}
use Rattle.mmc.specs.Part.{part_of}
use Rattle.mmc.specs.Split.{Next, next, next_as, next_item_of}
use Rattle.mmc.specs.Strings.{Walk, before}
use Rattle.mmc.proofs.ReadingLaws.{walk_as_step, next_goes_on, next_found, next_at_end, next_cut_short}
use Rattle.universal.specs.declared.error.SysexError.{SysexError}
use Rattle.universal.specs.Refusals.{gives, refused, refusal, refusal_of, answer_of}

-- ---- an index and the fields behind it

-- Under each name the field of the index, or else the first of the fields behind it.
unfoldable pub with_fields : Index → List PlacedField → Index
with_fields index fs n = option_or (index n) (cond (is_indexed n) (first_named n fs) None)

-- Before the first field it is the index of the whole string.
none_yet : (body : List ℕ) → index_of body ≡ with_fields no_fields (fields_from body 0).items
unfolding with_fields index_of
none_yet body = fun_ext (λ n. refl)

-- The first of the fields may be in the index or behind it.
one_more : (index : Index) (f : PlacedField) (fs : List PlacedField)
    → with_fields index (f ∷ fs) ≡ with_fields (with_field index f.place f.name) fs
unfolding with_fields with_field
one_more index f fs = fun_ext (λ n. by (index n) (is_indexed n) (is_named n f.name) (find (λ (g : PlacedField). is_named n g.name) fs))
  where
    by : (o : Option ℕ) (low named : Bool) (rest : Option PlacedField)
        → option_or o (cond low (option_map (λ (g : PlacedField). g.place) (cond named (Some f) rest)) None)
        ≡ option_or (option_or o (cond (low && named) (Some f.place) None)) (cond low (option_map (λ (g : PlacedField). g.place) rest) None)
    by (Some p) low named rest = refl
    by None true true rest = refl
    by None true false rest = refl
    by None false named rest = refl

-- Behind the last field nothing is left.
none_left : (index : Index) → with_fields index [] ≡ index
unfolding with_fields
none_left index = fun_ext (λ n. by (index n) (is_indexed n))
  where
    by : (o : Option ℕ) (low : Bool) → option_or o (cond low None None) ≡ o
    by (Some p) low = refl
    by None true = refl
    by None false = refl

-- ---- one read after another

-- What is known at a place of the walk.
pub record Walked (body : List ℕ) (place : ℕ) (index : Index) : Type 0 where
  pub fields : index_of body ≡ with_fields index (fields_from body place).items
  pub stop : (fields_from body 0).stop ≡ (fields_from body place).stop

-- At the front.
pub front : (body : List ℕ) → Walked body 0 no_fields
front body = record { fields = none_yet body; stop = refl }

-- What the walk from a place is by what the read there is.
walk_by : (body : List ℕ) (place : ℕ) (n : Next ItemPlace) → n ≡ next Fields body place
    → fields_from body place ≡ before (next_as (placed_field body) n).answer (fields_from body n.place)
unfolding fields_from
walk_by body place n e =
    walk_as_step (placed_field body) Fields body place
    ∙ ap (λ (m : Next ItemPlace). before (next_as (placed_field body) m).answer (fields_from body m.place)) (sym e)

module _ (body : List ℕ) (place : ℕ) (r : NextItem ItemPlace) (e : next_item_of r ≡ next Fields body place) (index : Index)
    (w : Walked body place index) where
  -- The read by its answer.
  read_of : (answer : Result ItemPlace SysexError) → r.answer ≡ answer
      → record { answer = answer_of answer; place = r.place } ≡ next Fields body place
  read_of answer q = ap (λ (a : Result ItemPlace SysexError). next_item_of (record { answer = a; place = r.place })) (sym q) ∙ e

  module _ (l : ItemPlace) (q : r.answer ≡ Ok l) where
    answered : (next Fields body place).answer ≡ gives l
    answered = ap (λ (n : Next ItemPlace). n.answer) (sym (read_of (Ok l) q))

    after : (next Fields body place).place ≡ r.place
    after = ap (λ (n : Next ItemPlace). n.place) (sym (read_of (Ok l) q))

    -- Where a field was found, the next place is past this one.
    pub goes_on : (place < r.place) × (r.place ≤ length body)
    goes_on = rw after at (next_goes_on Fields body place l answered)

    -- The index with this field, and the fields behind it.
    pub field_kept : Walked body r.place (with_field index place (part_of body l.name))
    field_kept =
        let begins : l.name.start ≡ place = ap (λ (m : ItemPlace). m.name.start) (next_found Fields body place l answered).lies in
        let v : fields_from body place ≡ before (gives (placed_field body l)) (fields_from body r.place) =
        walk_by body place _ (read_of (Ok l) q) in
        record {
          fields =
              w.fields
              ∙ ap (λ (y : Walk PlacedField). with_fields index y.items) v
              ∙ one_more index (placed_field body l) (fields_from body r.place).items
              ∙ ap (λ (p : ℕ). with_fields (with_field index p (part_of body l.name)) (fields_from body r.place).items) begins;
          stop = w.stop ∙ ap (λ (y : Walk PlacedField). y.stop) v;
        }

  -- Where the string is cut short: 2, and the index as before.
  pub cut_off : place < length body → (x : SysexError) → r.answer ≡ Err x
      → (Some (refusal_of x) ≡ build_stop body) × ((old : Index) → old ≡ after_build old body)
  unfolding can_be_split build_stop after_build
  cut_off h x q =
      let n = read_of (Err x) q in
      let two : refusal_of x ≡ refusal 2 =
      next_cut_short Fields body place h (refusal_of x) (ap (λ (m : Next ItemPlace). m.answer) (sym n)) in
      let s : (fields_from body 0).stop ≡ refusal 2 = w.stop ∙ ap (λ (y : Walk PlacedField). y.stop) (walk_by body place _ n) ∙ two in
      (rw (s, two), λ old. rw s)

-- At the end the index has every field.
pub at_end : (body : List ℕ) (place : ℕ) (index : Index) → Walked body place index → length body ≤ place
    → (None ≡ build_stop body) × ((old : Index) → index ≡ after_build old body)
unfolding can_be_split build_stop after_build
at_end body place index w h =
    let n : record { answer = refused (refusal 9); place = place } ≡ next Fields body place = sym (next_at_end Fields body place h) in
    let v : fields_from body place ≡ record { items = []; stop = refusal 9 } = walk_by body place _ n in
    let s : (fields_from body 0).stop ≡ refusal 9 = w.stop ∙ ap (λ (y : Walk PlacedField). y.stop) v in
    let i : index_of body ≡ index = w.fields ∙ ap (λ (y : Walk PlacedField). with_fields index y.items) v ∙ none_left index in
    (rw s, λ old. rw (s, i))
