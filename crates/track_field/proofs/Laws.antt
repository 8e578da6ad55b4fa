-- The laws of the view beside a field: which fields of a string have one, and what it is. Assumes nothing.
use Rattle.std.specs.Prelude.{Option, Some, None}
use Rattle.std.specs.Bool.{Decides}
use Rattle.std.proofs.lemmas.Slice.Eq.{bytes_eq-Decides}
use Prim.Native.Nat.{ℕ, zero, suc, ◌+◌}
use native.Mathlib.Omega.{arith}
use mathlib.Core.Bool.{Bool, true, false, cond}
use mathlib.Core.List.{List, [], ◌∷◌, map}
use mathlib.Core.Logic.{◌≢◌}
use mathlib.Core.Path.{◌≡◌, refl, sym, ap, ap₂, ◌∙◌}
use Rattle.mmc.specs.declared.field.InfoField.{InfoField}
use Rattle.mmc.specs.declared.length.Kind.TheVariants.{Fields}
use Rattle.mmc.specs.ByPage.{FieldReadsAs}
use Rattle.mmc.specs.Field.{FieldCase, time_code_field, short_field, other_field, read_field, field_of_case, next_field}
use Rattle.mmc.specs.Part.{part_of, is_inside}
use Rattle.mmc.specs.Rp013.{Item}
use Rattle.mmc.specs.declared.split.ItemPlace.{ItemPlace}
use Rattle.mmc.specs.Split.{next, next_as, answer_as, parts_as}
use Rattle.mmc.specs.Strings.{Walk, before, walk_from, reads_of, item_at, walk, fields_read, Given, emissions, pairs_of}
use Rattle.mmc.proofs.CommandLaws.{field_read_exactly}
use Rattle.mmc.proofs.ReadingLaws.{field_of_parts, found_parts}
use Rattle.mmc.proofs.StringLaws.{walk_none, walk_more, read_from_lem, walk_lem, written_walk}
use Rattle.track_field.specs.View.{TRACK-RECORD-READY, is_record_ready, tracks_view, field_tracks}
use Rattle.tracks.proofs.Laws.{set_reads_back}
use Rattle.tracks.specs.Tracks.{read_tracks, set_of, positions_in, data_of}
use Rattle.tracks.specs.declared.set.TrackSet.{TrackSet}
use Rattle.universal.specs.Refusals.{Answer, gives, refused}

-- ---- by name

-- A name that is the one byte 4FH has the view of its data, and any other has none.
pub view_of_4F : (d : List ℕ) → tracks_view (TRACK-RECORD-READY ∷ []) d ≡ Some (read_tracks d)
unfolding tracks_view
view_of_4F d = refl

pub view_of_others : (name d : List ℕ) → name ≢ TRACK-RECORD-READY ∷ [] → tracks_view name d ≡ None
unfolding tracks_view
view_of_others name d other = go (is_record_ready name) (bytes_eq-Decides name (TRACK-RECORD-READY ∷ []))
  where
    go : (b : Bool) → Decides b (name ≡ TRACK-RECORD-READY ∷ []) → cond b (Some (read_tracks d)) None ≡ None
    go true e = absurd (other (e.0 refl))
    go false e = refl

-- ---- a field that is read

-- A case of the code's own has the name of a time code.
not_other : (k : FieldCase) (name d : List ℕ) → FieldReadsAs k name d → name ≢ TRACK-RECORD-READY ∷ []
not_other (time_code_field f c) name d reads e =
    let one : f ∷ [] ≡ TRACK-RECORD-READY ∷ [] = sym reads.1 ∙ e in
    let same : f ≡ TRACK-RECORD-READY = cc in
    omega (arith, reads.0.to, same)
not_other (short_field f c) name d reads e =
    let one : (f + 0x20) ∷ [] ≡ TRACK-RECORD-READY ∷ [] = sym reads.1 ∙ e in
    let same : f + 0x20 ≡ TRACK-RECORD-READY = cc in
    omega (arith, reads.0.to, same)
not_other other_field name d reads e = reads

-- The view of a field that is read goes by the bytes of its name and data.
view_at : (body : List ℕ) (l : ItemPlace) → (is_inside body l.name ≡ true) × (is_inside body l.«data» ≡ true) → (k : FieldCase)
    → read_field (part_of body l.name) (part_of body l.«data») ≡ k
    → field_tracks body (field_of_case k l.name l.«data») ≡ tracks_view (part_of body l.name) (part_of body l.«data»)
unfolding field_tracks tracks_view
view_at body l inside (time_code_field f c) e =
    let reads = (field_read_exactly (time_code_field f c) (part_of body l.name) (part_of body l.«data»)).0
    (e, λ q. let z : ◌≡◌ {A = ℕ} 0 1 = cc in omega arith)
    in
    sym (view_of_others (part_of body l.name) (part_of body l.«data»)
    (not_other (time_code_field f c) (part_of body l.name) (part_of body l.«data») reads))
view_at body l inside (short_field f c) e =
    let reads = (field_read_exactly (short_field f c) (part_of body l.name) (part_of body l.«data»)).0
    (e, λ q. let z : ◌≡◌ {A = ℕ} 0 1 = cc in omega arith)
    in
    sym (view_of_others (part_of body l.name) (part_of body l.«data»)
    (not_other (short_field f c) (part_of body l.name) (part_of body l.«data») reads))
view_at body l inside other_field e = rw (inside.0, inside.1)

-- The view of an item.
abbrev pub item_view : Item → Option (Answer TrackSet)
item_view x = tracks_view x.name x.«data»

-- Each field of a string has the view of its own name and data, whatever stands before it: a response's fields and those of a Write's data.
views_from : (body : List ℕ) (most place : ℕ)
    → map (field_tracks body) (walk_from (next_field body) most place).items
    ≡ map item_view (walk_from (λ (p : ℕ). next_as (item_at body) (next Fields body p)) most place).items
views_from body zero place =
    rw (walk_none (next_field body) place, walk_none (λ (p : ℕ). next_as (item_at body) (next Fields body p)) place)
views_from body (suc most) place =
    rw (
      walk_more (next_field body) most place,
      walk_more (λ (p : ℕ). next_as (item_at body) (next Fields body p)) most place,
      field_of_parts body place,
    )
    (go (next Fields body place).answer refl (walk_from (next_field body) most (next Fields body place).place)
    (walk_from (λ (p : ℕ). next_as (item_at body) (next Fields body p)) most (next Fields body place).place)
    (views_from body most (next Fields body place).place))
  where
    go : (a : Answer ItemPlace) → (next Fields body place).answer ≡ a → (v : Walk InfoField) (w : Walk Item)
        → map (field_tracks body) v.items ≡ map item_view w.items
        → map (field_tracks body) (before (answer_as (parts_as (λ (n d : List ℕ). field_of_case (read_field n d)) body) a) v).items
        ≡ map item_view (before (answer_as (item_at body) a) w).items
    go (gives l) e v w h =
        ap₂ (λ (x : Option (Answer TrackSet)) (xs : List (Option (Answer TrackSet))). x ∷ xs)
        (view_at body l (found_parts Fields body place l e) (read_field (part_of body l.name) (part_of body l.«data»)) refl) h
    go (refused r) e v w h = refl

pub views_of_string : (body : List ℕ) → map (field_tracks body) (fields_read body).items ≡ map item_view (walk Fields body 0).items
views_of_string body =
    rw (read_from_lem Fields body 0, walk_lem Fields body 0) (views_from body (reads_of body) 0)

-- So it is of what an accepted writing of fields left: each field shows the set of its data.
pub views_written : (gs : List (Given Fields)) → (emissions Fields gs).stop ≡ None
    → map (field_tracks (emissions Fields gs).bytes) (fields_read (emissions Fields gs).bytes).items ≡ map item_view (pairs_of Fields gs)
views_written gs h =
    views_of_string (emissions Fields gs).bytes ∙ ap (λ (w : Walk Item). map item_view w.items) (written_walk Fields gs h)

-- The bytes that a set was written as show that set.
pub set_shown : (t : TrackSet) → tracks_view (TRACK-RECORD-READY ∷ []) (data_of t) ≡ Some (gives (set_of (positions_in t)))
set_shown t = view_of_4F (data_of t) ∙ ap Some (set_reads_back t)
