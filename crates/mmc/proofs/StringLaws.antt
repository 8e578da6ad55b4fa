-- The laws of strings, for commands and for fields alike: what the splitter finds, the walk over a whole string, the pages of
-- RP-013, and what is written and read back. Assumes nothing.
use Rattle.std.specs.Prelude.{Option, Some, None}
use Prim.Native.Nat.{ℕ, zero, suc, ◌+◌, ◌≤◌, ◌<◌}
use mathlib.Core.Path.{◌≡◌, refl, sym, ap, ap₂, subst, ◌∙◌}
use mathlib.Core.Bool.{Bool, true, false, cond}
use mathlib.Core.Logic.{◌⊎◌, inl, inr, ◌↔◌}
use mathlib.Core.List.{List, [], ◌∷◌, ◌++◌, map, append-nil, append_assoc, map-append}
use native.Mathlib.Nat.{le_refl}
use native.Mathlib.Omega.{arith}
use borrow.Author.Tests.{ne_eqb}
use lib.Dec.{eqb, lit≤}
use lib.ListN.{length}
use Rattle.mmc.specs.declared.command.MmcCommand.{MmcCommand}
use Rattle.mmc.specs.declared.command.MmcCommand.TheVariants as C
use Rattle.mmc.specs.declared.field.InfoField.{InfoField}
use Rattle.mmc.specs.declared.length.Kind.{Kind}
use Rattle.mmc.specs.declared.length.Kind.TheVariants.{Commands, Fields}
use Rattle.mmc.specs.declared.length.Length.{Length}
use Rattle.mmc.specs.declared.length.Length.TheVariants.{Fixed}
use Rattle.mmc.specs.declared.part.Part.{Part}
use Rattle.mmc.specs.Command.{CommandCase, command_by_name, read_command, command_of_case, next_command}
use Rattle.mmc.specs.Field.{FieldCase, read_field, field_of_case, next_field}
use Rattle.mmc.specs.Item.{command_item, field_item}
use Rattle.mmc.specs.Length.{length_of}
use Rattle.mmc.specs.declared.message.MmcMessage.{MmcMessage}
use Rattle.mmc.specs.declared.message.MmcMessage.TheVariants as M
use Rattle.mmc.specs.Message.{message_from, message_by}
use Rattle.mmc.specs.Named.{name_fits, last_of_name}
use Rattle.mmc.specs.Part.{part_of}
use Rattle.mmc.specs.Rp013.{Follows, Name, Item, IsItem, Spell, WellFormed, sub_id1_of, last_device, envelope, Message}
use Rattle.mmc.specs.Strings.{before, walk_from, reads_of, next_of, item, item_at, item_places, given, back, item_bytes, joined, item_fits, all_fit, zeros_item, is_zeros, any_zeros, OfPageOrZeros, item_place, read_as, Found, Walk, walk, walk_means, on_to, Meaning, meaning, meanings, read_from, commands_read, command_pair, field_pair, AcceptedItem, Given, pair_of, emission, emissions, pairs_of, AcceptedItems, command_back, field_back}
use Rattle.mmc.specs.Split.{ItemPlace, Next, next, next_as, parts_as}
use Rattle.mmc.specs.Writings.{message_of}
use Rattle.codes.specs.TimeCode.{zeroed}
use Rattle.codes.specs.declared.time_code.StandardTimeCode.{StandardTimeCode}
use Rattle.universal.specs.Emission.{Emission, sent, ◌then◌}
use Rattle.universal.specs.Message.{all_low, header, opening, message}
use Rattle.universal.specs.declared.message.Universal.{Universal}
use Rattle.universal.specs.Refusals.{Answer, refusal, refused, gives}
use Rattle.universal.proofs.Tests.{and_parts}
use Rattle.universal.proofs.Laws.{all_low_byte, then_sent, then_accepted, opening_plain, message_whole}
use Rattle.mmc.proofs.Reading.ReadBack
use Rattle.mmc.proofs.Writing.ItemBytes
use Rattle.mmc.proofs.Reading.FrontItem
-- An item that is found lies in the string: its name from the place on, its data up to the place to read on from.
pub use Rattle.mmc.proofs.Reading.FoundInside.{found_inside}
use Rattle.mmc.proofs.Reading.NextPlace
use Rattle.mmc.proofs.Reading.PageStrings
use Rattle.mmc.proofs.Reading.Walks
use Rattle.mmc.proofs.Reading.Walks.{TakenItems, items_taken}

-- ---- an item at its place

-- An item that fits, standing at a place of a string, is found there.
pub item_split : (kind : Kind) (body pre : List ℕ) (x : Item) (post : List ℕ) (place : ℕ) → item_fits kind x ≡ true
    → body ≡ pre ++ (item_bytes kind x ++ post) → place ≡ length pre → Found kind body place x
item_split kind body pre x post place h e p = rw (e, p) (FrontItem.item_found kind pre x post h)

-- It is read there as what its name and data mean, and reading goes on after it.
pub item_read : (kind : Kind) (body pre : List ℕ) (x : Item) (post : List ℕ) (place : ℕ) → item_fits kind x ≡ true
    → body ≡ pre ++ (item_bytes kind x ++ post) → place ≡ length pre
    → next_of kind body place
    ≡ record { answer = gives (meaning kind x.name x.«data» (item_place kind place x)); place = place + length (item_bytes kind x) }
item_read = Walks.item_read

-- ---- the walk over a string

-- The walk over any string: items that fit, and the bytes after them.
all_of : (kind : Kind) (body : List ℕ) → TakenItems kind body
all_of kind body = items_taken kind (length body) body (le_refl (length body))

-- What stands in a string after other bytes is walked as if it stood alone.
pub walk_after : (kind : Kind) (pre s : List ℕ) → walk kind (pre ++ s) (length pre) ≡ walk kind s 0
walk_after kind pre s = Walks.walked kind pre s (all_of kind s) ∙ sym (Walks.walked kind [] s (all_of kind s))

-- The walk over items that fit gives these items, and ends with 9.
pub walk_items : (kind : Kind) (xs : List Item) → all_fit kind xs ≡ true
    → walk kind (joined kind xs) 0 ≡ record { items = xs; stop = refusal 9 }
walk_items kind xs h =
    Walks.walked kind [] (joined kind xs)
    (record { items = xs; tail = []; stop = 9; fit = h; bytes = sym (append-nil (joined kind xs)); ended = inl (refl, refl) })

-- A string has one list of items that fit.
pub items_unique : (kind : Kind) (xs ys : List Item) → all_fit kind xs ≡ true → all_fit kind ys ≡ true
    → joined kind xs ≡ joined kind ys → xs ≡ ys
items_unique kind xs ys h k e =
    ap (λ (w : Walk Item). w.items) (sym (walk_items kind xs h) ∙ ap (λ (s : List ℕ). walk kind s 0) e ∙ walk_items kind ys k)

-- The walk gives items that fit.
pub walk_fits : (kind : Kind) (body : List ℕ) → all_fit kind (walk kind body 0).items ≡ true
walk_fits kind body = rw (Walks.walked kind [] body (all_of kind body)) (all_of kind body).fit

-- It ends with 9 or with 2.
pub walk_stops : (kind : Kind) (body : List ℕ) → ((walk kind body 0).stop ≡ refusal 9) ⊎ ((walk kind body 0).stop ≡ refusal 2)
walk_stops kind body = go (all_of kind body)
  where
    go : TakenItems kind body → ((walk kind body 0).stop ≡ refusal 9) ⊎ ((walk kind body 0).stop ≡ refusal 2)
    go t = rw (Walks.walked kind [] body t) (Walks.taken_stops kind body t)

-- The bytes of its items joined are the front of the string.
pub walk_front : (kind : Kind) (body : List ℕ) → (tail : List ℕ) × (body ≡ joined kind (walk kind body 0).items ++ tail)
walk_front kind body =
    let t : TakenItems kind body = all_of kind body in
    (t.tail, rw (Walks.walked kind [] body t) t.bytes)

-- Where it ends with 9 they are the string: every byte belongs to one item.
pub walk_whole : (kind : Kind) (body : List ℕ) → (walk kind body 0).stop ≡ refusal 9 → body ≡ joined kind (walk kind body 0).items
walk_whole kind body h =
    let t : TakenItems kind body = all_of kind body in
    let w = Walks.walked kind [] body t in
    rw w (Walks.ended_whole kind body t (sym (ap (λ (v : Walk Item). v.stop) w) ∙ h))

-- It ends with 9 exactly where the string is the bytes of items that fit.
pub walk_exact : (kind : Kind) (body : List ℕ)
    → ((walk kind body 0).stop ≡ refusal 9) ↔ ((xs : List Item) × (all_fit kind xs ≡ true) × (body ≡ joined kind xs))
walk_exact kind body = (
  λ h. ((walk kind body 0).items, walk_fits kind body, walk_whole kind body h),
  λ f. ap (λ (s : List ℕ). (walk kind s 0).stop) f.2 ∙ ap (λ (w : Walk Item). w.stop) (walk_items kind f.0 f.1),
)

-- Two strings joined, the first of which is walked to its end: the items of the first, then those of the second.
pub walk_joined : (kind : Kind) (a b : List ℕ) → (walk kind a 0).stop ≡ refusal 9
    → walk kind (a ++ b) 0 ≡ on_to (walk kind a 0) (walk kind b 0)
walk_joined kind a b h =
    Walks.walked_joined kind a b (walk kind a 0).items (walk_fits kind a) (walk_whole kind a h) (all_of kind b)
    ∙ ap (on_to (walk kind a 0)) (sym (Walks.walked kind [] b (all_of kind b)))

-- ---- what is read

-- What stands in a string after other bytes is read as what its items mean at their places, and ends as the walk does.
pub read_after : (kind : Kind) (pre s : List ℕ)
    → read_from kind (pre ++ s) (length pre) ≡ walk_means kind (length pre) (walk kind s 0)
read_after kind pre s =
    Walks.meant kind pre s (all_of kind s) ∙ ap (walk_means kind (length pre)) (sym (Walks.walked kind [] s (all_of kind s)))

-- The whole string is read so whatever is made of a name and data and of where they lie.
pub read_walk_as : {A : Type 0} (read : List ℕ → List ℕ → ItemPlace → A) (kind : Kind) (body : List ℕ)
    → walk_from (λ (p : ℕ). next_as (λ (l : ItemPlace). read (part_of body l.name) (part_of body l.«data») l) (next kind body p))
    (reads_of body) 0
    ≡ record { items = read_as read kind 0 (walk kind body 0).items; stop = (walk kind body 0).stop }
read_walk_as read kind body =
    Walks.walked_as read kind [] body (all_of kind body)
    ∙ ap (λ (w : Walk Item). record { items = read_as read kind 0 w.items; stop = w.stop })
    (sym (Walks.walked kind [] body (all_of kind body)))

-- So are its commands or fields.
pub read_walk : (kind : Kind) (body : List ℕ) → read_from kind body 0 ≡ walk_means kind 0 (walk kind body 0)
read_walk kind body = read_after kind [] body

-- Items that fit are read as what they mean, to the end.
pub read_items : (kind : Kind) (xs : List Item) → all_fit kind xs ≡ true
    → read_from kind (joined kind xs) 0 ≡ record { items = meanings kind 0 xs; stop = refusal 9 }
read_items kind xs h = read_walk kind (joined kind xs) ∙ ap (walk_means kind 0) (walk_items kind xs h)

-- What items mean one after another.
pub meanings_append : (kind : Kind) (place : ℕ) (xs ys : List Item)
    → meanings kind place (xs ++ ys) ≡ meanings kind place xs ++ meanings kind (place + length (joined kind xs)) ys
meanings_append kind place xs ys = Walks.reads_append (meaning kind) kind place xs ys

-- Two strings joined, the first of which is read to its end: what the first is read as, then what is read on from its end.
pub read_joined : (kind : Kind) (a b : List ℕ) → (read_from kind a 0).stop ≡ refusal 9
    → read_from kind (a ++ b) 0 ≡ on_to (read_from kind a 0) (read_from kind (a ++ b) (length a))
read_joined kind a b h =
    let e : (walk kind a 0).stop ≡ refusal 9 = ap (λ (w : Walk (Meaning kind)). w.stop) (sym (read_walk kind a)) ∙ h in
    let n : 0 + length (joined kind (walk kind a 0).items) ≡ length a = omega (arith, ap length (walk_whole kind a e)) in
    read_walk kind (a ++ b)
    ∙ ap (walk_means kind 0) (walk_joined kind a b e)
    ∙ ap (λ (l : List (Meaning kind)). record { items = l; stop = (walk kind b 0).stop })
    (meanings_append kind 0 (walk kind a 0).items (walk kind b 0).items
    ∙ ap (λ (k : ℕ). meanings kind 0 (walk kind a 0).items ++ meanings kind k (walk kind b 0).items) n)
    ∙ ap₂ on_to (sym (read_walk kind a)) (sym (read_after kind a b))

-- Where items that fit stand, their names and data stand.
pub places_bytes : (kind : Kind) (xs : List Item) → all_fit kind xs ≡ true
    → map (item_at (joined kind xs)) (item_places kind 0 xs) ≡ xs
places_bytes kind xs h =
    Walks.parts_read (λ n d l. item n d) kind (joined kind xs) xs h [] [] (sym (append-nil (joined kind xs))) 0 refl
    ∙ Walks.read_as_items kind 0 xs

-- ---- by the pages of RP-013

-- From 01H to 7FH a name's last byte has the length of p. 5.
pub length_by_page : (kind : Kind) (byte : ℕ) (rule : Length) → 1 ≤ byte → byte ≤ 127
    → (length_of kind byte ≡ rule) ↔ Follows kind byte rule
length_by_page kind byte rule a h =
    (λ e. subst (Follows kind byte) e (PageStrings.length_follows kind byte a h), PageStrings.follows_length kind byte rule)

-- A name that ends with 00H, which the page does not have, has no data.
pub length_zero : (kind : Kind) → length_of kind 0 ≡ Fixed 0
length_zero = PageStrings.length_zero

-- Nor has one that ends above 7FH, which no message has.
pub length_above : (kind : Kind) (byte : ℕ) → 127 < byte → length_of kind byte ≡ Fixed 0
length_above = PageStrings.length_above

-- A name is one of p. 5 just where it may be one and its last byte is not 00H.
pub name_by_page : (name : List ℕ) → Name name (last_of_name name) ↔ ((name_fits name ≡ true) × (eqb (last_of_name name) 0 ≡ false))
name_by_page name = (
  λ n. ((PageStrings.name_fits_lem name (last_of_name name) n).0, (PageStrings.name_fits_lem name (last_of_name name) n).2),
  λ t. PageStrings.fits_name name t.0 t.1,
)

-- A name of p. 5 has one last byte.
pub last_by_page : (name : List ℕ) (last : ℕ) → Name name last → last_of_name name ≡ last
last_by_page name last n = (PageStrings.name_fits_lem name last n).1

-- With bytes to 7FH, an item is one of p. 5 just where it fits and is not named 00 00 00.
pub item_by_page : (kind : Kind) (x : Item) → all_low (item_bytes kind x) ≡ true
    → IsItem kind x (item_bytes kind x) ↔ ((item_fits kind x ≡ true) × (is_zeros x ≡ false))
item_by_page kind x l = (
  λ i. ((PageStrings.item_fits_lem kind x (item_bytes kind x) i).0, (PageStrings.item_fits_lem kind x (item_bytes kind x) i).2),
  λ t. PageStrings.fits_item kind x t.0 l t.1,
)

-- An item that fits and is so named has no data.
pub zeros_item_lem : (kind : Kind) (x : Item) → item_fits kind x ≡ true → is_zeros x ≡ true → x ≡ zeros_item
zeros_item_lem = PageStrings.zeros_item_lem

-- With bytes to 7FH, items spell a string of p. 5 just where they fit and none is named 00 00 00.
pub string_by_page : (kind : Kind) (xs : List Item) → all_low (joined kind xs) ≡ true
    → Spell kind xs (joined kind xs) ↔ ((all_fit kind xs ≡ true) × (any_zeros xs ≡ false))
string_by_page kind xs l = (
  λ s. ((PageStrings.spell_fits kind xs (joined kind xs) s).0, (PageStrings.spell_fits kind xs (joined kind xs) s).2),
  λ t. PageStrings.fits_spell kind xs t.0 l t.1,
)

-- The walk over a well-formed string ends with 9, and gives the items that spell it.
pub walk_well_formed : (kind : Kind) (body : List ℕ) (f : WellFormed kind body)
    → walk kind body 0 ≡ record { items = f.0; stop = refusal 9 }
walk_well_formed kind body f =
    let s = PageStrings.spell_fits kind f.0 body f.1 in
    ap (λ (l : List ℕ). walk kind l 0) s.1 ∙ walk_items kind f.0 s.0

-- With bytes to 7FH a string is well-formed exactly where the walk ends with 9 and gives no item named 00 00 00.
pub walk_by_page : (kind : Kind) (body : List ℕ) → all_low body ≡ true
    → WellFormed kind body ↔ (((walk kind body 0).stop ≡ refusal 9) × (any_zeros (walk kind body 0).items ≡ false))
walk_by_page kind body l = (
  λ f.
      let w = walk_well_formed kind body f in (
        ap (λ (v : Walk Item). v.stop) w,
        ap (λ (v : Walk Item). any_zeros v.items) w ∙ (PageStrings.spell_fits kind f.0 body f.1).2,
      ),
  λ t.
      let w : body ≡ joined kind (walk kind body 0).items = walk_whole kind body t.0 in (
        (walk kind body 0).items,
        subst (Spell kind (walk kind body 0).items) (sym w)
            (PageStrings.fits_spell kind (walk kind body 0).items (walk_fits kind body) (ap all_low (sym w) ∙ l) t.1),
      ),
)

-- The walk ends with 9 exactly where the string is the bytes of items of the page and of items named 00 00 00.
pub walk_takes : (kind : Kind) (body : List ℕ) → all_low body ≡ true
    → ((walk kind body 0).stop ≡ refusal 9) ↔ ((xs : List Item) × OfPageOrZeros kind xs × (body ≡ joined kind xs))
walk_takes kind body l = (
  λ h.
      let w : body ≡ joined kind (walk kind body 0).items = walk_whole kind body h in
      ((walk kind body 0).items, PageStrings.page_or_zeros kind (walk kind body 0).items (walk_fits kind body) (ap all_low (sym w) ∙ l), w),
  λ t. (walk_exact kind body).1 (t.0, PageStrings.of_page_fits kind t.0 t.1, t.2),
)

-- So a string that it accepts is well-formed, or has an item named 00 00 00.
pub walk_else : (kind : Kind) (body : List ℕ) → all_low body ≡ true → (walk kind body 0).stop ≡ refusal 9
    → WellFormed kind body ⊎ (any_zeros (walk kind body 0).items ≡ true)
walk_else kind body l h = go (any_zeros (walk kind body 0).items) refl
  where
    go : (b : Bool) → any_zeros (walk kind body 0).items ≡ b → WellFormed kind body ⊎ (any_zeros (walk kind body 0).items ≡ true)
    go true e = inr e
    go false e = inl ((walk_by_page kind body l).1 (h, e))

-- ---- what is written

-- An accepted command or field: its bytes are those of its name and data, which fit; they are low, and at most 131.
pub item_accepted : (kind : Kind) (g : Given kind) → (emission kind g).stop ≡ None
    → AcceptedItem kind (pair_of kind g) (emission kind g).bytes
item_accepted = ItemBytes.item_emission_accepted

-- An accepted list: its bytes are those of its items one after another, which fit; they are low.
pub list_accepted : (kind : Kind) (gs : List (Given kind)) → (emissions kind gs).stop ≡ None
    → AcceptedItems kind (pairs_of kind gs) (emissions kind gs).bytes
list_accepted = ItemBytes.list_emission_accepted

-- A list is accepted just where its first item and the others are.
pub list_each : (kind : Kind) (g : Given kind) (gs : List (Given kind))
    → ((emissions kind (g ∷ gs)).stop ≡ None) ↔ (((emission kind g).stop ≡ None) × ((emissions kind gs).stop ≡ None))
unfolding emissions
list_each kind g gs = (
  then_accepted (emission kind g) (emissions kind gs),
  λ t. ap (λ (e : Emission). e.stop) (then_sent (emission kind g) (emissions kind gs) t.0) ∙ t.1,
)

-- Two lists are written one after the other.
pub list_append : (kind : Kind) (gs hs : List (Given kind)) → emissions kind (gs ++ hs) ≡ emissions kind gs then emissions kind hs
list_append = ItemBytes.list_append

-- ---- written and read back

-- The walk over an accepted list's bytes gives the name and data of each, and ends with 9.
pub written_walk : (kind : Kind) (gs : List (Given kind)) → (emissions kind gs).stop ≡ None
    → walk kind (emissions kind gs).bytes 0 ≡ record { items = pairs_of kind gs; stop = refusal 9 }
written_walk kind gs h =
    let s : AcceptedItems kind (pairs_of kind gs) (emissions kind gs).bytes = list_accepted kind gs h in
    ap (λ (l : List ℕ). walk kind l 0) s.are_item_bytes ∙ walk_items kind (pairs_of kind gs) s.fits

-- The bytes of an accepted list are a well-formed string just where none of it is named 00 00 00.
pub list_well_formed : (kind : Kind) (gs : List (Given kind)) → (emissions kind gs).stop ≡ None
    → WellFormed kind (emissions kind gs).bytes ↔ (any_zeros (pairs_of kind gs) ≡ false)
list_well_formed kind gs h =
    let w = written_walk kind gs h in
    let items : any_zeros (walk kind (emissions kind gs).bytes 0).items ≡ any_zeros (pairs_of kind gs) =
    ap (λ (v : Walk Item). any_zeros v.items) w in
    let p = walk_by_page kind (emissions kind gs).bytes (list_accepted kind gs h).low in
    (λ f. sym items ∙ (p.0 f).1, λ z. p.1 (ap (λ (v : Walk Item). v.stop) w, items ∙ z))

-- Read back, each is what its name and data are read as, with the parts where these stand; then 9.
pub written_reads_back : (kind : Kind) (gs : List (Given kind)) → (emissions kind gs).stop ≡ None
    → read_from kind (emissions kind gs).bytes 0 ≡ record { items = meanings kind 0 (pairs_of kind gs); stop = refusal 9 }
written_reads_back kind gs h =
    let s : AcceptedItems kind (pairs_of kind gs) (emissions kind gs).bytes = list_accepted kind gs h in
    ap (λ (l : List ℕ). read_from kind l 0) s.are_item_bytes ∙ read_items kind (pairs_of kind gs) s.fits

-- The name and data of an accepted command are read as its own case; a blank target with zeros; another command as they are.
pub command_back_lem : (source : List ℕ) (c : MmcCommand) → (command_item source c).stop ≡ None
    → read_command (command_pair source c).name (command_pair source c).«data» ≡ command_back source c
command_back_lem = ReadBack.command_back_lem

-- The name and data of an accepted field, likewise.
pub field_back_lem : (source : List ℕ) (f : InfoField) → (field_item source f).stop ≡ None
    → read_field (field_pair source f).name (field_pair source f).«data» ≡ field_back source f
field_back_lem = ReadBack.field_back_lem

-- What the name and data of an accepted command or field mean, wherever they stand.
pub meaning_back : (kind : Kind) (g : Given kind) → (emission kind g).stop ≡ None → (l : ItemPlace)
    → meaning kind (pair_of kind g).name (pair_of kind g).«data» l ≡ back kind g l
meaning_back Commands g h l = ap (λ (c : CommandCase). command_of_case c l.name l.«data») (command_back_lem g.source g.meant h)
meaning_back Fields g h l = ap (λ (c : FieldCase). field_of_case c l.name l.«data») (field_back_lem g.source g.meant h)

-- A list that ends with Locate to a target and Play comes back with these at its end.
pub locate_play_back : (gs : List (Given Commands)) (a b : List ℕ) (c : StandardTimeCode)
    → (emissions Commands (gs ++ (given Commands a (C.LocateTarget c) ∷ given Commands b C.Play ∷ []))).stop ≡ None
    → commands_read (emissions Commands (gs ++ (given Commands a (C.LocateTarget c) ∷ given Commands b C.Play ∷ []))).bytes
    ≡ record { items = meanings Commands 0 (pairs_of Commands gs) ++ (C.LocateTarget (zeroed c) ∷ C.Play ∷ []); stop = refusal 9 }
unfolding read_as emissions
locate_play_back gs a b c h =
    let locate : Given Commands = given Commands a (C.LocateTarget c) in
    let play : Given Commands = given Commands b C.Play in
    let t : (emissions Commands (locate ∷ play ∷ [])).stop ≡ None =
    (then_accepted (emissions Commands gs) (emissions Commands (locate ∷ play ∷ []))
    (ap (λ (e : Emission). e.stop) (sym (list_append Commands gs (locate ∷ play ∷ []))) ∙ h)).1 in
    let u = (list_each Commands locate (play ∷ [])).0 t in
    let v = (list_each Commands play []).0 u.1 in
    written_reads_back Commands (gs ++ (locate ∷ play ∷ [])) h
    ∙ ap (λ (l : List MmcCommand). record { items = l; stop = refusal 9 })
    (ap (meanings Commands 0) (map-append (pair_of Commands) gs (locate ∷ play ∷ []))
    ∙ meanings_append Commands 0 (pairs_of Commands gs) (pairs_of Commands (locate ∷ play ∷ []))
    ∙ ap₂ (λ (x y : MmcCommand). meanings Commands 0 (pairs_of Commands gs) ++ (x ∷ y ∷ []))
    (meaning_back Commands locate u.0 _) (meaning_back Commands play v.0 _))

-- One accepted command or field, written and read back alone.
pub one_reads_back : (kind : Kind) (g : Given kind) → (emission kind g).stop ≡ None
    → read_from kind (emission kind g).bytes 0
    ≡ record {
      items = meaning kind (pair_of kind g).name (pair_of kind g).«data» (item_place kind 0 (pair_of kind g)) ∷ [];
      stop = refusal 9;
    }
unfolding joined all_fit read_as
one_reads_back kind g h =
    let s : AcceptedItem kind (pair_of kind g) (emission kind g).bytes = item_accepted kind g h in
    ap (λ (l : List ℕ). read_from kind l 0) (s.are_item_bytes ∙ sym (append-nil (item_bytes kind (pair_of kind g))))
    ∙ read_items kind (pair_of kind g ∷ []) (rw s.fits)

-- Another command named 01H comes back as Stop.
pub other_stop : (source : List ℕ) (n d : Part) → part_of source n ≡ 1 ∷ [] → (command_item source (C.Other n d)).stop ≡ None
    → commands_read (command_item source (C.Other n d)).bytes ≡ record { items = C.Stop ∷ []; stop = refusal 9 }
unfolding command_pair read_command command_by_name
other_stop source n d e h =
    let l : ItemPlace = item_place Commands 0 (item (part_of source n) (part_of source d)) in
    one_reads_back Commands (given Commands source (C.Other n d)) h
    ∙ ap (λ (c : CommandCase). record { items = command_of_case c l.name l.«data» ∷ []; stop = refusal 9 })
    (ap (λ (name : List ℕ). read_command name (part_of source d)) e)

-- ---- the message

message_opening : (kind : Kind) (device : ℕ) → device ≤ 127
    → opening (header true device (sub_id1_of kind) None) ≡ sent (240 ∷ 127 ∷ device ∷ sub_id1_of kind ∷ [])
message_opening Commands device d = opening_plain true device 6 d refl (lit≤ tt)
message_opening Fields device d = opening_plain true device 7 d refl (lit≤ tt)

-- A string in its envelope is the Universal Real Time message of its kind.
pub message_by_page : (kind : Kind) (device : ℕ) (string : List ℕ) → device ≤ 127 → all_low string ≡ true
    → message (header true device (sub_id1_of kind) None) string ≡ sent (envelope kind device string)
message_by_page kind device string d l =
    message_whole (header true device (sub_id1_of kind) None) string (ap (λ (e : Emission). e.stop) (message_opening kind device d)) l
    ∙ ap (λ (e : Emission). sent (e.bytes ++ string ++ 247 ∷ [])) (message_opening kind device d)

-- An accepted list of 1 to 48 bytes, none of it named 00 00 00, is a message in its envelope.
pub list_message : (kind : Kind) (device : ℕ) (gs : List (Given kind)) → (emissions kind gs).stop ≡ None → device ≤ last_device kind
    → any_zeros (pairs_of kind gs) ≡ false → 1 ≤ length (emissions kind gs).bytes → length (emissions kind gs).bytes ≤ 48
    → Message kind device (emissions kind gs).bytes (envelope kind device (emissions kind gs).bytes)
list_message kind device gs h d z least most =
    record {
      device_in_range = d;
      least = least;
      most = most;
      seven_bits = λ i. all_low_byte (emissions kind gs).bytes i (list_accepted kind gs h).low;
      well_formed = (list_well_formed kind gs h).1 z;
      joined = refl;
    }

-- Real Time with sub-ID 1 06H and a string that is not empty is commands for the device, with 07H responses from it.
pub string_message : (kind : Kind) (device : ℕ) (string : List ℕ) → 1 ≤ length string
    → message_from (header true device (sub_id1_of kind) None) string ≡ gives (Some (message_of kind device))
unfolding message_from
string_message Commands device string h = rw (ne_eqb (length string) 0 (λ e. omega arith))
string_message Fields device string h = rw (ne_eqb (length string) 0 (λ e. omega arith))

-- A message is read by its class, by whether its sub-ID 1 is 06H or 07H, and by whether its string is empty.
pub message_by_lem : (u : Universal) (d : List ℕ)
    → message_from u d ≡ message_by u.real_time (eqb u.sub_id1 6) (eqb u.sub_id1 7) (eqb (length d) 0) u.device_id
unfolding message_from
message_by_lem u d = go u.real_time (eqb u.sub_id1 6) (eqb u.sub_id1 7) (eqb (length d) 0)
  where
    or_empty : Bool → MmcMessage → Answer (Option MmcMessage)
    or_empty empty m = cond empty (refused (refusal 2)) (gives (Some m))

    go : (t c r e : Bool)
        → cond t (cond c (or_empty e (M.Commands u.device_id)) (cond r (or_empty e (M.Responses u.device_id)) (gives None))) (gives None)
        ≡ message_by t c r e u.device_id
    go true true r true = refl
    go true true r false = refl
    go true false true true = refl
    go true false true false = refl
    go true false false e = refl
    go false c r e = refl

-- ---- the definitions' equations, for crates above

-- A walk that may read no more gives nothing and stops with 0.
pub walk_none : {A : Type 0} (read : ℕ → Next A) (place : ℕ) → walk_from read zero place ≡ record { items = []; stop = refusal 0 }
unfolding walk_from
walk_none read place = refl

-- A walk that may read once more: what the read gives, and then the walk from the place after it.
pub walk_more : {A : Type 0} (read : ℕ → Next A) (most place : ℕ)
    → walk_from read (suc most) place ≡ before (read place).answer (walk_from read most (read place).place)
unfolding walk_from
walk_more read most place = refl

-- A string is read by its next command or field, one after another.
pub read_from_lem : (kind : Kind) (body : List ℕ) (place : ℕ)
    → read_from kind body place ≡ walk_from (next_of kind body) (reads_of body) place
unfolding read_from
read_from_lem kind body place = refl

-- A walk goes by the bytes of what is found, one item after another.
pub walk_lem : (kind : Kind) (body : List ℕ) (place : ℕ)
    → walk kind body place ≡ walk_from (λ (p : ℕ). next_as (item_at body) (next kind body p)) (reads_of body) place
unfolding walk
walk_lem kind body place = refl

-- A read that gives an item goes on past its place, and inside the string.
pub read_goes_on : (kind : Kind) (body : List ℕ) (place : ℕ) (x : Meaning kind) → (next_of kind body place).answer ≡ gives x
    → (place < (next_of kind body place).place) × ((next_of kind body place).place ≤ length body)
unfolding next_command next_field
read_goes_on Commands body place x h =
    NextPlace.read_moves (parts_as (λ (n d : List ℕ). command_of_case (read_command n d)) body) x Commands body place h
read_goes_on Fields body place x h =
    NextPlace.read_moves (parts_as (λ (n d : List ℕ). field_of_case (read_field n d)) body) x Fields body place h

-- No items are read as nothing.
pub read_as_none : {A : Type 0} (read : List ℕ → List ℕ → ItemPlace → A) (kind : Kind) (place : ℕ) → read_as read kind place [] ≡ []
unfolding read_as
read_as_none read kind place = refl

-- An item, and then the others at the place after it.
pub read_as_cons : {A : Type 0} (read : List ℕ → List ℕ → ItemPlace → A) (kind : Kind) (place : ℕ) (x : Item) (xs : List Item)
    → read_as read kind place (x ∷ xs)
    ≡ read x.name x.«data» (item_place kind place x) ∷ read_as read kind (place + length (item_bytes kind x)) xs
unfolding read_as
read_as_cons read kind place x xs = refl

-- So is what items mean.
pub meanings_none : (kind : Kind) (place : ℕ) → meanings kind place [] ≡ []
meanings_none kind place = read_as_none (meaning kind) kind place

pub meanings_cons : (kind : Kind) (place : ℕ) (x : Item) (xs : List Item)
    → meanings kind place (x ∷ xs)
    ≡ meaning kind x.name x.«data» (item_place kind place x) ∷ meanings kind (place + length (item_bytes kind x)) xs
meanings_cons kind place x xs = read_as_cons (meaning kind) kind place x xs

-- No items emit nothing.
pub emissions_none : (kind : Kind) → emissions kind [] ≡ sent []
unfolding emissions
emissions_none kind = refl

-- An item, and then the others unless it was refused.
pub emissions_cons : (kind : Kind) (g : Given kind) (gs : List (Given kind))
    → emissions kind (g ∷ gs) ≡ emission kind g then emissions kind gs
unfolding emissions
emissions_cons kind g gs = refl

-- The bytes of items: none of none.
pub joined_none : (kind : Kind) → joined kind [] ≡ []
unfolding joined
joined_none kind = refl

-- Those of an item, and then those of the others.
pub joined_cons : (kind : Kind) (x : Item) (xs : List Item) → joined kind (x ∷ xs) ≡ item_bytes kind x ++ joined kind xs
unfolding joined
joined_cons kind x xs = refl

-- Those of two lists, one after the other.
pub joined_append : (kind : Kind) (xs ys : List Item) → joined kind (xs ++ ys) ≡ joined kind xs ++ joined kind ys
joined_append = Walks.joined_append

-- ---- an item of a walk

-- An item of a walk fits.
pub walk_item_fits : (kind : Kind) (body : List ℕ) (xs : List Item) (x : Item) (ys : List Item)
    → (walk kind body 0).items ≡ xs ++ x ∷ ys → item_fits kind x ≡ true
unfolding all_fit
walk_item_fits kind body xs x ys e = go xs (rw e at (walk_fits kind body))
  where
    go : (xs : List Item) → all_fit kind (xs ++ x ∷ ys) ≡ true → item_fits kind x ≡ true
    go [] h = (and_parts (item_fits kind x) (all_fit kind ys) h).0
    go (z ∷ zs) h = go zs (and_parts (item_fits kind z) (all_fit kind (zs ++ x ∷ ys)) h).1

-- Its bytes stand after those of the items before it.
pub walk_item_bytes : (kind : Kind) (body : List ℕ) (xs : List Item) (x : Item) (ys : List Item)
    → (walk kind body 0).items ≡ xs ++ x ∷ ys → (rest : List ℕ) × (body ≡ joined kind xs ++ (item_bytes kind x ++ rest))
walk_item_bytes kind body xs x ys e =
    let f = walk_front kind body in (
      joined kind ys ++ f.0,
      f.1
          ∙ ap (λ (zs : List Item). joined kind zs ++ f.0) e
          ∙ ap (λ (b : List ℕ). b ++ f.0) (joined_append kind xs (x ∷ ys) ∙ ap (λ (b : List ℕ). joined kind xs ++ b) (joined_cons kind x ys))
          ∙ simp append_assoc,
    )

-- It is found there, and is read there as what its name and data mean.
pub walk_item_found : (kind : Kind) (body : List ℕ) (xs : List Item) (x : Item) (ys : List Item)
    → (walk kind body 0).items ≡ xs ++ x ∷ ys → Found kind body (length (joined kind xs)) x
walk_item_found kind body xs x ys e =
    let b = walk_item_bytes kind body xs x ys e in
    item_split kind body (joined kind xs) x b.0 (length (joined kind xs)) (walk_item_fits kind body xs x ys e) b.1 refl

pub walk_item_read : (kind : Kind) (body : List ℕ) (xs : List Item) (x : Item) (ys : List Item)
    → (walk kind body 0).items ≡ xs ++ x ∷ ys
    → next_of kind body (length (joined kind xs))
    ≡ record {
      answer = gives (meaning kind x.name x.«data» (item_place kind (length (joined kind xs)) x));
      place = length (joined kind xs) + length (item_bytes kind x);
    }
walk_item_read kind body xs x ys e =
    let b = walk_item_bytes kind body xs x ys e in
    item_read kind body (joined kind xs) x b.0 (length (joined kind xs)) (walk_item_fits kind body xs x ys e) b.1 refl
