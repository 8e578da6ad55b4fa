-- Walks over a string: through items that fit, and to the end or to bytes that are cut short. Assumes nothing.
use Rattle.std.specs.Prelude.{None}
use Prim.Native.Nat.{ℕ, zero, suc, ◌+◌, ◌-◌, ◌≤◌, ◌<◌}
use mathlib.Core.Path.{◌≡◌, refl, sym, ap, ap₂, ◌∙◌}
use mathlib.Core.Bool.{true}
use mathlib.Core.Logic.{◌⊎◌, inl, inr, ⊎_elim}
use mathlib.Core.List.{List, [], ◌∷◌, ◌++◌, map, append_assoc, append-nil}
use native.Mathlib.Nat.{not-suc-le-zero, le_refl, add-zero, sub-zero}
use native.Mathlib.Omega.{arith}
use lib.ListN.{length, length-append}
use Rattle.mmc.specs.declared.length.Kind.{Kind}
use Rattle.mmc.specs.declared.length.Kind.TheVariants.{Commands, Fields}
use Rattle.mmc.specs.Command.{next_command}
use Rattle.mmc.specs.Field.{next_field}
use Rattle.mmc.specs.Named.{name_fits}
use Rattle.mmc.specs.Part.{part_of}
use Rattle.mmc.specs.Rp013.{Item}
use Rattle.mmc.specs.Split.{split_at, ItemPlace, Next, next, next_as}
use Rattle.mmc.specs.Strings.{item, rule_of, with_count, item_bytes, joined, data_fits, item_fits, all_fit, item_place, item_places, read_as, Found, Walk, before, walk_from, reads_of, walk, meaning, meanings, next_of, read_from}
use Rattle.universal.specs.Refusals.{Refusal, refusal, gives}
use Rattle.universal.proofs.Tests.{and_parts}
use Rattle.mmc.proofs.Reading.FrontItem.{item_found, ItemFront, cut, whole, item_front}
use Rattle.mmc.proofs.Writing.EmissionPuts.{name_length}
use Rattle.mmc.proofs.Reading.SplitTests.{next_end, next_cut, next_item}

-- ---- lengths

-- An item that fits has a byte.
pub item_longer : (kind : Kind) (x : Item) → item_fits kind x ≡ true → 1 ≤ length (item_bytes kind x)
unfolding item_fits item_bytes
item_longer kind x h =
    let t = and_parts (name_fits x.name) (data_fits (rule_of kind x) x.«data») h in
    let n : 1 ≤ length x.name = (name_length x.name t.0).0 in
    rw (length-append x.name (with_count (rule_of kind x) x.«data»)) (omega arith)

-- There are no more items than bytes.
pub items_longer : (kind : Kind) (xs : List Item) → all_fit kind xs ≡ true → length xs ≤ length (joined kind xs)
unfolding all_fit joined
items_longer kind [] h = le_refl 0
items_longer kind (x ∷ xs) h =
    let t = and_parts (item_fits kind x) (all_fit kind xs) h in
    let a : 1 ≤ length (item_bytes kind x) = item_longer kind x t.0 in
    let b : length xs ≤ length (joined kind xs) = items_longer kind xs t.1 in
    rw (length-append (item_bytes kind x) (joined kind xs)) (omega arith)

-- ---- one read

-- The reads of a walk.
abbrev pub reads : {A : Type 0} → (ItemPlace → A) → Kind → List ℕ → ℕ → Next A
reads f kind body p = next_as f (next kind body p)

-- Items before those of a walk.
abbrev pub prepend : {A : Type 0} → List A → Walk A → Walk A
prepend l w = record { items = l ++ w.items; stop = w.stop }

module _ {A : Type 0} (f : ItemPlace → A) (kind : Kind) (body : List ℕ) where
  read_item : (pre : List ℕ) (x : Item) (post : List ℕ) → body ≡ pre ++ (item_bytes kind x ++ post) → item_fits kind x ≡ true
      → (place : ℕ) → place ≡ length pre
      → reads f kind body place ≡ record { answer = gives (f (item_place kind place x)); place = place + length (item_bytes kind x) }
  read_item pre x post e h place p =
      let s : Found kind body place x = rw (e, p) (item_found kind pre x post h) in
      let n : length body ≡ length pre + (length (item_bytes kind x) + length post) = ap length e ∙ simp length-append in
      let l : 1 ≤ length (item_bytes kind x) = item_longer kind x h in
      ap (next_as f) (sym (next_item kind body place _ _ _ (omega arith) s.split))

  -- A walk that is at the end.
  walk_end : (most place : ℕ) → 1 ≤ most → length body ≤ place
      → walk_from (reads f kind body) most place ≡ record { items = []; stop = refusal 9 }
  unfolding walk_from
  walk_end zero place m h = absurd (not-suc-le-zero m)
  walk_end (suc most) place m h =
      ap (λ (n : Next A). before n.answer (walk_from (reads f kind body) most n.place)) (ap (next_as f) (sym (next_end kind body place h)))

  -- A walk that is before bytes cut short.
  walk_cut : (most place : ℕ) → 1 ≤ most → place < length body → split_at kind body place ≡ None
      → walk_from (reads f kind body) most place ≡ record { items = []; stop = refusal 2 }
  unfolding walk_from
  walk_cut zero place m h e = absurd (not-suc-le-zero m)
  walk_cut (suc most) place m h e =
      ap (λ (n : Next A). before n.answer (walk_from (reads f kind body) most n.place)) (ap (next_as f) (sym (next_cut kind body place h e)))

  -- ---- through items that fit

  pub through : (xs : List Item) → all_fit kind xs ≡ true → (pre post : List ℕ) → body ≡ pre ++ (joined kind xs ++ post)
      → (place : ℕ) → place ≡ length pre → (most : ℕ) → length xs ≤ most
      → walk_from (reads f kind body) most place
      ≡ prepend (map f (item_places kind place xs)) (walk_from (reads f kind body) (most - length xs) (place + length (joined kind xs)))
  unfolding all_fit joined item_places walk_from
  through [] h pre post e place p most l = rw (sub-zero most, add-zero place)
  through (x ∷ xs) h pre post e place p zero l = absurd (not-suc-le-zero l)
  through (x ∷ xs) h pre post e place p (suc most) l =
      let t = and_parts (item_fits kind x) (all_fit kind xs) h in
      let e₁ : body ≡ pre ++ (item_bytes kind x ++ (joined kind xs ++ post)) = e ∙ simp append_assoc in
      let e₂ : body ≡ (pre ++ item_bytes kind x) ++ (joined kind xs ++ post) = e ∙ simp append_assoc in
      let p₂ : place + length (item_bytes kind x) ≡ length (pre ++ item_bytes kind x) =
      omega (arith, length-append pre (item_bytes kind x)) in
      let m : most - length xs ≡ suc most - suc (length xs) = omega arith in
      let a : place + length (item_bytes kind x) + length (joined kind xs) ≡ place + length (item_bytes kind x ++ joined kind xs) =
      omega (arith, length-append (item_bytes kind x) (joined kind xs)) in
      ap (λ (n : Next A). before n.answer (walk_from (reads f kind body) most n.place))
      (read_item pre x (joined kind xs ++ post) e₁ t.0 place p)
      ∙ ap (before (gives (f (item_place kind place x))))
      (through xs t.1 (pre ++ item_bytes kind x) post e₂ (place + length (item_bytes kind x)) p₂ most (omega arith))
      ∙ ap₂ (λ (k q : ℕ). prepend (map f (item_places kind place (x ∷ xs))) (walk_from (reads f kind body) k q)) m a

  -- To the end.
  pub through_all : (xs : List Item) → all_fit kind xs ≡ true → (pre : List ℕ) → body ≡ pre ++ joined kind xs
      → (most : ℕ) → length xs < most
      → walk_from (reads f kind body) most (length pre) ≡ record { items = map f (item_places kind (length pre) xs); stop = refusal 9 }
  through_all xs h pre e most l =
      let n : length body ≡ length pre + length (joined kind xs) = ap length e ∙ length-append pre (joined kind xs) in
      let e₀ : body ≡ pre ++ (joined kind xs ++ []) = e ∙ ap (λ (s : List ℕ). pre ++ s) (sym (append-nil (joined kind xs))) in
      through xs h pre [] e₀ (length pre) refl most (omega arith)
      ∙ ap (prepend (map f (item_places kind (length pre) xs)))
      (walk_end (most - length xs) (length pre + length (joined kind xs)) (omega arith) (omega arith))
      ∙ ap (λ (l : List A). record { items = l; stop = refusal 9 }) (append-nil _)

  -- To bytes that are cut short.
  pub through_cut : (xs : List Item) → all_fit kind xs ≡ true → (pre tail : List ℕ) → body ≡ pre ++ (joined kind xs ++ tail)
      → 1 ≤ length tail → ((p : List ℕ) → split_at kind (p ++ tail) (length p) ≡ None) → (most : ℕ) → length xs < most
      → walk_from (reads f kind body) most (length pre) ≡ record { items = map f (item_places kind (length pre) xs); stop = refusal 2 }
  through_cut xs h pre tail e s c most l =
      let n : length body ≡ length pre + (length (joined kind xs) + length tail) = ap length e ∙ simp length-append in
      let q : (pre ++ joined kind xs) ++ tail ≡ body = append_assoc pre (joined kind xs) tail ∙ sym e in
      let k : split_at kind body (length pre + length (joined kind xs)) ≡ None =
      rw (q, length-append pre (joined kind xs)) at (c (pre ++ joined kind xs)) in
      through xs h pre tail e (length pre) refl most (omega arith)
      ∙ ap (prepend (map f (item_places kind (length pre) xs)))
      (walk_cut (most - length xs) (length pre + length (joined kind xs)) (omega arith) (omega arith) k)
      ∙ ap (λ (l : List A). record { items = l; stop = refusal 2 }) (append-nil _)

-- ---- what stands where the items are

-- A reading of names and data, by the bytes of their parts.
abbrev by_bytes : {A : Type 0} → (List ℕ → List ℕ → ItemPlace → A) → List ℕ → ItemPlace → A
by_bytes g body l = g (part_of body l.name) (part_of body l.«data») l

-- Items that fit, read by the bytes of their parts.
pub parts_read : {A : Type 0} (g : List ℕ → List ℕ → ItemPlace → A) (kind : Kind) (body : List ℕ) (xs : List Item)
    → all_fit kind xs ≡ true → (pre post : List ℕ) → body ≡ pre ++ (joined kind xs ++ post) → (place : ℕ) → place ≡ length pre
    → map (by_bytes g body) (item_places kind place xs) ≡ read_as g kind place xs
unfolding all_fit joined item_places read_as
parts_read g kind body [] h pre post e place p = refl
parts_read {A = A} g kind body (x ∷ xs) h pre post e place p =
    let t = and_parts (item_fits kind x) (all_fit kind xs) h in
    let e₁ : body ≡ pre ++ (item_bytes kind x ++ (joined kind xs ++ post)) = e ∙ simp append_assoc in
    let e₂ : body ≡ (pre ++ item_bytes kind x) ++ (joined kind xs ++ post) = e ∙ simp append_assoc in
    let p₂ : place + length (item_bytes kind x) ≡ length (pre ++ item_bytes kind x) =
    omega (arith, length-append pre (item_bytes kind x)) in
    let s : Found kind body place x = rw (e₁, p) (item_found kind pre x (joined kind xs ++ post) t.0) in
    ap₂ {C = List A} ◌∷◌
    (ap₂ (λ (n d : List ℕ). g n d (item_place kind place x)) s.name_bytes s.data_bytes)
    (parts_read g kind body xs t.1 (pre ++ item_bytes kind x) post e₂ (place + length (item_bytes kind x)) p₂)

-- An item that fits is read as what its name and data mean.
pub item_read : (kind : Kind) (body pre : List ℕ) (x : Item) (post : List ℕ) (place : ℕ) → item_fits kind x ≡ true
    → body ≡ pre ++ (item_bytes kind x ++ post) → place ≡ length pre
    → next_of kind body place
    ≡ record { answer = gives (meaning kind x.name x.«data» (item_place kind place x)); place = place + length (item_bytes kind x) }
unfolding next_command next_field
item_read kind body pre x post place h e p = go kind x h e
  where
    by : (kind : Kind) (x : Item) → item_fits kind x ≡ true → body ≡ pre ++ (item_bytes kind x ++ post)
        → reads (by_bytes (meaning kind) body) kind body place
        ≡ record { answer = gives (meaning kind x.name x.«data» (item_place kind place x)); place = place + length (item_bytes kind x) }
    by kind x h e =
        let s : Found kind body place x = rw (e, p) (item_found kind pre x post h) in
        read_item (by_bytes (meaning kind) body) kind body pre x post e h place p
        ∙ ap₂ (λ (n d : List ℕ). record { answer = gives (meaning kind n d (item_place kind place x)); place = place + length (item_bytes kind x) })
        s.name_bytes s.data_bytes

    go : (kind : Kind) (x : Item) → item_fits kind x ≡ true → body ≡ pre ++ (item_bytes kind x ++ post)
        → next_of kind body place
        ≡ record { answer = gives (meaning kind x.name x.«data» (item_place kind place x)); place = place + length (item_bytes kind x) }
    go Commands x h e = by Commands x h e
    go Fields x h e = by Fields x h e

-- Read as items they are the items.
pub read_as_items : (kind : Kind) (place : ℕ) (xs : List Item) → read_as (λ n d l. item n d) kind place xs ≡ xs
unfolding read_as
read_as_items kind place [] = refl
read_as_items kind place (x ∷ xs) = ap (λ (l : List Item). x ∷ l) (read_as_items kind (place + length (item_bytes kind x)) xs)

-- Two lists are read one after the other.
pub reads_append : {A : Type 0} (g : List ℕ → List ℕ → ItemPlace → A) (kind : Kind) (place : ℕ) (xs ys : List Item)
    → read_as g kind place (xs ++ ys) ≡ read_as g kind place xs ++ read_as g kind (place + length (joined kind xs)) ys
unfolding read_as joined
reads_append g kind place [] ys = rw (add-zero place)
reads_append {A = A} g kind place (x ∷ xs) ys =
    let a : place + length (item_bytes kind x) + length (joined kind xs) ≡ place + length (item_bytes kind x ++ joined kind xs) =
    omega (arith, length-append (item_bytes kind x) (joined kind xs)) in
    ap (λ (l : List A). g x.name x.«data» (item_place kind place x) ∷ l)
    (reads_append g kind (place + length (item_bytes kind x)) xs ys
    ∙ ap (λ (k : ℕ). read_as g kind (place + length (item_bytes kind x)) xs ++ read_as g kind k ys) a)

pub joined_append : (kind : Kind) (xs ys : List Item) → joined kind (xs ++ ys) ≡ joined kind xs ++ joined kind ys
unfolding joined
joined_append kind [] ys = refl
joined_append kind (x ∷ xs) ys =
    ap (λ (l : List ℕ). item_bytes kind x ++ l) (joined_append kind xs ys)
    ∙ sym (append_assoc (item_bytes kind x) (joined kind xs) (joined kind ys))

pub fit_append : (kind : Kind) (xs ys : List Item) → all_fit kind xs ≡ true → all_fit kind ys ≡ true → all_fit kind (xs ++ ys) ≡ true
unfolding all_fit
fit_append kind [] ys h k = k
fit_append kind (x ∷ xs) ys h k =
    let t = and_parts (item_fits kind x) (all_fit kind xs) h in
    rw t.0 (fit_append kind xs ys t.1 k)

-- ---- any bytes: items that fit, then the end or bytes cut short

-- How a walk ends: with 9 where nothing is left, with 2 where what is left is cut short wherever it stands.
abbrev pub WalkEnd : Kind → List ℕ → ℕ → Type 0
WalkEnd kind tail stop =
    ((tail ≡ []) × (stop ≡ 9))
    ⊎ ((1 ≤ length tail) × (stop ≡ 2) × ((pre : List ℕ) → split_at kind (pre ++ tail) (length pre) ≡ None))

-- The items taken from the front of bytes, and what is left.
pub record TakenItems (kind : Kind) (s : List ℕ) : Type 0 where
  pub items : List Item
  pub tail : List ℕ
  pub stop : ℕ
  pub fit : all_fit kind items ≡ true
  pub bytes : s ≡ joined kind items ++ tail
  pub ended : WalkEnd kind tail stop

-- One more item in front.
more : (kind : Kind) (s : List ℕ) (x : Item) (post : List ℕ) → item_fits kind x ≡ true → s ≡ item_bytes kind x ++ post
    → TakenItems kind post → TakenItems kind s
unfolding all_fit joined
more kind s x post h e t =
    record {
      items = x ∷ t.items;
      tail = t.tail;
      stop = t.stop;
      fit = rw (h, t.fit);
      bytes =
          e
          ∙ ap (λ (l : List ℕ). item_bytes kind x ++ l) t.bytes
          ∙ sym (append_assoc (item_bytes kind x) (joined kind t.items) t.tail);
      ended = t.ended;
    }

nothing_taken : (kind : Kind) → TakenItems kind []
unfolding all_fit joined
nothing_taken kind = record { items = []; tail = []; stop = 9; fit = refl; bytes = refl; ended = inl (refl, refl) }

pub items_taken : (kind : Kind) (most : ℕ) (s : List ℕ) → length s ≤ most → TakenItems kind s
unfolding all_fit joined
items_taken kind zero [] h = nothing_taken kind
items_taken kind zero (b ∷ s) h = absurd (not-suc-le-zero h)
items_taken kind (suc most) [] h = nothing_taken kind
items_taken kind (suc most) (b ∷ s) h = go (item_front kind (b ∷ s) (omega arith)) (λ post l. items_taken kind most post l)
  where
    go : ItemFront kind (b ∷ s) → ((post : List ℕ) → length post ≤ most → TakenItems kind post) → TakenItems kind (b ∷ s)
    go (cut c) rest =
        record { items = []; tail = b ∷ s; stop = 2; fit = refl; bytes = refl; ended = inr (omega arith, refl, c) }
    go (whole x post f e) rest =
        let n : suc (length s) ≡ length (item_bytes kind x) + length post =
        ap length e ∙ length-append (item_bytes kind x) post in
        more kind (b ∷ s) x post f e (rest post (omega (arith, item_longer kind x f)))

-- The walk over them, wherever they stand.
pub walk_taken : {A : Type 0} (f : ItemPlace → A) (kind : Kind) (body pre s : List ℕ) (t : TakenItems kind s) → body ≡ pre ++ s
    → (most : ℕ) → length s < most
    → walk_from (reads f kind body) most (length pre)
    ≡ record { items = map f (item_places kind (length pre) t.items); stop = refusal t.stop }
walk_taken f kind body pre s t e most l = go t.ended
  where
    whole_bytes : body ≡ pre ++ (joined kind t.items ++ t.tail)
    whole_bytes = e ∙ ap (λ (x : List ℕ). pre ++ x) t.bytes

    enough : length t.items < most
    enough =
        let n : length s ≡ length (joined kind t.items) + length t.tail =
        ap length t.bytes ∙ length-append (joined kind t.items) t.tail in
        omega (arith, items_longer kind t.items t.fit)

    go : WalkEnd kind t.tail t.stop
        → walk_from (reads f kind body) most (length pre)
        ≡ record { items = map f (item_places kind (length pre) t.items); stop = refusal t.stop }
    go (inl q) =
        let none_left : joined kind t.items ++ t.tail ≡ joined kind t.items =
        ap (λ (x : List ℕ). joined kind t.items ++ x) q.0 ∙ append-nil (joined kind t.items) in
        rw q.1
        (through_all f kind body t.items t.fit pre (whole_bytes ∙ ap (λ (x : List ℕ). pre ++ x) none_left) most enough)
    go (inr q) = rw q.1 (through_cut f kind body t.items t.fit pre t.tail whole_bytes q.0 q.2 most enough)

-- The same, each item read by the bytes of its parts.
pub walked_as : {A : Type 0} (g : List ℕ → List ℕ → ItemPlace → A) (kind : Kind) (pre s : List ℕ) (t : TakenItems kind s)
    → walk_from (reads (by_bytes g (pre ++ s)) kind (pre ++ s)) (reads_of (pre ++ s)) (length pre)
    ≡ record { items = read_as g kind (length pre) t.items; stop = refusal t.stop }
walked_as {A = A} g kind pre s t =
    let n : length (pre ++ s) ≡ length pre + length s = length-append pre s in
    let e : pre ++ s ≡ pre ++ (joined kind t.items ++ t.tail) = ap (λ (l : List ℕ). pre ++ l) t.bytes in
    walk_taken (by_bytes g (pre ++ s)) kind (pre ++ s) pre s t refl (reads_of (pre ++ s)) (omega arith)
    ∙ ap (λ (l : List A). record { items = l; stop = refusal t.stop })
    (parts_read g kind (pre ++ s) t.items t.fit pre t.tail e (length pre) refl)

-- As items.
pub walked : (kind : Kind) (pre s : List ℕ) (t : TakenItems kind s)
    → walk kind (pre ++ s) (length pre) ≡ record { items = t.items; stop = refusal t.stop }
unfolding walk
walked kind pre s t =
    walked_as (λ n d l. item n d) kind pre s t
    ∙ ap (λ (l : List Item). record { items = l; stop = refusal t.stop }) (read_as_items kind (length pre) t.items)

-- As commands or fields.
pub meant : (kind : Kind) (pre s : List ℕ) (t : TakenItems kind s)
    → read_from kind (pre ++ s) (length pre) ≡ record { items = meanings kind (length pre) t.items; stop = refusal t.stop }
unfolding read_from next_command next_field
meant Commands pre s t = walked_as (meaning Commands) Commands pre s t
meant Fields pre s t = walked_as (meaning Fields) Fields pre s t

-- ---- how it ends

pub taken_stops : (kind : Kind) (s : List ℕ) (t : TakenItems kind s) → (refusal t.stop ≡ refusal 9) ⊎ (refusal t.stop ≡ refusal 2)
taken_stops kind s t = ⊎_elim (λ q. inl (ap refusal q.1)) (λ q. inr (ap refusal q.1)) t.ended

-- With 9 nothing is left.
pub ended_whole : (kind : Kind) (s : List ℕ) (t : TakenItems kind s) → refusal t.stop ≡ refusal 9 → s ≡ joined kind t.items
ended_whole kind s t h =
    let e : t.stop ≡ 9 = ap (λ (r : Refusal). r.number) h in
    ⊎_elim (λ q. t.bytes ∙ ap (λ (l : List ℕ). joined kind t.items ++ l) q.0 ∙ append-nil (joined kind t.items))
    (λ q. absurd (omega (arith, q.1))) t.ended

-- Items that fit, and then what is taken of other bytes.
pub walked_joined : (kind : Kind) (a b : List ℕ) (xs : List Item) → all_fit kind xs ≡ true → a ≡ joined kind xs → (t : TakenItems kind b)
    → walk kind (a ++ b) 0 ≡ record { items = xs ++ t.items; stop = refusal t.stop }
walked_joined kind a b xs h e t =
    walked kind [] (a ++ b)
    (record {
      items = xs ++ t.items;
      tail = t.tail;
      stop = t.stop;
      fit = fit_append kind xs t.items h t.fit;
      bytes = whole_bytes;
      ended = t.ended;
    })
  where
    whole_bytes : a ++ b ≡ joined kind (xs ++ t.items) ++ t.tail
    whole_bytes =
        ap₂ (λ (l m : List ℕ). l ++ m) e t.bytes
        ∙ sym (append_assoc (joined kind xs) (joined kind t.items) t.tail)
        ∙ ap (λ (l : List ℕ). l ++ t.tail) (sym (joined_append kind xs t.items))
