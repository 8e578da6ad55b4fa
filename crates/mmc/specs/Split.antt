-- The splitter of mmc.rs: the item at a place of a string, by the length rule of its kind. Assumes nothing.
use Rattle.std.specs.Prelude.{ℕ, ◌+◌, ◌-◌, ◌≤◌, ◌≡◌, cond, ◌&&◌, List, leb, ltb, eqb, length, get_or, Option, Some, None}
use Rattle.mmc.specs.declared.length.Kind.{Kind}
use Rattle.mmc.specs.declared.length.Length.{Length}
use Rattle.mmc.specs.declared.length.Length.TheVariants.{Fixed, Count}
use Rattle.mmc.specs.declared.part.Part.{Part}
pub use Rattle.mmc.specs.declared.split.ItemPlace.{ItemPlace}
use Rattle.mmc.specs.declared.split.Parts.{Parts}
use Rattle.mmc.specs.declared.split.NextItem.{NextItem}
use Rattle.universal.specs.Refusals.{Answer, gives, refused, refusal, answer_of}
use Rattle.mmc.specs.Length.{length_of}
use Rattle.mmc.specs.Part.{part, part_of}

-- The zero bytes before a name's last byte, at most two; past the end no byte is zero.
unfoldable pub prefixes_at : List ℕ → ℕ → ℕ
prefixes_at body at = cond (eqb (get_or body at 1) 0) (cond (eqb (get_or body (at + 1) 1) 0) 2 1) 0

-- An item of a name and data, and the place after it.
abbrev pub parts_of : Part → Part → ℕ → Option Parts
parts_of n d after = Some (record { item = record { name = n; «data» = d }; next = after })

-- So many data bytes after a name, where the string has them.
unfoldable pub measured : List ℕ → Part → ℕ → ℕ → Option Parts
measured body name after len =
    cond (leb after (length body) && leb len (length body - after)) (parts_of name (part after len) (after + len)) None

-- A fixed number of data bytes, or a count byte and that many.
abbrev pub by_length : List ℕ → Part → ℕ → Length → Option Parts
by_length body name after (Fixed n) = measured body name after n
by_length body name after Count =
    cond (ltb after (length body)) (measured body name (after + 1) (get_or body after 0)) None

-- The item whose name ends at `last` after so many zeros.
abbrev pub named : Kind → List ℕ → ℕ → ℕ → Option Parts
named kind body at zeros =
    cond (ltb (at + zeros) (length body))
    (by_length body (part at (zeros + 1)) (at + zeros + 1) (length_of kind (get_or body (at + zeros) 0))) None

unfoldable pub split_at : Kind → List ℕ → ℕ → Option Parts
split_at kind body at = named kind body at (prefixes_at body at)

-- ---- one item after another

-- A name from a place on and data up to another, both in a string of so many bytes.
pub record Inside (long place : ℕ) (name d : Part) (after : ℕ) : Type 0 where
  pub name_start : name.start ≡ place
  pub name_end : name.start + name.len ≤ long
  pub data_end : d.start + d.len ≡ after
  pub end : after ≤ long

-- What a read answers, and the place to read on from.
pub record Next (A : Type 0) : Type 0 where
  pub answer : Answer A
  pub place : ℕ

-- The item and the place after it; 2 and the end of a string that is cut short.
abbrev pub found : Option Parts → ℕ → Next ItemPlace
found (Some p) end = record { answer = gives p.item; place = p.next }
found None end = record { answer = refused (refusal 2); place = end }

-- 9 at or past the end, which changes nothing.
unfoldable pub next : Kind → List ℕ → ℕ → Next ItemPlace
next kind body place =
    cond (ltb place (length body)) (found (split_at kind body place) (length body))
    (record { answer = refused (refusal 9); place = place })

-- The answer of a read, in the paper's numbers.
abbrev pub next_item_of : {A : Type 0} → NextItem A → Next A
next_item_of r = record { answer = answer_of r.answer; place = r.place }

-- The item read as something.
abbrev pub answer_as : {A B : Type 0} → (A → B) → Answer A → Answer B
answer_as f (gives a) = gives (f a)
answer_as f (refused r) = refused r

abbrev pub next_as : {A B : Type 0} → (A → B) → Next A → Next B
next_as f n = record { answer = answer_as f n.answer; place = n.place }

-- What is made of the bytes of an item's name and data, and of where they lie.
abbrev pub parts_as : {A : Type 0} → (List ℕ → List ℕ → Part → Part → A) → List ℕ → ItemPlace → A
parts_as make body l = make (part_of body l.name) (part_of body l.«data») l.name l.«data»
