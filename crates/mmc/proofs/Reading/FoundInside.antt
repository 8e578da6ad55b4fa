-- What the splitter finds lies in the string: the name begins at the place that is read, the data end at the place to read on from.
-- Assumes nothing.
use Rattle.std.specs.Prelude.{Option, Some, None}
use Prim.Native.Nat.{ℕ, ◌+◌, ◌-◌, ◌≤◌, ◌<◌}
use mathlib.Core.Path.{◌≡◌, refl, subst}
use mathlib.Core.Bool.{Bool, true, false, cond, ◌&&◌}
use mathlib.Core.List.{List}
use native.Mathlib.Omega.{arith}
use borrow.Author.Tests.{leb-true, ltb-true}
use lib.Dec.{leb, ltb}
use lib.ListN.{length, get_or}
use Rattle.mmc.specs.declared.length.Kind.{Kind}
use Rattle.mmc.specs.declared.length.Length.{Length}
use Rattle.mmc.specs.declared.length.Length.TheVariants.{Fixed, Count}
use Rattle.mmc.specs.declared.split.Parts.{Parts}
use Rattle.mmc.specs.Length.{length_of}
use Rattle.mmc.specs.Part.{part}
use Rattle.mmc.specs.Split.{prefixes_at, measured, by_length, split_at, ItemPlace, Inside, Next, found, next, parts_of}
use Rattle.universal.specs.Refusals.{Answer, gives, refused, refusal}
use Rattle.universal.proofs.Tests.{and_parts}

-- An item lies so; a string that is cut short has none.
abbrev InsideParts : ℕ → ℕ → Option Parts → Type 0
InsideParts long place (Some p) = Inside long place p.item.name p.item.«data» p.next
InsideParts long place None = Unit {0}

module _ (body : List ℕ) (at zeros : ℕ) (l : at + zeros < length body) where
  measured_inside : (after len : ℕ) → InsideParts (length body) at (measured body (part at (zeros + 1)) after len)
  unfolding measured
  measured_inside after len = go (leb after (length body) && leb len (length body - after)) refl
    where
      go : (b : Bool) → (leb after (length body) && leb len (length body - after)) ≡ b
          → InsideParts (length body) at (cond b (parts_of (part at (zeros + 1)) (part after len) (after + len)) None)
      go true e =
          let t = and_parts (leb after (length body)) (leb len (length body - after)) e in
          let a : after ≤ length body = leb-true after (length body) t.0 in
          let b : len ≤ length body - after = leb-true len (length body - after) t.1 in
          record { name_start = refl; name_end = omega arith; data_end = refl; end = omega arith }
      go false e = tt

  length_inside : (after : ℕ) (rule : Length) → InsideParts (length body) at (by_length body (part at (zeros + 1)) after rule)
  length_inside after (Fixed n) = measured_inside after n
  length_inside after Count = go (ltb after (length body))
    where
      go : (b : Bool)
          → InsideParts (length body) at (cond b (measured body (part at (zeros + 1)) (after + 1) (get_or body after 0)) None)
      go true = measured_inside (after + 1) (get_or body after 0)
      go false = tt

split_inside : (kind : Kind) (body : List ℕ) (at : ℕ) → InsideParts (length body) at (split_at kind body at)
unfolding split_at
split_inside kind body at = go (ltb (at + prefixes_at body at) (length body)) refl
  where
    go : (b : Bool) → ltb (at + prefixes_at body at) (length body) ≡ b
        → InsideParts (length body) at
        (cond b
        (by_length body (part at (prefixes_at body at + 1)) (at + prefixes_at body at + 1)
        (length_of kind (get_or body (at + prefixes_at body at) 0))) None)
    go true e =
        length_inside body at (prefixes_at body at) (ltb-true (at + prefixes_at body at) (length body) e) (at + prefixes_at body at + 1)
        (length_of kind (get_or body (at + prefixes_at body at) 0))
    go false e = tt

-- What a read found, and the place to read on from.
abbrev InsideNext : ℕ → ℕ → Answer ItemPlace → ℕ → Type 0
InsideNext long place (gives l) after = Inside long place l.name l.«data» after
InsideNext long place (refused r) after = Unit {0}

found_parts : (long place : ℕ) (s : Option Parts) → InsideParts long place s
    → InsideNext long place (found s long).answer (found s long).place
found_parts long place (Some p) h = h
found_parts long place None h = tt

-- A read, likewise.
abbrev InsideRead : ℕ → ℕ → Next ItemPlace → Type 0
InsideRead long place n = InsideNext long place n.answer n.place

next_inside : (kind : Kind) (body : List ℕ) (place : ℕ) → InsideRead (length body) place (next kind body place)
unfolding next
next_inside kind body place = go (ltb place (length body))
  where
    go : (b : Bool)
        → InsideRead (length body) place
        (cond b (found (split_at kind body place) (length body)) (record { answer = refused (refusal 9); place = place }))
    go true = found_parts (length body) place (split_at kind body place) (split_inside kind body place)
    go false = tt

-- An item that was found lies in the string.
pub found_inside : (kind : Kind) (body : List ℕ) (place : ℕ) (l : ItemPlace) → (next kind body place).answer ≡ gives l
    → Inside (length body) place l.name l.«data» (next kind body place).place
found_inside kind body place l e =
    subst (λ (a : Answer ItemPlace). InsideNext (length body) place a (next kind body place).place) e (next_inside kind body place)
