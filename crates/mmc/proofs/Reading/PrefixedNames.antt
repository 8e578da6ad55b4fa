-- A name that begins with 00H has more than one byte. Assumes nothing.
use Rattle.universal.specs.declared.error.SysexError.{SysexError}
use Rattle.std.specs.Prelude.{Result, Option, None, Ok, Some}
use Prim.Native.Nat.{ℕ, ◌+◌, ◌-◌, ◌≤◌, ◌<◌}
use mathlib.Core.Path.{◌≡◌, refl, sym, ap, ◌∙◌}
use mathlib.Core.Bool.{Bool, true, false, cond, ◌&&◌, true≢false}
use mathlib.Core.List.{List, []}
use native.Mathlib.Omega.{arith}
use borrow.Author.Tests.{leb-true, lt-ltb}
use lib.Dec.{leb, ltb, eqb, lit≤}
use lib.ListN.{length, get_or, take, drop, length-drop}
use lib.Seq.{length-take-le}
use Rattle.mmc.specs.declared.length.Kind.{Kind}
use Rattle.mmc.specs.declared.length.Length.{Length}
use Rattle.mmc.specs.declared.length.Length.TheVariants.{Fixed, Count}
use Rattle.mmc.specs.declared.part.Part.{Part}
use Rattle.mmc.specs.declared.split.Parts.{Parts}
use Rattle.mmc.specs.Length.{length_of}
use Rattle.mmc.specs.Part.{part, part_of, is_inside}
use Rattle.mmc.specs.Split.{ItemPlace, Next, prefixes_at, measured, by_length, split_at, found, next, next_item_of, parts_of}
use Rattle.universal.specs.Refusals.{Answer, gives, refused}
use Rattle.mmc.proofs.RangeTests.{get_d_any}

-- An item has this name.
abbrev Named : Part → Option Parts → Type 0
Named p (Some x) = x.item.name ≡ p
Named p None = Unit {0}

measured_named : (body : List ℕ) (name : Part) (after len : ℕ) → Named name (measured body name after len)
unfolding measured
measured_named body name after len = go (leb after (length body) && leb len (length body - after))
  where
    go : (b : Bool) → Named name (cond b (parts_of name (part after len) (after + len)) None)
    go true = refl
    go false = tt

length_named : (body : List ℕ) (name : Part) (after : ℕ) (rule : Length) → Named name (by_length body name after rule)
length_named body name after (Fixed n) = measured_named body name after n
length_named body name after Count = go (ltb after (length body))
  where
    go : (b : Bool) → Named name (cond b (measured body name (after + 1) (get_or body after 0)) None)
    go true = measured_named body name (after + 1) (get_or body after 0)
    go false = tt

split_named : (kind : Kind) (body : List ℕ) (at : ℕ) → Named (part at (prefixes_at body at + 1)) (split_at kind body at)
unfolding split_at
split_named kind body at = go (ltb (at + prefixes_at body at) (length body))
  where
    name : Part
    name = part at (prefixes_at body at + 1)

    go : (b : Bool)
        → Named name
        (cond b (by_length body name (at + prefixes_at body at + 1) (length_of kind (get_or body (at + prefixes_at body at) 0))) None)
    go true = length_named body name (at + prefixes_at body at + 1) (length_of kind (get_or body (at + prefixes_at body at) 0))
    go false = tt

-- What is found is a name with them.
item_named : (s : Option Parts) (p n d : Part) (end at : ℕ) → Named p s
    → next_item_of (record { answer = Ok (record { name = n; «data» = d }); place = at }) ≡ found s end → n ≡ p
item_named (Some x) p n d end at h e = ap (λ (y : Next ItemPlace). name_in y.answer) e ∙ h
  where
    name_in : Answer ItemPlace → Part
    name_in (gives l) = l.name
    name_in (refused r) = p
item_named None p n d end at h e = absurd (true≢false (ap (λ (x : Next ItemPlace). is_given x.answer) e))
  where
    is_given : Answer ItemPlace → Bool
    is_given (gives l) = true
    is_given (refused r) = false

-- Bytes of a part that are one have its length.
part_one : (body : List ℕ) (p : Part) → length (part_of body p) ≡ 1 → p.len ≡ 1
unfolding part_of is_inside
part_one body p h = go (leb p.start (length body)) (leb p.len (length body - p.start)) refl refl h
  where
    go : (a b : Bool) → leb p.start (length body) ≡ a → leb p.len (length body - p.start) ≡ b
        → length (cond (a && b) (take p.len (drop p.start body)) []) ≡ 1 → p.len ≡ 1
    go true true s t h =
        let f : p.len ≤ length (drop p.start body) = rw (length-drop p.start body) (leb-true p.len (length body - p.start) t) in
        sym (length-take-le p.len (drop p.start body) f) ∙ h
    go true false s t h = omega arith
    go false b s t h = omega arith

module _ (kind : Kind) (body : List ℕ) (place at : ℕ) (l : place < length body) (z : get_or body place 0 ≡ 0) (k : Result ItemPlace SysexError)
    (e : next_item_of (record { answer = k; place = at }) ≡ next kind body place) where
  some_zeros : 1 ≤ prefixes_at body place
  unfolding prefixes_at
  some_zeros = rw (get_d_any body place 1 0 l, z) (go (eqb (get_or body (place + 1) 1) 0))
    where
      go : (b : Bool) → 1 ≤ cond b 2 1
      go true = lit≤ tt
      go false = lit≤ tt

  -- An item that was found where 00H stands has no name of one byte.
  pub long : (n d : Part) → k ≡ Ok (record { name = n; «data» = d }) → length (part_of body n) ≡ 1 → ⊥
  unfolding next
  long n d q h =
      let f : next_item_of (record { answer = Ok (record { name = n; «data» = d }); place = at }) ≡ found (split_at kind body place) (length body) =
      ap (λ (y : Result ItemPlace SysexError). next_item_of (record { answer = y; place = at })) (sym q) ∙ e ∙ rw (lt-ltb place (length body) l) refl in
      let m : n.len ≡ prefixes_at body place + 1 =
      ap (λ (p : Part). p.len)
      (item_named (split_at kind body place) (part place (prefixes_at body place + 1)) n d (length body) at
      (split_named kind body place) f) in
      omega (arith, some_zeros, m, part_one body n h)
