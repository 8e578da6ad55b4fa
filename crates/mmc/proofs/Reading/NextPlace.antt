-- Where a read that gives an item goes on: past its place, and inside the string. What refuses a read before the end. Assumes nothing.
use Rattle.std.specs.Prelude.{Option, Some, None}
use Prim.Native.Nat.{ℕ, ◌+◌, ◌-◌, ◌≤◌, ◌<◌}
use mathlib.Core.Path.{◌≡◌, refl, sym, ap}
use mathlib.Core.Bool.{Bool, true, false, cond, ◌&&◌}
use mathlib.Core.List.{List}
use native.Mathlib.Omega.{arith}
use borrow.Author.Tests.{leb-true, lt-ltb}
use lib.Dec.{leb, ltb}
use lib.ListN.{length, get_or}
use Rattle.mmc.specs.declared.length.Kind.{Kind}
use Rattle.mmc.specs.declared.length.Length.{Length}
use Rattle.mmc.specs.declared.length.Length.TheVariants.{Fixed, Count}
use Rattle.mmc.specs.declared.part.Part.{Part}
use Rattle.mmc.specs.declared.split.Parts.{Parts}
use Rattle.mmc.specs.Length.{length_of}
use Rattle.mmc.specs.Part.{part}
use Rattle.mmc.specs.Split.{prefixes_at, measured, by_length, split_at, ItemPlace, found, next, answer_as, next_as, parts_of}
use Rattle.universal.specs.Refusals.{Refusal, Answer, gives, refused, refusal}
use Rattle.universal.proofs.Tests.{and_parts}

-- An item that was found under a test: the test holds.
under : (b : Bool) (x : Option Parts) (n d : Part) (e : ℕ) → cond b x None ≡ parts_of n d e → (b ≡ true) × (x ≡ parts_of n d e)
under true x n d e h = (refl, h)
under false x n d e h = absurd (let z : ◌≡◌ {A = ℕ} 0 1 = cc in omega arith)

-- The place after it.
abbrev place_after : Option Parts → ℕ
place_after (Some p) = p.next
place_after None = 0

measured_end : (body : List ℕ) (name : Part) (at len : ℕ) (n d : Part) (e : ℕ) → measured body name at len ≡ parts_of n d e
    → (at ≤ e) × (e ≤ length body)
unfolding measured
measured_end body name at len n d e h =
    let t = under (leb at (length body) && leb len (length body - at)) (parts_of name (part at len) (at + len)) n d e h in
    let p = and_parts (leb at (length body)) (leb len (length body - at)) t.0 in
    let a : at ≤ length body = leb-true at (length body) p.0 in
    let b : len ≤ length body - at = leb-true len (length body - at) p.1 in
    let i : parts_of name (part at len) (at + len) ≡ parts_of n d e = t.1 in
    let q : e ≡ at + len = sym (ap place_after i) in
    (omega arith, omega arith)

by_length_end : (body : List ℕ) (name : Part) (at : ℕ) (rule : Length) (n d : Part) (e : ℕ) → by_length body name at rule ≡ parts_of n d e
    → (at ≤ e) × (e ≤ length body)
by_length_end body name at (Fixed k) n d e h = measured_end body name at k n d e h
by_length_end body name at Count n d e h =
    let t = under (ltb at (length body)) (measured body name (at + 1) (get_or body at 0)) n d e h in
    let m = measured_end body name (at + 1) (get_or body at 0) n d e t.1 in
    (omega (arith, m.0), m.1)

split_end : (kind : Kind) (body : List ℕ) (at : ℕ) (n d : Part) (e : ℕ) → split_at kind body at ≡ parts_of n d e
    → (at < e) × (e ≤ length body)
unfolding split_at
split_end kind body at n d e h =
    let t = under (ltb (at + prefixes_at body at) (length body))
    (by_length body (part at (prefixes_at body at + 1)) (at + prefixes_at body at + 1) (length_of kind (get_or body (at + prefixes_at body at) 0)))
    n d e h in
    let m = by_length_end body (part at (prefixes_at body at + 1)) (at + prefixes_at body at + 1)
    (length_of kind (get_or body (at + prefixes_at body at) 0)) n d e t.1 in
    (omega (arith, m.0), m.1)

-- ---- a read

next_moves : (body : List ℕ) (place : ℕ) (l : ItemPlace) (b : Bool) (s : Option Parts)
    → ((n d : Part) (e : ℕ) → s ≡ parts_of n d e → (place < e) × (e ≤ length body))
    → (cond b (found s (length body)) (record { answer = refused (refusal 9); place = place })).answer ≡ gives l
    → (place < (cond b (found s (length body)) (record { answer = refused (refusal 9); place = place })).place)
    × ((cond b (found s (length body)) (record { answer = refused (refusal 9); place = place })).place ≤ length body)
next_moves body place l true (Some p) f h = f p.item.name p.item.«data» p.next refl
next_moves body place l true None f h = absurd (let z : ◌≡◌ {A = ℕ} 0 1 = cc in omega arith)
next_moves body place l false s f h = absurd (let z : ◌≡◌ {A = ℕ} 0 1 = cc in omega arith)

pub moves : (kind : Kind) (body : List ℕ) (place : ℕ) (l : ItemPlace) → (next kind body place).answer ≡ gives l
    → (place < (next kind body place).place) × ((next kind body place).place ≤ length body)
unfolding next
moves kind body place l h =
    next_moves body place l (ltb place (length body)) (split_at kind body place) (split_end kind body place) h

-- What is read as something was found.
moves_as : {A : Type 0} (f : ItemPlace → A) (x : A) (a : Answer ItemPlace) (place end most : ℕ)
    → ((l : ItemPlace) → a ≡ gives l → (place < end) × (end ≤ most)) → answer_as f a ≡ gives x → (place < end) × (end ≤ most)
moves_as f x (gives l) place end most h e = h l refl
moves_as f x (refused r) place end most h e = absurd (let z : ◌≡◌ {A = ℕ} 0 1 = cc in omega arith)

pub read_moves : {A : Type 0} (f : ItemPlace → A) (x : A) (kind : Kind) (body : List ℕ) (place : ℕ)
    → (next_as f (next kind body place)).answer ≡ gives x
    → (place < (next_as f (next kind body place)).place) × ((next_as f (next kind body place)).place ≤ length body)
read_moves f x kind body place h =
    moves_as f x (next kind body place).answer place (next kind body place).place (length body) (moves kind body place) h

-- ---- a refused read

refused_by : (s : Option Parts) (end : ℕ) (r : Refusal) → (found s end).answer ≡ refused r → r ≡ refusal 2
refused_by (Some p) end r h = absurd (let z : ◌≡◌ {A = ℕ} 0 1 = cc in omega arith)
refused_by None end r h = cc

-- Before the end it is the string that is cut short.
pub cut_short : (kind : Kind) (body : List ℕ) (place : ℕ) → place < length body → (r : Refusal)
    → (next kind body place).answer ≡ refused r → r ≡ refusal 2
unfolding next
cut_short kind body place l r h = refused_by (split_at kind body place) (length body) r (rw (lt-ltb place (length body) l) at h)
