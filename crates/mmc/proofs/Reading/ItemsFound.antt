-- What a read found is an item that fits, and stands there. Assumes nothing.
use Prim.Native.Nat.{ℕ, ◌+◌, ◌≤◌, ◌<◌}
use mathlib.Core.Path.{◌≡◌, refl, sym, ap, ap₂, subst, ◌∙◌}
use mathlib.Core.Bool.{Bool, true, false}
use mathlib.Core.List.{List, ◌++◌}
use native.Mathlib.Omega.{arith}
use borrow.Author.Tests.{ltb-true, ltb-false}
use lib.Dec.{ltb}
use lib.ListN.{length, take, drop, length-drop, length-append, take-append-drop}
use lib.Seq.{length-take-le}
use Rattle.mmc.specs.declared.length.Kind.{Kind}
use Rattle.mmc.specs.Rp013.{Item}
use Rattle.mmc.specs.Split.{ItemPlace, Next, next}
use Rattle.mmc.specs.Strings.{item, item_at, item_bytes, item_fits, item_place, Found, FoundThere}
use Rattle.universal.specs.Refusals.{gives, refused, refusal}
use Rattle.mmc.proofs.Reading.FrontItem.{item_found, ItemFront, cut, whole, item_front}
use Rattle.mmc.proofs.Reading.SplitTests.{next_end, next_cut, next_item}

-- The next read found this and goes on there.
abbrev Read : Kind → List ℕ → ℕ → ItemPlace → Next ItemPlace → Type 0
Read kind body place l n = n.answer ≡ gives l → FoundThere kind body place l n.place

-- A refused read found nothing.
not_found : (kind : Kind) (body : List ℕ) (place at k : ℕ) (l : ItemPlace)
    → Read kind body place l (record { answer = refused (refusal k); place = at })
not_found kind body place at k l h = absurd (let z : ◌≡◌ {A = ℕ} 0 1 = cc in omega arith)

module _ (kind : Kind) (body : List ℕ) (place : ℕ) (l : ItemPlace) where
  -- An item that fits and stands there is what a read gives.
  item_stands : (x : Item) → item_fits kind x ≡ true → Found kind body place x
      → Read kind body place l (record { answer = gives (item_place kind place x); place = place + length (item_bytes kind x) })
  item_stands x f s h =
      let e : item_place kind place x ≡ l = cc in
      let i : x ≡ item_at body l = sym (ap₂ item s.name_bytes s.data_bytes) ∙ ap (item_at body) e in
      record {
        fits = rw i at f;
        lies = sym e ∙ ap (item_place kind place) i;
        goes_on = ap (λ (y : Item). place + length (item_bytes kind y)) i;
      }

  by_front : (pre s : List ℕ) → place ≡ length pre → pre ++ s ≡ body → 1 ≤ length s → ItemFront kind s
      → Read kind body place l (next kind body place)
  by_front pre s p e n (cut c) =
      let k : place < length body = omega (arith, ap length e, length-append pre s) in
      subst (Read kind body place l) (next_cut kind body place k (rw (e, sym p) at (c pre))) (not_found kind body place (length body) 2 l)
  by_front pre s p e n (whole x post f b) =
      let k : place < length body = omega (arith, ap length e, length-append pre s) in
      let d : body ≡ pre ++ (item_bytes kind x ++ post) = sym e ∙ ap (λ (t : List ℕ). pre ++ t) b in
      let o : Found kind body place x = rw (d, p) (item_found kind pre x post f) in
      subst (Read kind body place l) (next_item kind body place _ _ _ k o.split) (item_stands x f o)

  -- By the place: before the end, or not.
  by_place : (b : Bool) → ltb place (length body) ≡ b → Read kind body place l (next kind body place)
  by_place true e =
      let h : place < length body = ltb-true place (length body) e in
      let n : 1 ≤ length (drop place body) = rw (length-drop place body) (omega arith) in
      by_front (take place body) (drop place body) (sym (length-take-le place body (omega arith))) (take-append-drop place body) n
      (item_front kind (drop place body) n)
  by_place false e =
      subst (Read kind body place l) (next_end kind body place (ltb-false place (length body) e)) (not_found kind body place place 9 l)

-- What a read found is an item that fits; it lies there, and reading goes on after its bytes.
pub there : (kind : Kind) (body : List ℕ) (place : ℕ) (l : ItemPlace) → (next kind body place).answer ≡ gives l
    → FoundThere kind body place l (next kind body place).place
there kind body place l h = by_place kind body place l (ltb place (length body)) refl h
