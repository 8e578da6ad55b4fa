-- The cells of an index: what they say after one field more, and that they are all of it. Assumes nothing.
use Rattle.std.specs.Prelude.{Option, Some, None}
use Rattle.std.specs.Option.{option_or}
use Rattle.std.proofs.lemmas.Option.{none-some}
use Prim.Native.Nat.{ℕ, zero, suc, ◌+◌, ◌-◌, ◌≤◌, ◌<◌}
use mathlib.Core.Bool.{Bool, true, false, cond, ◌&&◌, true≢false, and-true, and-false}
use mathlib.Core.List.{List, [], ◌∷◌}
use mathlib.Core.Logic.{◌⊎◌, inl, inr}
use mathlib.Core.Path.{◌≡◌, refl, sym, ap, ◌∙◌, fun_ext}
use native.Mathlib.Numerals.{add-one}
use native.Mathlib.Omega.{arith}
use borrow.Author.Tests.{eqb-true, eqb-false, ltb-true, ne_eqb, lt-ltb}
use lib.Dec.{eqb, ltb}
use lib.ListN.{length, get_or, set, replicate}
use lib.Seq.{get_or-set_same, get_or-set_other, ext_get_or}
use Rattle.field_index.specs.Clauses.{with_field}
use Rattle.field_index.specs.Index.{Index, no_fields, is_indexed, is_named, cell_place, index_in}

-- ---- a name

-- One byte is told by that byte.
pub named_byte : (n b : ℕ) → is_named n (b ∷ []) ≡ eqb b n
named_byte n b = and-true (eqb b n)

-- A name that is not one byte is no name of one byte.
pub named_long : (n : ℕ) (name : List ℕ) → (length name ≡ 1 → ⊥) → is_named n name ≡ false
named_long n [] h = refl
named_long n (b ∷ []) h = absurd (h refl)
named_long n (b ∷ c ∷ bytes) h = and-false (eqb b n)

-- ---- a field that is not kept

module _ (index : Index) (place : ℕ) where
  -- An index stays as it is where a name is not to be kept, or is there already.
  unkept : (name : List ℕ) → ((n : ℕ) → ((is_indexed n && is_named n name) ≡ false) ⊎ ((p : ℕ) × (index n ≡ Some p)))
      → with_field index place name ≡ index
  unfolding with_field
  unkept name h = fun_ext (λ n. by (index n) (is_indexed n && is_named n name) (h n))
    where
      by : (o : Option ℕ) (b : Bool) → (b ≡ false) ⊎ ((p : ℕ) × (o ≡ Some p)) → option_or o (cond b (Some place) None) ≡ o
      by (Some p) b h = refl
      by None false h = refl
      by None true (inl q) = absurd (true≢false q)
      by None true (inr q) = absurd (none-some q.0 q.1)

  -- A name that is not one byte.
  pub not_one : (name : List ℕ) → (length name ≡ 1 → ⊥) → with_field index place name ≡ index
  not_one name h = unkept name (λ n. inl (rw (named_long n name h) (and-false (is_indexed n))))

  -- A byte above 7FH.
  pub too_high : (name : List ℕ) → length name ≡ 1 → 128 ≤ get_or name 0 0 → with_field index place name ≡ index
  too_high [] k h = absurd (omega arith)
  too_high (b ∷ []) k h = unkept (b ∷ []) (λ n. inl (rw (named_byte n b) (go n (ltb n 128) refl)))
    where
      go : (n : ℕ) (low : Bool) → ltb n 128 ≡ low → (low && eqb b n) ≡ false
      go n true e =
          let l : n < 128 = ltb-true n 128 e in
          ne_eqb b n (λ q. omega arith)
      go n false e = refl
  too_high (b ∷ c ∷ bytes) k h = absurd (omega arith)

  -- A name that has a field already.
  has_place : (b p : ℕ) → index b ≡ Some p → with_field index place (b ∷ []) ≡ index
  has_place b p h = unkept (b ∷ []) (λ n. rw (named_byte n b) (go n (eqb b n) refl))
    where
      go : (n : ℕ) (same : Bool) → eqb b n ≡ same → ((is_indexed n && same) ≡ false) ⊎ ((p : ℕ) × (index n ≡ Some p))
      go n true e = inr (p, ap index (sym (eqb-true b n e)) ∙ h)
      go n false e = inl (and-false (is_indexed n))

-- ---- a cell

-- The place of a cell that is not 0 is one less.
pub cell_place_lem : (cell : ℕ) → (cell ≡ 0 → ⊥) → cell_place cell ≡ Some (cell - 1)
cell_place_lem zero h = absurd (h refl)
cell_place_lem (suc p) h = ap Some (omega arith)

-- A name whose cell is taken.
pub has_field : (cells : List ℕ) (place : ℕ) (name : List ℕ) → length name ≡ 1 → (get_or cells (get_or name 0 0) 0 ≡ 0 → ⊥)
    → with_field (index_in cells) place name ≡ index_in cells
unfolding index_in
has_field cells place [] k h = absurd (omega arith)
has_field cells place (b ∷ []) k h = has_place (index_in cells) place b (get_or cells b 0 - 1) (cell_place_lem (get_or cells b 0) h)
has_field cells place (b ∷ c ∷ bytes) k h = absurd (omega arith)

-- A field kept in an empty cell.
pub kept_field : (cells : List ℕ) (place : ℕ) (name : List ℕ) → length name ≡ 1 → get_or name 0 0 < 128 → length cells ≡ 128
    → get_or cells (get_or name 0 0) 0 ≡ 0 → index_in (set cells (get_or name 0 0) (place + 1)) ≡ with_field (index_in cells) place name
unfolding index_in with_field
kept_field cells place [] k l m z = absurd (omega arith)
kept_field cells place (b ∷ []) k l m z = fun_ext (λ n. rw (named_byte n b) (go n (eqb b n) refl))
  where
    stays_none : (o : Option ℕ) → o ≡ option_or o None
    stays_none (Some p) = refl
    stays_none None = refl

    go : (n : ℕ) (same : Bool) → eqb b n ≡ same
        → cell_place (get_or (set cells b (place + 1)) n 0)
        ≡ option_or (cell_place (get_or cells n 0)) (cond (is_indexed n && same) (Some place) None)
    go n true e =
        let q : b ≡ n = eqb-true b n e in
        let i : b < length cells = omega arith in
        rw (sym q, get_or-set_same cells b (place + 1) 0 i, add-one place, z, lt-ltb b 128 l)
    go n false e =
        rw (get_or-set_other cells b n (place + 1) 0 (λ q. eqb-false b n e (sym q)), and-false (is_indexed n)) (stays_none _)
kept_field cells place (b ∷ c ∷ bytes) k l m z = absurd (omega arith)

-- ---- all cells

-- Cells that are all 0 are a fresh index.
pub all_empty : index_in (replicate 128 0) ≡ no_fields
unfolding index_in
all_empty = fun_ext (λ n. ap cell_place (go 128 n))
  where
    go : (k n : ℕ) → get_or (replicate k zero) n zero ≡ zero
    go zero n = refl
    go (suc k) zero = refl
    go (suc k) (suc n) = go k n

-- A cell by its place.
cell_told : (a b : ℕ) → cell_place a ≡ cell_place b → a ≡ b
cell_told zero zero h = refl
cell_told zero (suc b) h = absurd (none-some b h)
cell_told (suc a) zero h = absurd (none-some a (sym h))
cell_told (suc a) (suc b) h = cc

-- Two lists of 128 cells that hold the same index are equal cell by cell.
pub cells_told : (a b : List ℕ) → length a ≡ 128 → length b ≡ 128 → index_in a ≡ index_in b → a ≡ b
unfolding index_in
cells_told a b h k e =
    ext_get_or 0 a b (h ∙ sym k) (λ i l. cell_told (get_or a i 0) (get_or b i 0) (ap (λ (f : Index). f i) e))
