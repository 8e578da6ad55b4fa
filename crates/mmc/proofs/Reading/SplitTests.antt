-- The splitter, test by test. Assumes nothing.
use Rattle.std.specs.Prelude.{Result, None, Ok, Err}
use Prim.Native.Nat.{ℕ, ◌+◌, ◌-◌, ◌≤◌, ◌<◌}
use mathlib.Core.Path.{◌≡◌, sym, ap, ◌∙◌}
use mathlib.Core.Bool.{Bool, true, false, cond}
use mathlib.Core.List.{List}
use borrow.Author.Tests.{le-leb, lt-leb, lt-ltb, le-ltb, eq-eqb, ne_eqb}
use lib.Dec.{eqb, lit≤}
use lib.ListN.{length, get_or, get_or-eq_default}
use Rattle.mmc.specs.declared.length.Kind.{Kind}
use Rattle.mmc.specs.declared.length.Length.TheVariants.{Fixed, Count}
use Rattle.mmc.specs.declared.part.Part.{Part}
use Rattle.mmc.specs.Length.{length_of}
use Rattle.mmc.specs.Part.{part}
use Rattle.mmc.specs.Split.{prefixes_at, measured, split_at, ItemPlace, Next, next, next_as, next_item_of, parts_of}
use Rattle.universal.specs.Refusals.{gives, refused, refusal, refusal_of}
use Rattle.universal.specs.declared.error.SysexError.{SysexError}
use Rattle.mmc.proofs.RangeTests.{get_d_any}

-- ---- the zeros before a name's last byte

module _ (body : List ℕ) (at : ℕ) (l : at < length body) where
  pub no_zero : (get_or body at 0 ≡ 0 → ⊥) → 0 ≡ prefixes_at body at
  unfolding prefixes_at
  no_zero h = rw (get_d_any body at 1 0 l, ne_eqb (get_or body at 0) 0 h)

  module _ (z : get_or body at 0 ≡ 0) where
    pub one_at_the_end : length body ≤ at + 1 → 1 ≡ prefixes_at body at
    unfolding prefixes_at
    one_at_the_end h = rw (get_d_any body at 1 0 l, eq-eqb (get_or body at 0) 0 z, get_or-eq_default body 1 h)

    pub two_zeros : at + 1 < length body → get_or body (at + 1) 0 ≡ 0 → 2 ≡ prefixes_at body at
    unfolding prefixes_at
    two_zeros h e =
        rw (get_d_any body at 1 0 l, eq-eqb (get_or body at 0) 0 z, get_d_any body (at + 1) 1 0 h, eq-eqb (get_or body (at + 1) 0) 0 e)

pub few_zeros : (body : List ℕ) (at : ℕ) → prefixes_at body at ≤ 2
unfolding prefixes_at
few_zeros body at = go (eqb (get_or body at 1) 0) (eqb (get_or body (at + 1) 1) 0)
  where
    go : (a b : Bool) → cond a (cond b 2 1) 0 ≤ 2
    go true true = lit≤ tt
    go true false = lit≤ tt
    go false b = lit≤ tt

-- ---- the data after it

module _ (body : List ℕ) (name : Part) (after len : ℕ) where
  pub too_few : after ≤ length body → length body - after < len → None ≡ measured body name after len
  unfolding measured
  too_few l h = rw (le-leb after (length body) l, lt-leb len (length body - after) h)

  pub enough : after ≤ length body → len ≤ length body - after → parts_of name (part after len) (after + len) ≡ measured body name after len
  unfolding measured
  enough l h = rw (le-leb after (length body) l, le-leb len (length body - after) h)

-- ---- the item

module _ (kind : Kind) (body : List ℕ) (at zeros : ℕ) (z : zeros ≡ prefixes_at body at) where
  pub cut_name : length body ≤ at + zeros → None ≡ split_at kind body at
  unfolding split_at
  cut_name h = rw (sym z, le-ltb (at + zeros) (length body) h)

  module _ (l : at + zeros < length body) where
    pub fixed_data : (n : ℕ) → length_of kind (get_or body (at + zeros) 0) ≡ Fixed n
        → measured body (part at (zeros + 1)) (at + zeros + 1) n ≡ split_at kind body at
    unfolding split_at
    fixed_data n e = rw (sym z, lt-ltb (at + zeros) (length body) l, e)

    pub no_count : length_of kind (get_or body (at + zeros) 0) ≡ Count → length body ≤ at + zeros + 1 → None ≡ split_at kind body at
    unfolding split_at
    no_count e h = rw (sym z, lt-ltb (at + zeros) (length body) l, e, le-ltb (at + zeros + 1) (length body) h)

    pub counted_data : length_of kind (get_or body (at + zeros) 0) ≡ Count → at + zeros + 1 < length body
        → measured body (part at (zeros + 1)) (at + zeros + 1 + 1) (get_or body (at + zeros + 1) 0) ≡ split_at kind body at
    unfolding split_at
    counted_data e h = rw (sym z, lt-ltb (at + zeros) (length body) l, e, lt-ltb (at + zeros + 1) (length body) h)

-- ---- the next item

module _ (kind : Kind) (body : List ℕ) (place : ℕ) where
  pub next_end : length body ≤ place → record { answer = refused (refusal 9); place = place } ≡ next kind body place
  unfolding next
  next_end h = rw (le-ltb place (length body) h)

  pub next_cut : place < length body → split_at kind body place ≡ None
      → record { answer = refused (refusal 2); place = length body } ≡ next kind body place
  unfolding next
  next_cut h e = rw (lt-ltb place (length body) h, e)

  pub next_item : (n d : Part) (after : ℕ) → place < length body → split_at kind body place ≡ parts_of n d after
      → record { answer = gives (record { name = n; «data» = d }); place = after } ≡ next kind body place
  unfolding next
  next_item n d after h e = rw (lt-ltb place (length body) h, e)

-- It is read as something where it was found, and its refusal stays.
module _ {A : Type 0} (f : ItemPlace → A) (x : Next ItemPlace) (k : Result ItemPlace SysexError) (place : ℕ)
    (e : next_item_of (record { answer = k; place = place }) ≡ x) where
  pub read_found : (n d : Part) (r : A) → k ≡ Ok (record { name = n; «data» = d }) → r ≡ f (record { name = n; «data» = d })
      → ◌≡◌ {A = Next A} (record { answer = gives r; place = place }) (next_as f x)
  read_found n d r q p =
      ap (λ (y : A). record { answer = gives y; place = place }) p
      ∙ ap (λ (y : Result ItemPlace SysexError). next_as f (next_item_of (record { answer = y; place = place }))) (sym q)
      ∙ ap (next_as f) e

  pub read_refused : (r : SysexError) → k ≡ Err r
      → ◌≡◌ {A = Next A} (record { answer = refused (refusal_of r); place = place }) (next_as f x)
  read_refused r q =
      ap (λ (y : Result ItemPlace SysexError). next_as f (next_item_of (record { answer = y; place = place }))) (sym q) ∙ ap (next_as f) e
