-- Tests of a byte's range, and of a part that lies inside its bytes. Assumes nothing.
use Prim.Native.Nat.{ℕ, zero, suc, ◌≤◌, ◌<◌}
use mathlib.Core.Path.{◌≡◌, refl, sym}
use mathlib.Core.Bool.{Bool, true, false, ◌&&◌, true≢false}
use mathlib.Core.List.{List, [], ◌∷◌}
use native.Mathlib.Nat.{not-suc-le-zero, le_of_suc-le-suc}
use borrow.Author.Tests.{le-leb, lt-leb, lt-ltb, le-ltb, leb-true, ltb-true}
use lib.Dec.{leb, ltb}
use lib.ListN.{length, get_or}
use Rattle.mmc.specs.Length.{within}

pub within_range : (a b n : ℕ) → a ≤ n → n < b → within a b n ≡ true
within_range a b n l h = rw (le-leb a n l, lt-ltb n b h)

pub below_range : (a b n : ℕ) → n < a → within a b n ≡ false
below_range a b n l = rw (lt-leb a n l)

pub above_range : (a b n : ℕ) → a ≤ n → b ≤ n → within a b n ≡ false
above_range a b n l h = rw (le-leb a n l, le-ltb n b h)

-- A number in a range is from its start on, and below its end.
pub within_told : (a b n : ℕ) → within a b n ≡ true → (a ≤ n) × (n < b)
within_told a b n e = go (leb a n) (ltb n b) refl refl e
  where
    go : (x y : Bool) → leb a n ≡ x → ltb n b ≡ y → (x && y) ≡ true → (a ≤ n) × (n < b)
    go true true s t h = (leb-true a n s, ltb-true n b t)
    go true false s t h = absurd (true≢false (sym h))
    go false y s t h = absurd (true≢false (sym h))

-- What stands inside a list does not depend on what stands past its end.
pub get_d_any : (l : List ℕ) (i d e : ℕ) → i < length l → get_or l i d ≡ get_or l i e
get_d_any [] i d e h = absurd (not-suc-le-zero h)
get_d_any (x ∷ l) zero d e h = refl
get_d_any (x ∷ l) (suc i) d e h = get_d_any l i d e (le_of_suc-le-suc h)
