-- Groups of 4 bits: values that are at most 0FH, one by one, and the eight groups of a message. Assumes nothing.
use Prim.Native.Nat.{ℕ, zero, suc, ◌+◌, ◌≤◌, ◌<◌, suc-le-suc}
use mathlib.Core.Path.{◌≡◌, ap, ◌∙◌}
use mathlib.Core.Bool.{true, and-eq-true_iff}
use mathlib.Core.List.{List, [], ◌∷◌, ◌++◌}
use native.Mathlib.Omega.{arith}
use lib.Dec.{leb, lit<}
use lib.ListN.{length, drop, get_or, drop_of_length-le}
use lib.Seq.{drop-cons}
use borrow.Author.Tests.{leb-true}
use Rattle.universal.specs.Message.{all_low}
use Rattle.universal.proofs.Laws.{all_low_append, all_low_cons, all_low_none, all_low_of}
use Rattle.mtc.specs.UserBits.{all_nibbles}

-- ---- one by one

-- Each of some nibbles is below 16, and so is the 0 past their end.
pub nibble_below : (gs : List ℕ) (i : ℕ) → all_nibbles gs ≡ true → get_or gs i 0 < 16
unfolding all_nibbles
nibble_below [] i h = lit< tt
nibble_below (g ∷ gs) zero h = suc-le-suc (leb-true g 15 ((and-eq-true_iff (leb g 15) (all_nibbles gs)).0 h).0)
nibble_below (g ∷ gs) (suc i) h = nibble_below gs i ((and-eq-true_iff (leb g 15) (all_nibbles gs)).0 h).1

-- The data bytes of groups and flags are low.
pub data_low : (gs : List ℕ) (flags : ℕ) → all_nibbles gs ≡ true → flags < 4 → all_low (gs ++ flags ∷ []) ≡ true
data_low gs flags h f = all_low_append gs (flags ∷ []) ∙ rw (groups, all_low_cons flags [] (omega arith) all_low_none)
  where
    groups : all_low gs ≡ true
    groups = all_low_of gs (λ i l. omega (arith, nibble_below gs i h))

-- ---- eight of them

-- The k values from a place on.
values_from : List ℕ → ℕ → ℕ → List ℕ
values_from gs i zero = []
values_from gs i (suc k) = get_or gs i 0 ∷ values_from gs (suc i) k

all_from : (gs : List ℕ) (i k : ℕ) → length gs ≡ i + k → drop i gs ≡ values_from gs i k
unfolding values_from
all_from gs i zero n =
    let end : length gs ≤ i = omega arith in
    drop_of_length-le gs end
all_from gs i (suc k) n =
    drop-cons gs i 0 (omega arith) ∙ ap (λ (l : List ℕ). get_or gs i 0 ∷ l) (all_from gs (suc i) k (omega arith))

pub eight_spelled : (gs : List ℕ) → length gs ≡ 8
    → gs ≡ get_or gs 0 0 ∷ get_or gs 1 0 ∷ get_or gs 2 0 ∷ get_or gs 3 0 ∷ get_or gs 4 0 ∷ get_or gs 5 0 ∷ get_or gs 6 0 ∷ get_or gs 7 0 ∷ []
unfolding values_from
eight_spelled gs n = all_from gs 0 8 n
