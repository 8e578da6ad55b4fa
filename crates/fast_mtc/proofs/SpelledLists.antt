-- Lists spelled item by item, at which stores and reads compute, and cases of the eight pieces. Assumes nothing.
use Prim.Native.Nat.{ℕ, zero, suc, ◌≤◌}
use mathlib.Core.List.{List, [], ◌∷◌}
use mathlib.Core.Path.{◌≡◌, refl, subst, ap}
use native.Mathlib.Omega.{arith}
use lib.ListN.{length, get_or, drop}

-- A list with its first n items spelled.
abbrev pub spelled : ℕ → List ℕ → List ℕ
spelled zero l = l
spelled (suc n) l = get_or l 0 0 ∷ spelled n (drop 1 l)

pub spell : (n : ℕ) (l : List ℕ) → n ≤ length l → spelled n l ≡ l
spell zero l h = refl
spell (suc n) [] h = absurd (omega arith)
spell (suc n) (x ∷ l) h = ap (λ (r : List ℕ). x ∷ r) (spell n l (omega arith))

-- What holds of a reader's words spelled holds of them.
pub by_words : (P : List ℕ → Type 0) (ws : List ℕ) → length ws ≡ 15 → P (spelled 15 ws) → P ws
by_words P ws e h = subst P (spell 15 ws (omega (arith, e))) h

-- What holds of each of the eight pieces holds of any.
pub piece_cases : (P : ℕ → Type 0) → P 0 → P 1 → P 2 → P 3 → P 4 → P 5 → P 6 → P 7 → (k : ℕ) → k ≤ 7 → P k
piece_cases P a b c d e f g h zero l = a
piece_cases P a b c d e f g h (suc zero) l = b
piece_cases P a b c d e f g h (suc (suc zero)) l = c
piece_cases P a b c d e f g h (suc (suc (suc zero))) l = d
piece_cases P a b c d e f g h (suc (suc (suc (suc zero)))) l = e
piece_cases P a b c d e f g h (suc (suc (suc (suc (suc zero))))) l = f
piece_cases P a b c d e f g h (suc (suc (suc (suc (suc (suc zero)))))) l = g
piece_cases P a b c d e f g h (suc (suc (suc (suc (suc (suc (suc zero))))))) l = h
piece_cases P a b c d e f g h (suc (suc (suc (suc (suc (suc (suc (suc k)))))))) l = absurd (omega arith)
