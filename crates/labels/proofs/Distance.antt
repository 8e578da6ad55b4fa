-- A signed distance modulo a day: how the code reduces it by its sign, and the laws of `mod_z` for any modulus. Assumes nothing.
use Prim.Native.Nat.{ℕ, zero, suc, ◌+◌, ◌-◌, ◌*◌, ◌/◌, ◌%◌, ◌≤◌, ◌<◌}
use mathlib.Core.Path.{◌≡◌, refl, sym, ap, ap₂, ◌∙◌}
use mathlib.Core.Bool.{Bool, true, false, cond, true≢false}
use native.Mathlib.Nat.{mod-lt, mod-eq_of_lt, mod_self, sub-zero, zero-mod, add-mod, add_comm, add-mul-mod_self_right, div-add-mod', zero-lt-suc}
use native.Mathlib.Omega.{arith}
use borrow.Author.Tests.{ltb-true, ltb-false, le-ltb}
use lib.Arith.{digits_mod}
use lib.Dec.{T, ltb}
use lib.IntN.{ℤ, pos, negsuc, ◌+ℤ◌, ◌-ℤ◌, sub_ℕ, nat_abs, neg_ℤ}
use lib.Signed.{mag, lt_z, non_neg}
use mir.Syntax.{w32}
use mir.Val.{Fits, SFits, of_z, to_z}
use mir.ValLaws.{to_z-of_z}
use Rattle.labels.specs.Time.{mod_z}

-- ---- as the code computes it

abbrev pub IsNegative : ℤ → Type 0
IsNegative z = lt_z (to_z w32 (of_z w32 z)) (to_z w32 0) ≡ true

abbrev pub NotNegative : ℤ → Type 0
NotNegative z = lt_z (to_z w32 (of_z w32 z)) (to_z w32 0) ≡ false

-- -1 - z
abbrev pub turned_round : ℤ → ℤ
turned_round z = negsuc 0 -ℤ to_z w32 (of_z w32 z)

pub back_is : (z : ℤ) → SFits w32 z → IsNegative z → turned_round z ≡ pos (mag z)
back_is (pos n) h e =
    let absurdly : n < 0 = ltb-true n 0 (rw (to_z-of_z w32 (pos n) h) at e) in
    absurd (omega arith)
back_is (negsuc n) h e = rw (to_z-of_z w32 (negsuc n) h) (rw (le-ltb (suc n) 1 (omega arith)) (ap pos (omega arith)))

-- A negative distance, as the code holds -1 - z.
pub back_read : (z : ℤ) → SFits w32 z → IsNegative z → to_z w32 (of_z w32 (turned_round z)) ≡ pos (mag z)
back_read z h e = rw (back_is z h e) (to_z-of_z w32 (pos (mag z)) (record { sfits = h.sfits }))

pub back_fits : (z : ℤ) → SFits w32 z → IsNegative z → SFits w32 (turned_round z)
back_fits z h e = rw (back_is z h e) (record { sfits = h.sfits })

abbrev AsUnsigned : ℤ → Type 0
AsUnsigned z = T (non_neg z) × Fits w32 (nat_abs z)

pub back_casts : (z : ℤ) → SFits w32 z → IsNegative z → AsUnsigned (to_z w32 (of_z w32 (turned_round z)))
back_casts z h e = rw (back_read z h e) (tt, record { fits = omega (arith, h.sfits) })

pub back_mod : (z : ℤ) (d : ℕ) → SFits w32 z → IsNegative z
    → d - 1 - nat_abs (to_z w32 (of_z w32 (turned_round z))) % d ≡ mod_z z d
unfolding mod_z
back_mod (pos n) d h e =
    let absurdly : n < 0 = ltb-true n 0 (rw (to_z-of_z w32 (pos n) h) at e) in
    absurd (omega arith)
back_mod (negsuc n) d h e = rw (back_read (negsuc n) h e)

-- A distance that is not negative.
ahead_is : (z : ℤ) → SFits w32 z → NotNegative z → to_z w32 (of_z w32 z) ≡ pos (mag z)
ahead_is (pos n) h e = to_z-of_z w32 (pos n) h
ahead_is (negsuc n) h e = absurd (true≢false (rw (to_z-of_z w32 (negsuc n) h) at e))

pub ahead_casts : (z : ℤ) → SFits w32 z → NotNegative z → AsUnsigned (to_z w32 (of_z w32 z))
ahead_casts z h e = rw (ahead_is z h e) (tt, record { fits = omega (arith, h.sfits) })

pub ahead_mod : (z : ℤ) (d : ℕ) → SFits w32 z → NotNegative z → nat_abs (to_z w32 (of_z w32 z)) % d ≡ mod_z z d
unfolding mod_z
ahead_mod (pos n) d h e = rw (ahead_is (pos n) h e)
ahead_mod (negsuc n) d h e = absurd (true≢false (rw (to_z-of_z w32 (negsuc n) h) at e))

-- A distance that was passed on.
pub passed_mod : (z : ℤ) (d s : ℕ) → SFits w32 z → s ≡ mod_z (to_z w32 (of_z w32 z)) d → s ≡ mod_z z d
passed_mod z d s h e = rw (to_z-of_z w32 z h) at e

-- ---- for any modulus

pub mod_pred : (n d : ℕ) → 0 < d → n % d ≤ d - 1
mod_pred n d h = omega (arith, mod-lt n h)

pub mod_below : (z : ℤ) (d : ℕ) → 0 < d → mod_z z d < d
unfolding mod_z
mod_below (pos n) d h = mod-lt n h
mod_below (negsuc n) d h = omega (arith, mod-lt n h)

-- So many back from 0 are the rest of d.
pub mod_back : (n d : ℕ) → n < d → mod_z (neg_ℤ (pos n)) d ≡ (d - n) % d
unfolding mod_z
mod_back zero d h = zero-mod d ∙ sym (ap (λ (k : ℕ). k % d) (sub-zero d) ∙ mod_self d)
mod_back (suc n) d h =
    let back : n % d ≡ n = mod-eq_of_lt (omega (arith, h)) in
    let rest : (d - suc n) % d ≡ d - suc n = mod-eq_of_lt (omega (arith, h)) in
    omega (arith, back, rest)

-- A negative number's residue, without a subtraction from d.
neg_mod_at : (q r e : ℕ) → r ≤ e → suc (q * suc e + r) * e ≡ (q * e + r) * suc e + (e - r)
neg_mod_at q r e h = omega arith

neg_mod : (n e : ℕ) → mod_z (negsuc n) (suc e) ≡ (suc n * e) % suc e
unfolding mod_z
neg_mod n e =
    let q : ℕ = n / suc e in
    let r : ℕ = n % suc e in
    let small : r < suc e = mod-lt n (zero-lt-suc e) in
    let split : suc n * e ≡ (q * e + r) * suc e + (e - r)
    = ap (λ (k : ℕ). suc k * e) (sym (div-add-mod' n (suc e))) ∙ neg_mod_at q r e (omega arith) in
    let residue : suc e - 1 - r ≡ e - r = omega arith in
    residue ∙ sym (ap (λ (k : ℕ). k % suc e) split ∙ digits_mod (q * e + r) (omega arith))

-- m - (n + 1), from n + 1 on and below it.
ahead_sum : (n e k : ℕ) → (suc n + k + suc n * e) % suc e ≡ k % suc e
ahead_sum n e k =
    let whole : suc n + k + suc n * e ≡ k + suc n * suc e = omega arith in
    ap (λ (x : ℕ). x % suc e) whole ∙ add-mul-mod_self_right k (suc n) (suc e)

behind_sum : (m e k : ℕ) → (m + (m + suc k) * e) % suc e ≡ (suc k * e) % suc e
behind_sum m e k =
    let whole : m + (m + suc k) * e ≡ suc k * e + m * suc e = omega arith in
    ap (λ (x : ℕ). x % suc e) whole ∙ add-mul-mod_self_right (suc k * e) m (suc e)

difference : (m n e : ℕ) → mod_z (sub_ℕ m (suc n)) (suc e) ≡ (m + suc n * e) % suc e
unfolding mod_z
difference m n e = go (ltb m (suc n)) refl
  where
    go : (b : Bool) → ltb m (suc n) ≡ b
        → mod_z (cond b (negsuc (suc n - suc m)) (pos (m - suc n))) (suc e) ≡ (m + suc n * e) % suc e
    go true t =
        let whole : suc n ≡ m + suc (suc n - suc m) = omega (arith, ltb-true m (suc n) t) in
        neg_mod (suc n - suc m) e ∙ sym (ap (λ (x : ℕ). (m + x * e) % suc e) whole ∙ behind_sum m e (suc n - suc m))
    go false t =
        let whole : m ≡ suc n + (m - suc n) = omega (arith, ltb-false m (suc n) t) in
        sym (ap (λ (x : ℕ). (x + suc n * e) % suc e) whole ∙ ahead_sum n e (m - suc n))

mixed : (m n e : ℕ) → mod_z (sub_ℕ m (suc n)) (suc e) ≡ (m % suc e + mod_z (negsuc n) (suc e)) % suc e
mixed m n e =
    difference m n e ∙ add-mod m (suc n * e) (suc e) ∙ ap (λ (x : ℕ). (m % suc e + x) % suc e) (sym (neg_mod n e))

-- The residue of a sum.
pub mod_sum : (a b : ℤ) (e : ℕ) → mod_z (a +ℤ b) (suc e) ≡ (mod_z a (suc e) + mod_z b (suc e)) % suc e
unfolding mod_z
mod_sum (pos m) (pos n) e = add-mod m n (suc e)
mod_sum (pos m) (negsuc n) e = mixed m n e
mod_sum (negsuc m) (pos n) e =
    mixed n m e ∙ ap (λ (x : ℕ). x % suc e) (add_comm (n % suc e) (mod_z (negsuc m) (suc e)))
mod_sum (negsuc m) (negsuc n) e =
    let whole : suc (suc (m + n)) * e ≡ suc m * e + suc n * e = omega arith in
    neg_mod (suc (m + n)) e
    ∙ ap (λ (x : ℕ). x % suc e) whole
    ∙ add-mod (suc m * e) (suc n * e) (suc e)
    ∙ ap₂ (λ (x y : ℕ). (x + y) % suc e) (sym (neg_mod m e)) (sym (neg_mod n e))
