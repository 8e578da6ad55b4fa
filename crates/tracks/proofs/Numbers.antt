-- Numbers by their bits: the number of a set of positions, its bits, and how many of them are 1. Assumes nothing.
use Rattle.std.specs.Int.{bit_at}
use Rattle.std.proofs.lemmas.Nat.{pow-add, shr_split}
use Rattle.std.proofs.lemmas.Nat.Bits.{bit_at_cat_low, bit_at_cat_high, same_from_bits_below}
use Rattle.std.proofs.lemmas.Bool.{cases_lt}
use Prim.Native.Nat.{ℕ, zero, suc, ◌+◌, ◌-◌, ◌*◌, ◌%◌, ◌/◌, ◌^◌, ◌<◌, ◌≤◌}
use native.Mathlib.Omega.{arith}
use mathlib.Core.Bool.{Bool, true, false, cond}
use mathlib.Core.Logic.{inl, inr, ◌⊎◌}
use mathlib.Core.Path.{◌≡◌, refl, sym, ap, ◌∙◌}
use Rattle.tracks.specs.Tracks.{Positions, as_number}

-- One bit more, with any number of bits below it, takes one bit more.
bit_above : (b : Bool) (k r : ℕ) → r < 2 ^ k → cond b 1 0 * 2 ^ k + r < 2 ^ suc k
bit_above b k r h =
    let twice : 2 ^ (k + 1) ≡ 2 ^ k * 2 = pow-add 2 k 1 in
    let next : suc k ≡ k + 1 = omega arith in
    rw (next, twice) (go b)
  where
    go : (b : Bool) → cond b 1 0 * 2 ^ k + r < 2 ^ k * 2
    go true = omega (arith, h)
    go false = omega (arith, h)

pub number_below : (s : Positions) (k : ℕ) → as_number s k < 2 ^ k
unfolding as_number
number_below s zero = omega arith
number_below s (suc k) = bit_above (s k) k (as_number s k) (number_below s k)

-- Bit 0 of a bit.
bit_of_bit : (b : Bool) → bit_at (cond b 1 0) 0 ≡ cond b 1 0
bit_of_bit true = refl
bit_of_bit false = refl

-- Each bit of the number is its position's.
pub bit_of_number : (s : Positions) (k i : ℕ) → i < k → bit_at (as_number s k) i ≡ cond (s i) 1 0
unfolding as_number
bit_of_number s zero i h = omega (arith, h)
bit_of_number s (suc k) i h = go (cases_lt i k) (bit_of_number s k i)
  where
    go : (i < k) ⊎ (k ≤ i) → (i < k → bit_at (as_number s k) i ≡ cond (s i) 1 0)
        → bit_at (cond (s k) 1 0 * 2 ^ k + as_number s k) i ≡ cond (s i) 1 0
    go (inl l) low = bit_at_cat_low (cond (s k) 1 0) k (as_number s k) i l ∙ low l
    go (inr l) low =
        let same : i ≡ k = omega (arith, h) in
        let nothing : k - k ≡ 0 = omega arith in
        rw same
        (bit_at_cat_high (cond (s k) 1 0) k (as_number s k) k (number_below s k) (omega arith)
        ∙ rw nothing (bit_of_bit (s k)))

-- A number with these bits, and no other, is their number.
pub number_by_bits : (s : Positions) (k n : ℕ) → n < 2 ^ k → ((i : ℕ) → i < k → bit_at n i ≡ cond (s i) 1 0) → n ≡ as_number s k
number_by_bits s k n below bits =
    same_from_bits_below k n (as_number s k) below (number_below s k)
    (λ i l. bits i l ∙ sym (bit_of_number s k i l))

-- The low bits of a number are its own.
pub bit_of_low : (n k i : ℕ) → i < k → bit_at (n % 2 ^ k) i ≡ bit_at n i
bit_of_low n k i l =
    sym (bit_at_cat_low (n / 2 ^ k) k (n % 2 ^ k) i l) ∙ ap (λ (m : ℕ). bit_at m i) (shr_split n k)
