-- The positions of a record, and the record of changed positions. Assumes nothing.
use Rattle.std.specs.Int.{bit_at, w64}
use Rattle.std.specs.Int.Bits.{bit_and, bit_or}
use Rattle.std.proofs.lemmas.Nat.{or_lt, and_le_l, and_mask, pow_below, one_shl, mod_below, pow_pos, shr-shr}
use Rattle.std.proofs.lemmas.Nat.Bits.{bit_at_set_same, bit_at_set_other, bit_at_clear_same, bit_at_clear_other, bit_at-lt, shr_and_one}
use Rattle.std.proofs.Common.{rules}
use Rattle.std.proofs.lemmas.Bool.Decides.{eqb_tells}
use Prim.Native.Nat.{ℕ, zero, suc, ◌+◌, ◌-◌, ◌*◌, ◌%◌, ◌/◌, ◌^◌, ◌<◌, ◌≤◌}
use native.Mathlib.Omega.{arith}
use mathlib.Core.Bool.{Bool, true, false, cond}
use mathlib.Core.Logic.{inl, inr, ◌⊎◌, ◌≢◌}
use mathlib.Core.Path.{◌≡◌, refl, sym, ap, ◌∙◌}
use lib.Dec.{eqb}
use borrow.Author.Tests.{lt-ltb, eq-eqb}
use Rattle.tracks.proofs.Numbers.{number_below, bit_of_number, number_by_bits, bit_of_low}
use Rattle.tracks.specs.Rp013Tracks.{has_bit}
use Rattle.tracks.specs.Tracks.{Positions, as_number, track_byte, positions_in, with_position}
use Rattle.tracks.specs.declared.set.TrackSet.{TrackSet}

-- A digit made of an outcome has that outcome.
pub test_of_digit : (b : Bool) → eqb (cond b 1 0) 1 ≡ b
test_of_digit true = refl
test_of_digit false = refl

-- A bit by the test that reads it.
pub bit_by_test : (n i : ℕ) → bit_at n i ≡ cond (has_bit n i) 1 0
bit_by_test n i = go (bit_at n i) (bit_at-lt n i)
  where
    go : (b : ℕ) → b < 2 → b ≡ cond (eqb b 1) 1 0
    go zero h = refl
    go (suc zero) h = refl
    go (suc (suc b)) h = omega (arith, h)

-- A position of a record, below 63.
position_bit : (t : TrackSet) (i : ℕ) → i < 63 → positions_in t i ≡ has_bit t.positions i
unfolding positions_in
position_bit t i l = rw (lt-ltb i 63 l)

bit_of_position : (t : TrackSet) (i : ℕ) → i < 63 → bit_at (t.positions % 2 ^ 63) i ≡ cond (positions_in t i) 1 0
bit_of_position t i l =
    bit_of_low t.positions 63 i l
    ∙ bit_by_test t.positions i
    ∙ ap (λ (b : Bool). cond b 1 0) (sym (position_bit t i l))

-- A record without bit 63.
pub known_lem : (t : TrackSet) → t.positions % 2 ^ 63 ≡ as_number (positions_in t) 63
known_lem t = number_by_bits (positions_in t) 63 (t.positions % 2 ^ 63) (mod_below t.positions (2 ^ 63) (pow_pos 63)) (bit_of_position t)

-- The bits of a record from one on are the positions from there on.
bits_from : (t : TrackSet) (j k : ℕ) → j + k ≤ 63 → t.positions / 2 ^ j % 2 ^ k ≡ as_number (λ (i : ℕ). positions_in t (j + i)) k
bits_from t j k h =
    number_by_bits (λ (i : ℕ). positions_in t (j + i)) k (t.positions / 2 ^ j % 2 ^ k) (mod_below (t.positions / 2 ^ j) (2 ^ k) (pow_pos k)) bits
  where
    bits : (i : ℕ) → i < k → bit_at (t.positions / 2 ^ j % 2 ^ k) i ≡ cond (positions_in t (j + i)) 1 0
    bits i l =
        bit_of_low (t.positions / 2 ^ j) k i l
        ∙ ap (λ (n : ℕ). n % 2) (shr-shr t.positions j i)
        ∙ bit_by_test t.positions (j + i)
        ∙ ap (λ (b : Bool). cond b 1 0) (sym (position_bit t (j + i) (omega (arith, h, l))))

-- One position set in the number of others.
pub armed_lem : (s : Positions) (k : ℕ) → k < 63 → bit_or (as_number s 63) (1 * 2 ^ k % 2 ^ 64) ≡ as_number (with_position k true s) 63
armed_lem s k l = number_by_bits (with_position k true s) 63 (bit_or (as_number s 63) (1 * 2 ^ k % 2 ^ 64)) below bits
  where
    below : bit_or (as_number s 63) (1 * 2 ^ k % 2 ^ 64) < 2 ^ 63
    below =
        let e : 1 * 2 ^ k % 2 ^ 64 ≡ 2 ^ k = one_shl k 64 (omega (arith, l)) in
        or_lt 63 (as_number s 63) (1 * 2 ^ k % 2 ^ 64) (number_below s 63) (rw e (pow_below k 63 l))

    bits : (i : ℕ) → i < 63 → bit_at (bit_or (as_number s 63) (1 * 2 ^ k % 2 ^ 64)) i ≡ cond (with_position k true s i) 1 0
    bits i h = go (eqb_tells i k)
      where
        go : ((eqb i k ≡ true) × (i ≡ k)) ⊎ ((eqb i k ≡ false) × (i ≢ k))
            → bit_at (bit_or (as_number s 63) (1 * 2 ^ k % 2 ^ 64)) i ≡ cond (with_position k true s i) 1 0
        go (inl same) = rw (same.1, eq-eqb k k refl) (bit_at_set_same w64 (as_number s 63) k (omega (arith, l)))
        go (inr other) =
            rw other.0 (bit_at_set_other w64 (as_number s 63) k (omega (arith, l)) i other.1 ∙ bit_of_number s 63 i h)

-- One position cleared in the number of others.
pub disarmed_lem : (s : Positions) (k : ℕ) → k < 63
    → bit_and (as_number s 63) (2 ^ 64 - 1 - 1 * 2 ^ k % 2 ^ 64) ≡ as_number (with_position k false s) 63
disarmed_lem s k l =
    number_by_bits (with_position k false s) 63 (bit_and (as_number s 63) (2 ^ 64 - 1 - 1 * 2 ^ k % 2 ^ 64)) below bits
  where
    below : bit_and (as_number s 63) (2 ^ 64 - 1 - 1 * 2 ^ k % 2 ^ 64) < 2 ^ 63
    below = omega (arith, and_le_l (as_number s 63) (2 ^ 64 - 1 - 1 * 2 ^ k % 2 ^ 64), number_below s 63)

    bits : (i : ℕ) → i < 63 → bit_at (bit_and (as_number s 63) (2 ^ 64 - 1 - 1 * 2 ^ k % 2 ^ 64)) i ≡ cond (with_position k false s i) 1 0
    bits i h = go (eqb_tells i k)
      where
        go : ((eqb i k ≡ true) × (i ≡ k)) ⊎ ((eqb i k ≡ false) × (i ≢ k))
            → bit_at (bit_and (as_number s 63) (2 ^ 64 - 1 - 1 * 2 ^ k % 2 ^ 64)) i ≡ cond (with_position k false s i) 1 0
        go (inl same) = rw (same.1, eq-eqb k k refl) (bit_at_clear_same w64 (as_number s 63) k (omega (arith, l)))
        go (inr other) =
            rw other.0
            (bit_at_clear_other w64 (as_number s 63) k (omega (arith, l)) i (omega (arith, h)) other.1 ∙ bit_of_number s 63 i h)

-- What the code computes of these.
pub known_mask : (t : TrackSet) → bit_and t.positions 9223372036854775807 ≡ as_number (positions_in t) 63
known_mask t = and_mask t.positions 63 ∙ known_lem t

pub tracks_mask : (t : TrackSet) → bit_and (t.positions / 2 ^ 5) 288230376151711743 ≡ as_number (λ (i : ℕ). positions_in t (5 + i)) 58
tracks_mask t = and_mask (t.positions / 2 ^ 5) 58 ∙ bits_from t 5 58 (search rules)

pub byte_mask : (t : TrackSet) (i : ℕ) → i < 9 → bit_and (t.positions / 2 ^ (7 * i)) 127 ≡ track_byte (positions_in t) i
unfolding track_byte
byte_mask t i h = and_mask (t.positions / 2 ^ (7 * i)) 7 ∙ bits_from t (7 * i) 7 (omega (arith, h))

pub bit_tested : (n i : ℕ) → eqb (bit_and (n / 2 ^ i) 1) 1 ≡ has_bit n i
bit_tested n i = ap (λ (b : ℕ). eqb b 1) (shr_and_one n i)
