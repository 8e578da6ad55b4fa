-- Bits of a byte by their weights: a bit that is written is read back, and a bit that is read is written back. Assumes nothing.
use Prim.Native.Nat.{ℕ, ◌+◌, ◌-◌, ◌*◌, ◌/◌, ◌%◌, ◌≤◌, ◌<◌}
use mathlib.Core.Path.{◌≡◌, refl, sym, ap, ◌∙◌}
use mathlib.Core.Bool.{Bool, true, false, cond}
use native.Mathlib.Nat.{mod-lt, mul-add-div_right, div-eq_of_lt, div-div-eq-div-mul, div-add-mod'}
use native.Mathlib.Omega.{arith}
use borrow.Author.Tests.{eqb-true, eqb-false}
use lib.Dec.{eqb, lit<}
use Rattle.labels.specs.St12.{one}
use Rattle.labels.specs.Time.{bits_of, rate_at}
use Rattle.labels.specs.declared.time.TimeCodeType.{TimeCodeType}
use Rattle.labels.specs.declared.time.TimeCodeType.TheVariants.{Fps24, Fps25, Fps30Drop, Fps30}
use Rattle.codes.specs.TimeCode.{bit, flag}

-- A flag is its bit times its weight.
pub flag_one : (weight : ℕ) (b : Bool) → flag weight b ≡ one b * weight
flag_one weight true = omega arith
flag_one weight false = omega arith

-- A flag adds its weight or nothing.
pub flag_most : (weight : ℕ) (b : Bool) → flag weight b ≤ weight
flag_most weight true = omega arith
flag_most weight false = omega arith

pub one_most : (b : Bool) → one b ≤ 1
one_most true = omega arith
one_most false = omega arith

-- The bit of a byte that is written with it: `q` stands above it, and `low` below.
pub bit_told : (weight byte q low : ℕ) (b : Bool) → low < weight → byte ≡ (2 * q + one b) * weight + low → bit weight byte ≡ b
bit_told weight byte q low b h e =
    let w : 0 < weight = omega arith in
    let d : byte / weight ≡ 2 * q + one b = rw e (mul-add-div_right w (2 * q + one b) low ∙ rw (div-eq_of_lt h) (omega arith)) in
    rw d (tell b)
  where
    tell : (b : Bool) → eqb ((2 * q + one b) % 2) 1 ≡ b
    tell true = let m : (2 * q + 1) % 2 ≡ 1 = omega arith in rw m
    tell false = let m : (2 * q + 0) % 2 ≡ 0 = omega arith in rw m

-- A bit that was read adds what it weighed.
pub bit_one : (weight byte : ℕ) → one (bit weight byte) ≡ byte / weight % 2
bit_one weight byte = go (bit weight byte) refl
  where
    go : (b : Bool) → bit weight byte ≡ b → one b ≡ byte / weight % 2
    go true e = sym (eqb-true _ _ e)
    go false e = low (byte / weight % 2) (mod-lt (byte / weight) (lit< tt)) (eqb-false (byte / weight % 2) 1 e)
      where
        low : (n : ℕ) → n < 2 → (n ≡ 1 → ⊥) → 0 ≡ n
        low n h k = omega arith

pub flag_bit : (weight byte : ℕ) → flag weight (bit weight byte) ≡ byte / weight % 2 * weight
flag_bit weight byte = flag_one weight (bit weight byte) ∙ ap (λ (n : ℕ). n * weight) (bit_one weight byte)

-- The bit of a weight is what the next weight leaves.
pub next_bit : (byte weight : ℕ) → byte / weight ≡ byte / (weight * 2) * 2 + byte / weight % 2
next_bit byte weight = sym (rw div-div-eq-div-mul at (div-add-mod' (byte / weight) 2))

-- Bits 3 to 6 of a byte.
pub four_bits : (byte : ℕ)
    → byte / 64 % 2 * 64 + byte / 32 % 2 * 32 + byte / 16 % 2 * 16 + byte / 8 % 2 * 8 ≡ byte % 128 / 8 * 8
four_bits byte =
    let a : byte / 8 ≡ byte / 16 * 2 + byte / 8 % 2 = next_bit byte 8 in
    let b : byte / 16 ≡ byte / 32 * 2 + byte / 16 % 2 = next_bit byte 16 in
    let c : byte / 32 ≡ byte / 64 * 2 + byte / 32 % 2 = next_bit byte 32 in
    let d : byte / 64 ≡ byte / 128 * 2 + byte / 64 % 2 = next_bit byte 64 in
    let e : byte % 128 / 8 ≡ byte / 8 - byte / 128 * 16 = omega arith in
    omega arith

-- ---- the rate's two bits

pub bits_most : (r : TimeCodeType) → bits_of r ≤ 3
bits_most Fps24 = omega arith
bits_most Fps25 = omega arith
bits_most Fps30Drop = omega arith
bits_most Fps30 = omega arith

pub rate_bits : (r : TimeCodeType) → rate_at (bits_of r) ≡ r
rate_bits Fps24 = refl
rate_bits Fps25 = refl
rate_bits Fps30Drop = refl
rate_bits Fps30 = refl

pub bits_rate : (n : ℕ) → n < 4 → bits_of (rate_at n) ≡ n
bits_rate n h = go (eqb n 0) (eqb n 1) (eqb n 2) refl refl refl
  where
    go : (a b c : Bool) → eqb n 0 ≡ a → eqb n 1 ≡ b → eqb n 2 ≡ c
        → bits_of (cond a Fps24 (cond b Fps25 (cond c Fps30Drop Fps30))) ≡ n
    go true b c ea eb ec = sym (eqb-true n 0 ea)
    go false true c ea eb ec = sym (eqb-true n 1 eb)
    go false false true ea eb ec = sym (eqb-true n 2 ec)
    go false false false ea eb ec = three (eqb-false n 0 ea) (eqb-false n 1 eb) (eqb-false n 2 ec)
      where
        three : (n ≡ 0 → ⊥) → (n ≡ 1 → ⊥) → (n ≡ 2 → ⊥) → 3 ≡ n
        three x y z = omega arith
