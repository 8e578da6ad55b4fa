-- The number of data bytes, and bytes without the zeros at their end. Assumes nothing.
use Rattle.std.specs.Int.{bit_at}
use Rattle.std.specs.List.{suffix_len}
use Rattle.std.proofs.Math.Pow.{pow_mono}
use Rattle.std.proofs.lemmas.Nat.{mod_below, pow_pos, pow-add}
use Rattle.std.proofs.lemmas.Nat.Bits.{bit_at_cat_low, bit_at_cat_high, bit_at-zero}
use Rattle.std.proofs.lemmas.Bool.{cases_lt, cases_eq}
use Rattle.std.proofs.lemmas.List.{drop_more}
use Rattle.std.proofs.lemmas.List.FromFn.{fill_by_all}
use Rattle.std.proofs.lemmas.List.Sums.{suffix_len-take_yes, suffix_len-take_no}
use Prim.Native.Nat.{ℕ, suc, ◌+◌, ◌-◌, ◌*◌, ◌/◌, ◌%◌, ◌^◌, ◌<◌, ◌≤◌}
use native.Mathlib.Omega.{arith}
use mathlib.Core.Bool.{false, cond}
use mathlib.Core.List.{List, [], ◌∷◌}
use mathlib.Core.Logic.{inl, inr, ◌⊎◌, ◌≢◌}
use mathlib.Core.Path.{◌≡◌, refl, sym, ap, ◌∙◌}
use lib.ListN.{length, get_or, take, drop, set, length-set, length-drop}
use lib.Seq.{drop-length, take-length, get_or-set_same, get_or-set_other}
use lib.Dec.{eqb}
use borrow.Author.Tests.{eq-eqb, ne_eqb}
use Rattle.tracks.proofs.Numbers.{number_by_bits, bit_of_low}
use Rattle.tracks.proofs.Positions.{bit_by_test}
use Rattle.tracks.specs.Rp013Tracks.{has_bit, position_in_data}
use Rattle.tracks.specs.Tracks.{Positions, as_number, track_byte, nine_bytes, without_end_zeros}

-- The number of data bytes: seven bits of each, the first byte's lowest.
abbrev pub bytes_as_number : List ℕ → ℕ
bytes_as_number [] = 0
bytes_as_number (b ∷ bs) = bytes_as_number bs * 2 ^ 7 + b % 2 ^ 7

value_below : (bs : List ℕ) → bytes_as_number bs < 2 ^ (7 * length bs)
value_below [] = omega arith
value_below (b ∷ bs) =
    let e : 7 * suc (length bs) ≡ 7 * length bs + 7 = omega arith in
    let p : 2 ^ (7 * length bs + 7) ≡ 2 ^ (7 * length bs) * 2 ^ 7 = pow-add 2 (7 * length bs) 7 in
    rw (e, p) (omega (arith, value_below bs, mod_below b (2 ^ 7) (pow_pos 7)))

-- A position of the bytes behind the first.
later_position : (b : ℕ) (bs : List ℕ) (p : ℕ) → 7 ≤ p → position_in_data (b ∷ bs) p ≡ position_in_data bs (p - 7)
unfolding position_in_data
later_position b bs p h =
    let byte : p / 7 ≡ suc ((p - 7) / 7) = omega (arith, h) in
    let bit : p % 7 ≡ (p - 7) % 7 = omega (arith, h) in
    rw (byte, bit)

first_position : (b : ℕ) (bs : List ℕ) (p : ℕ) → p < 7 → position_in_data (b ∷ bs) p ≡ has_bit b p
unfolding position_in_data
first_position b bs p h =
    let byte : p / 7 ≡ 0 = omega (arith, h) in
    let bit : p % 7 ≡ p = omega (arith, h) in
    rw (byte, bit)

pub no_position : (p : ℕ) → position_in_data [] p ≡ false
unfolding position_in_data
no_position p = rw (bit_at-zero (p % 7))

-- Each bit of that number is a position of the bytes.
bit_of_value : (bs : List ℕ) (p : ℕ) → bit_at (bytes_as_number bs) p ≡ cond (position_in_data bs p) 1 0
bit_of_value [] p = rw (no_position p) (bit_at-zero p)
bit_of_value (b ∷ bs) p = go (cases_lt p 7) (bit_of_value bs (p - 7))
  where
    go : (p < 7) ⊎ (7 ≤ p) → bit_at (bytes_as_number bs) (p - 7) ≡ cond (position_in_data bs (p - 7)) 1 0
        → bit_at (bytes_as_number bs * 2 ^ 7 + b % 2 ^ 7) p ≡ cond (position_in_data (b ∷ bs) p) 1 0
    go (inl l) rest =
        rw (first_position b bs p l)
        (bit_at_cat_low (bytes_as_number bs) 7 (b % 2 ^ 7) p l ∙ bit_of_low b 7 p l ∙ bit_by_test b p)
    go (inr g) rest =
        rw (later_position b bs p g)
        (bit_at_cat_high (bytes_as_number bs) 7 (b % 2 ^ 7) p (mod_below b (2 ^ 7) (pow_pos 7)) g ∙ rest)

-- The number of at most nine bytes is that of their positions.
value_lem : (bs : List ℕ) → length bs ≤ 9 → bytes_as_number bs ≡ as_number (position_in_data bs) 63
value_lem bs h =
    let most : 7 * length bs ≤ 63 = omega (arith, h) in
    number_by_bits (position_in_data bs) 63 (bytes_as_number bs) (omega (arith, value_below bs, pow_mono most)) (λ i l. bit_of_value bs i)

-- ---- the loop that reads

-- The number of the bytes from a place on, of at most nine.
pub record ReadFrom (bs : List ℕ) (place n : ℕ) : Type 0 where
  pub few : length bs ≤ 9
  pub inside : place ≤ length bs
  pub value : n ≡ bytes_as_number (drop place bs)

pub read_none : (bs : List ℕ) → length bs ≤ 9 → ReadFrom bs (length bs) 0
read_none bs h = record { few = h; inside = omega arith; value = ap bytes_as_number (sym (drop-length bs)) }

-- One byte more fits where a byte stands before the place.
pub read_room : (bs : List ℕ) (place n : ℕ) → ReadFrom bs place n → 0 < place → n < 2 ^ 56
read_room bs place n r h =
    let most : 7 * length (drop place bs) ≤ 56 = omega (arith, length-drop place bs, r.few, r.inside, h) in
    omega (arith, r.value, value_below (drop place bs), pow_mono most)

pub read_more : (bs : List ℕ) (place n : ℕ) → ReadFrom bs place n → 0 < place
    → ReadFrom bs (place - 1) (n * 128 + get_or bs (place - 1) 0 % 128)
read_more bs place n r h =
    let back : place - 1 + 1 ≡ place = omega (arith, h) in
    let rest = rw back at (drop_more bs (place - 1) 0 (omega (arith, r.inside, h))) in
    record { few = r.few; inside = omega (arith, r.inside); value = rw (rest, sym r.value) refl }

pub read_all : (bs : List ℕ) (n : ℕ) → ReadFrom bs 0 n → n ≡ as_number (position_in_data bs) 63
read_all bs n r = r.value ∙ value_lem bs r.few

-- ---- the loop that makes the bytes

pub record BytesBelow (s : Positions) (place : ℕ) (bs : List ℕ) : Type 0 where
  pub nine : length bs ≡ 9
  pub inside : place ≤ 9
  pub made : (k : ℕ) → k < place → get_or bs k 0 ≡ track_byte s k

pub bytes_made : (s : Positions) (place : ℕ) (bs : List ℕ) → BytesBelow s place bs → 9 ≤ place → bs ≡ nine_bytes s
unfolding nine_bytes
bytes_made s place bs b h = fill_by_all (track_byte s) bs 9 0 b.nine (λ k l. b.made k (omega (arith, l, h)))

pub byte_made : (s : Positions) (place : ℕ) (bs : List ℕ) → BytesBelow s place bs → place < 9
    → BytesBelow s (place + 1) (set bs place (track_byte s place))
byte_made s place bs b h =
    record {
      nine = length-set bs place (track_byte s place) ∙ b.nine;
      inside = omega (arith, h);
      made = λ k l. go k (cases_eq k place) l;
    }
  where
    go : (k : ℕ) → (k ≡ place) ⊎ (k ≡ place → ⊥) → k < place + 1 → get_or (set bs place (track_byte s place)) k 0 ≡ track_byte s k
    go k (inl same) l = rw same (get_or-set_same bs place (track_byte s place) 0 (omega (arith, h, b.nine)))
    go k (inr other) l =
        get_or-set_other bs place k (track_byte s place) 0 other ∙ b.made k (omega (arith, l, other))

-- ---- the loop that leaves out zeros

pub record ZerosFrom (bs : List ℕ) (end : ℕ) : Type 0 where
  pub inside : end ≤ length bs
  pub zeros : suffix_len (λ (b : ℕ). eqb b 0) bs ≡ length bs - end + suffix_len (λ (b : ℕ). eqb b 0) (take end bs)

pub zeros_none : (bs : List ℕ) → ZerosFrom bs (length bs)
zeros_none bs =
    let e : length bs - length bs ≡ 0 = omega arith in
    record { inside = omega arith; zeros = rw (e, take-length bs) (omega arith) }

pub zeros_more : (bs : List ℕ) (end : ℕ) → ZerosFrom bs end → 0 < end → get_or bs (end - 1) 0 ≡ 0 → ZerosFrom bs (end - 1)
zeros_more bs end z h zero_there =
    let more = suffix_len-take_yes (λ (b : ℕ). eqb b 0) bs end 0 h z.inside (eq-eqb (get_or bs (end - 1) 0) 0 zero_there) in
    record { inside = omega (arith, z.inside); zeros = omega (arith, z.zeros, z.inside, h, more) }

-- Where no byte is left, or the last one is no zero, they are all left out.
zeros_all : (bs : List ℕ) (end : ℕ) → ZerosFrom bs end → suffix_len (λ (b : ℕ). eqb b 0) (take end bs) ≡ 0
    → take end bs ≡ without_end_zeros bs
unfolding without_end_zeros
zeros_all bs end z last =
    let e : end ≡ length bs - suffix_len (λ (b : ℕ). eqb b 0) bs = omega (arith, z.zeros, z.inside, last) in
    ap (λ (n : ℕ). take n bs) e

pub zeros_empty : (bs : List ℕ) (end : ℕ) → ZerosFrom bs end → end ≡ 0 → take end bs ≡ without_end_zeros bs
zeros_empty bs end z h = zeros_all bs end z (rw h refl)

pub zeros_stop : (bs : List ℕ) (end : ℕ) → ZerosFrom bs end → 0 < end → get_or bs (end - 1) 0 ≢ 0 → take end bs ≡ without_end_zeros bs
zeros_stop bs end z h other =
    zeros_all bs end z (suffix_len-take_no (λ (b : ℕ). eqb b 0) bs end 0 h z.inside (ne_eqb (get_or bs (end - 1) 0) 0 other))
