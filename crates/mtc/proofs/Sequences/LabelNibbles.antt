-- Quarter frames: a label's data bytes read as pieces and values, and put together again. Assumes nothing.
use Prim.Native.Nat.{ℕ, ◌+◌, ◌*◌, ◌/◌, ◌%◌, ◌≤◌, ◌<◌}
use mathlib.Core.List.{List, [], ◌∷◌, map}
use mathlib.Core.Path.{◌≡◌, refl, ap₂}
use native.Mathlib.Omega.{arith}
use lib.Dec.{lit<}
use Rattle.mtc.specs.Generator.{first}
use Rattle.mtc.specs.QuarterFrame.{piece_of, value_of, pieces}
use Rattle.mtc.specs.Reader.{raw_of}
use Rattle.mtc.specs.Stream.{in_order}
use Rattle.labels.proofs.Laws.{bits_small}
use Rattle.labels.specs.Time.{bits_of, type_of}
use Rattle.labels.specs.declared.time.MtcTime.{MtcTime}
use Rattle.labels.specs.declared.time.TimeCodeType.{TimeCodeType}
use Rattle.labels.specs.declared.time.TimeCodeType.TheVariants.{Fps24, Fps25, Fps30Drop, Fps30}
use Rattle.mtc.specs.declared.generator.Direction.{Direction}
use Rattle.mtc.specs.declared.generator.Direction.TheVariants.{Forward, Reverse}
use Rattle.mtc.specs.Rp004.{type_code, InWidths}

-- The two bits of a rate are RP-004/008's time code type.
pub bits_code : (r : TimeCodeType) → bits_of r ≡ type_code r
bits_code Fps24 = refl
bits_code Fps25 = refl
bits_code Fps30Drop = refl
bits_code Fps30 = refl

-- ---- a data byte's piece and value

-- A piece with its value.
pub record Nibble : Type 0 where
  pub piece : ℕ
  pub value : ℕ

abbrev pub nibble : ℕ → ℕ → Nibble
nibble p v = record { piece = p; value = v }

abbrev pub split : ℕ → Nibble
split b = nibble (piece_of b) (value_of b)

split_is : (b p v : ℕ) → b ≡ p * 16 + v → p < 8 → v < 16 → split b ≡ nibble p v
split_is b p v e h k =
    let i : piece_of b ≡ p = omega arith in
    let j : value_of b ≡ v = omega arith in
    ap₂ nibble i j

-- Eight values, by piece.
pub record Values : Type 0 where
  pub v0 : ℕ
  pub v1 : ℕ
  pub v2 : ℕ
  pub v3 : ℕ
  pub v4 : ℕ
  pub v5 : ℕ
  pub v6 : ℕ
  pub v7 : ℕ

-- The values with their pieces, in a direction's order: the first one, and the other seven.
abbrev pub first_value : Direction → Values → ℕ
first_value Forward v = v.v0
first_value Reverse v = v.v7

abbrev pub seven : Direction → Values → List Nibble
seven Forward v =
    nibble 1 v.v1
    ∷ nibble 2 v.v2
    ∷ nibble 3 v.v3
    ∷ nibble 4 v.v4
    ∷ nibble 5 v.v5
    ∷ nibble 6 v.v6
    ∷ nibble 7 v.v7
    ∷ []
seven Reverse v =
    nibble 6 v.v6
    ∷ nibble 5 v.v5
    ∷ nibble 4 v.v4
    ∷ nibble 3 v.v3
    ∷ nibble 2 v.v2
    ∷ nibble 1 v.v1
    ∷ nibble 0 v.v0
    ∷ []

abbrev pub nibbles_in_order : Direction → Values → List Nibble
nibbles_in_order d v = nibble (first d) (first_value d v) ∷ seven d v

-- The label that the values make.
abbrev pub listed : Values → List ℕ
listed v = v.v0 ∷ v.v1 ∷ v.v2 ∷ v.v3 ∷ v.v4 ∷ v.v5 ∷ v.v6 ∷ v.v7 ∷ []

abbrev pub assembled : Values → MtcTime
assembled v = raw_of (listed v)

-- A label's values.
abbrev pub values : MtcTime → Values
values t =
    record {
      v0 = t.frames % 16;
      v1 = t.frames / 16 % 2;
      v2 = t.seconds % 16;
      v3 = t.seconds / 16 % 4;
      v4 = t.minutes % 16;
      v5 = t.minutes / 16 % 4;
      v6 = t.hours % 16;
      v7 = bits_of t.rate * 2 + t.hours / 16 % 2;
    }

-- A label's data bytes hold its values.
pub split_pieces : (t : MtcTime) (d : Direction) → map split (in_order d (pieces t)) ≡ nibbles_in_order d (values t)
unfolding pieces
split_pieces t = go
  where
    x0 : split (t.frames % 16) ≡ nibble 0 (values t).v0
    x0 = split_is _ 0 _ (omega arith) (lit< tt) (omega arith)

    x1 : split (0x10 + t.frames / 16 % 2) ≡ nibble 1 (values t).v1
    x1 = split_is _ 1 _ (omega arith) (lit< tt) (omega arith)

    x2 : split (0x20 + t.seconds % 16) ≡ nibble 2 (values t).v2
    x2 = split_is _ 2 _ (omega arith) (lit< tt) (omega arith)

    x3 : split (0x30 + t.seconds / 16 % 4) ≡ nibble 3 (values t).v3
    x3 = split_is _ 3 _ (omega arith) (lit< tt) (omega arith)

    x4 : split (0x40 + t.minutes % 16) ≡ nibble 4 (values t).v4
    x4 = split_is _ 4 _ (omega arith) (lit< tt) (omega arith)

    x5 : split (0x50 + t.minutes / 16 % 4) ≡ nibble 5 (values t).v5
    x5 = split_is _ 5 _ (omega arith) (lit< tt) (omega arith)

    x6 : split (0x60 + t.hours % 16) ≡ nibble 6 (values t).v6
    x6 = split_is _ 6 _ (omega arith) (lit< tt) (omega arith)

    x7 : split (0x70 + bits_of t.rate * 2 + t.hours / 16 % 2) ≡ nibble 7 (values t).v7
    x7 = split_is _ 7 _ (omega arith) (lit< tt) (omega (arith, bits_small t.rate))

    go : (d : Direction) → map split (in_order d (pieces t)) ≡ nibbles_in_order d (values t)
    go Forward = λ i. x0 i ∷ x1 i ∷ x2 i ∷ x3 i ∷ x4 i ∷ x5 i ∷ x6 i ∷ x7 i ∷ []
    go Reverse = λ i. x7 i ∷ x6 i ∷ x5 i ∷ x4 i ∷ x3 i ∷ x2 i ∷ x1 i ∷ x0 i ∷ []

-- ---- put together again

pub type_of_bits : (r : TimeCodeType) → type_of (bits_of r) ≡ r
type_of_bits Fps24 = refl
type_of_bits Fps25 = refl
type_of_bits Fps30Drop = refl
type_of_bits Fps30 = refl

-- The values of a label whose counts fit their widths make that label.
pub raw_values : (t : MtcTime) → InWidths t → assembled (values t) ≡ t
raw_values t w =
    let b : bits_of t.rate ≤ 3 = bits_small t.rate in
    let n : ℕ = t.hours % 16 + (bits_of t.rate * 2 + t.hours / 16 % 2) * 16 in
    let eh : n % 32 ≡ t.hours = omega (arith, w.hours) in
    let er : n / 32 ≡ bits_of t.rate = omega (arith, w.hours) in
    let em : (t.minutes % 16 + t.minutes / 16 % 4 * 16) % 64 ≡ t.minutes = omega (arith, w.minutes) in
    let es : (t.seconds % 16 + t.seconds / 16 % 4 * 16) % 64 ≡ t.seconds = omega (arith, w.seconds) in
    let ef : (t.frames % 16 + t.frames / 16 % 2 * 16) % 32 ≡ t.frames = omega (arith, w.frames) in
    rw (eh, er, em, es, ef, type_of_bits t.rate)

-- ---- one piece of eight
