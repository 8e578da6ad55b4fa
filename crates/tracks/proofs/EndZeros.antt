-- What bytes without the zeros at their end are: the first n of them, where all later ones are zeros and the last of them is none.
-- Assumes nothing.
use Rattle.std.specs.List.{suffix_len}
use Rattle.std.proofs.lemmas.Bool.{cases_lt}
use Rattle.std.proofs.lemmas.Bool.Decides.{eqb_tells}
use Rattle.std.proofs.lemmas.List.{get_or_past, get_or-take, length-take-le, ext_get_or}
use Rattle.std.proofs.lemmas.List.Sums.{suffix_len_is}
use Prim.Native.Nat.{ℕ, zero, suc, ◌-◌, ◌<◌, ◌≤◌}
use native.Mathlib.Omega.{arith}
use mathlib.Core.Bool.{true, false}
use mathlib.Core.List.{List}
use mathlib.Core.Logic.{inl, inr, ◌⊎◌, ◌≢◌}
use mathlib.Core.Path.{◌≡◌, sym, ap, ◌∙◌}
use lib.ListN.{length, get_or, take}
use lib.Dec.{eqb}
use borrow.Author.Tests.{eq-eqb, ne_eqb}
use Rattle.tracks.specs.Tracks.{without_end_zeros, StaysTo}

-- Every list of bytes has such an end.
end_below : (bs : List ℕ) (k : ℕ) → k ≤ length bs → ((i : ℕ) → k ≤ i → get_or bs i 0 ≡ 0) → (n : ℕ) × StaysTo bs n
end_below bs zero h zeros = (0, record { inside = h; zeros = zeros; last = λ l. absurd (omega (arith, l)) })
end_below bs (suc k) h zeros = go (eqb_tells (get_or bs k 0) 0) (end_below bs k (omega (arith, h)))
  where
    go : ((eqb (get_or bs k 0) 0 ≡ true) × (get_or bs k 0 ≡ 0)) ⊎ ((eqb (get_or bs k 0) 0 ≡ false) × (get_or bs k 0 ≢ 0))
        → (((i : ℕ) → k ≤ i → get_or bs i 0 ≡ 0) → (n : ℕ) × StaysTo bs n) → (n : ℕ) × StaysTo bs n
    go (inl none) lower = lower (λ i l. at i (eqb_tells i k) l)
      where
        at : (i : ℕ) → ((eqb i k ≡ true) × (i ≡ k)) ⊎ ((eqb i k ≡ false) × (i ≢ k)) → k ≤ i → get_or bs i 0 ≡ 0
        at i (inl same) l = rw same.1 none.1
        at i (inr other) l = zeros i (omega (arith, l, other.1))
    go (inr some) lower =
        let e : suc k - 1 ≡ k = omega arith in
        (suc k, record { inside = h; zeros = zeros; last = λ l. rw e some.1 })

pub end_of : (bs : List ℕ) → (n : ℕ) × StaysTo bs n
end_of bs = end_below bs (length bs) (omega arith) (λ i l. get_or_past bs i 0 l)

-- The bytes that stay are those before it.
pub first_stay : (bs : List ℕ) (n : ℕ) → StaysTo bs n → without_end_zeros bs ≡ take n bs
unfolding without_end_zeros
first_stay bs n e =
    let zeros = suffix_len_is (λ (b : ℕ). eqb b 0) bs n 0 e.inside (λ i l g. eq-eqb (get_or bs i 0) 0 (e.zeros i l))
    (λ l. ne_eqb (get_or bs (n - 1) 0) 0 (e.last l))
    in
    let first : length bs - suffix_len (λ (b : ℕ). eqb b 0) bs ≡ n = omega (arith, zeros, e.inside) in
    ap (λ (m : ℕ). take m bs) first

-- Read with zeros behind them they are the same bytes.
pub byte_stays : (bs : List ℕ) (i : ℕ) → get_or (without_end_zeros bs) i 0 ≡ get_or bs i 0
byte_stays bs i = go (end_of bs).0 (end_of bs).1
  where
    go : (n : ℕ) → StaysTo bs n → get_or (without_end_zeros bs) i 0 ≡ get_or bs i 0
    go n e = rw (first_stay bs n e) (at (cases_lt i n))
      where
        at : (i < n) ⊎ (n ≤ i) → get_or (take n bs) i 0 ≡ get_or bs i 0
        at (inl l) = get_or-take n bs i 0 l
        at (inr l) =
            get_or_past (take n bs) i 0 (omega (arith, l, length-take-le n bs e.inside)) ∙ sym (e.zeros i l)

pub fewer_stay : (bs : List ℕ) → length (without_end_zeros bs) ≤ length bs
fewer_stay bs = go (end_of bs).0 (end_of bs).1
  where
    go : (n : ℕ) → StaysTo bs n → length (without_end_zeros bs) ≤ length bs
    go n e = rw (first_stay bs n e) (omega (arith, length-take-le n bs e.inside, e.inside))

-- Bytes that are the same with zeros behind them are the same without the zeros at their end.
pub same_stay : (xs ys : List ℕ) → ((i : ℕ) → get_or xs i 0 ≡ get_or ys i 0) → without_end_zeros xs ≡ without_end_zeros ys
same_stay xs ys same = go (end_of xs).0 (end_of xs).1 (end_of ys).0 (end_of ys).1
  where
    one_end : (n m : ℕ) → StaysTo xs n → StaysTo ys m → n ≡ m
    one_end n m e f = by (cases_lt n m) (cases_lt m n)
      where
        by : (n < m) ⊎ (m ≤ n) → (m < n) ⊎ (n ≤ m) → n ≡ m
        by (inl l) b =
            absurd (f.last (omega (arith, l)) (sym (same (m - 1)) ∙ e.zeros (m - 1) (omega (arith, l))))
        by (inr g) (inl l) = absurd (e.last (omega (arith, l)) (same (n - 1) ∙ f.zeros (n - 1) (omega (arith, l))))
        by (inr g) (inr l) = omega (arith, g, l)

    go : (n : ℕ) → StaysTo xs n → (m : ℕ) → StaysTo ys m → without_end_zeros xs ≡ without_end_zeros ys
    go n e m f =
        let one : n ≡ m = one_end n m e f in
        let there = length-take-le n xs e.inside in
        let here = length-take-le n ys (omega (arith, one, f.inside)) in
        first_stay xs n e
        ∙ ext_get_or 0 (take n xs) (take n ys) (there ∙ sym here)
        (λ i l. get_or-take n xs i 0 (omega (arith, l, there)) ∙ same i ∙ sym (get_or-take n ys i 0 (omega (arith, l, there))))
        ∙ ap (λ (k : ℕ). take k ys) one
        ∙ sym (first_stay ys m f)
