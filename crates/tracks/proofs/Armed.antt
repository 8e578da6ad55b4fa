-- How many tracks are armed, and which is the lowest, by the bits of a number. Assumes nothing.
use Rattle.std.specs.Int.{bit_at, trailing_zeros, w64}
use Rattle.std.specs.Int.Count.{ones}
use Rattle.std.specs.List.{range_with_len, filter}
use Rattle.std.proofs.Common.{rules}
use Rattle.std.proofs.Math.Pow.{pow_mono}
use Rattle.std.proofs.lemmas.Nat.{ones_cat}
use Rattle.std.proofs.lemmas.Nat.Bits.{bit_at-trailing_zeros, bit_at_above, bit_at-zero}
use Rattle.std.proofs.lemmas.Bool.{cases_lt, cases_eq}
use Prim.Native.Nat.{ℕ, zero, suc, ◌+◌, ◌-◌, ◌^◌, ◌<◌, ◌≤◌}
use native.Mathlib.Omega.{arith}
use mathlib.Core.Bool.{Bool, true, false, cond}
use mathlib.Core.List.{List, [], ◌∷◌}
use mathlib.Core.Logic.{inl, inr, ⊎_elim, ◌⊎◌, ◌≢◌}
use mathlib.Core.Path.{◌≡◌, refl, sym, ap, ◌∙◌}
use lib.ListN.{length}
use lib.Dec.{eqb, leb}
use borrow.Author.Tests.{le-leb, leb-true, eq-eqb, ne_eqb}
use Rattle.universal.proofs.Tests.{and_parts, and_all}
use Rattle.tracks.specs.Rp013Tracks.{is_track}
use Rattle.tracks.proofs.Numbers.{number_below, bit_of_number}
use Rattle.tracks.specs.Tracks.{Positions, as_number, armed_tracks, first_of_tracks, IsLowest, NoneArmed, with_position}
use Rattle.universal.specs.Refusals.{gives, refused, refusal}

-- The positions of the tracks, from track 1 on.
abbrev pub from_track_1 : Positions → Positions
from_track_1 s i = s (5 + i)

-- ---- how many

-- One number more of a range is kept or left out by itself.
kept_more : (s : Positions) (a k : ℕ)
    → length (filter s (range_with_len a (suc k))) ≡ length (filter s (range_with_len a k)) + cond (s (a + k)) 1 0
kept_more s a zero =
    let e : a + 0 ≡ a = omega arith in
    rw e (go (s a))
  where
    go : (b : Bool) → length (cond b (a ∷ []) []) ≡ 0 + cond b 1 0
    go true = refl
    go false = refl
kept_more s a (suc k) =
    let e : a + 1 + k ≡ a + suc k = omega arith in
    go (s a) (rw e at (kept_more s (a + 1) k))
  where
    more : List ℕ
    more = filter s (range_with_len (a + 1) (suc k))

    fewer : List ℕ
    fewer = filter s (range_with_len (a + 1) k)

    go : (b : Bool) → length more ≡ length fewer + cond (s (a + suc k)) 1 0
        → length (cond b (a ∷ more) more) ≡ length (cond b (a ∷ fewer) fewer) + cond (s (a + suc k)) 1 0
    go true h = omega (arith, h)
    go false h = h

-- A bit counts itself.
ones_of_bit : (b : Bool) → ones (cond b 1 0) ≡ cond b 1 0
unfolding ones
ones_of_bit true = refl
ones_of_bit false = refl

ones_none : ones 0 ≡ 0
unfolding ones
ones_none = refl

-- As many bits of the number are 1 as there are positions.
ones_of_number : (s : Positions) (k : ℕ) → ones (as_number s k) ≡ length (filter s (range_with_len 0 k))
unfolding as_number
ones_of_number s zero = ones_none
ones_of_number s (suc k) =
    let up = ones_cat k (cond (s k) 1 0) (as_number s k) (number_below s k) in
    let below = ones_of_number s k in
    let more = kept_more s 0 k in
    let e : 0 + k ≡ k = omega arith in
    let bit = ones_of_bit (s k) in
    omega (arith, up, below, rw e at more, bit)

-- The same positions, by their tracks.
same_by_track : (s : Positions) (a k : ℕ) → length (filter (from_track_1 s) (range_with_len a k))
    ≡ length (filter (λ (n : ℕ). s (n + 4)) (range_with_len (a + 1) k))
same_by_track s a zero = refl
same_by_track s a (suc k) =
    let e : a + 1 + 4 ≡ 5 + a = omega arith in
    rw e (go (s (5 + a)) (same_by_track s (a + 1) k))
  where
    places : List ℕ
    places = filter (from_track_1 s) (range_with_len (a + 1) k)

    tracks : List ℕ
    tracks = filter (λ (n : ℕ). s (n + 4)) (range_with_len (a + 1 + 1) k)

    go : (b : Bool) → length places ≡ length tracks → length (cond b (a ∷ places) places) ≡ length (cond b ((a + 1) ∷ tracks) tracks)
    go true h = omega (arith, h)
    go false h = h

-- The armed tracks are as many as the positions of tracks.
pub tracks_counted : (s : Positions) → ones (as_number (from_track_1 s) 58) ≡ length (armed_tracks s)
unfolding armed_tracks
tracks_counted s = ones_of_number (from_track_1 s) 58 ∙ same_by_track s 0 58

-- ---- which is the lowest

-- The first number of a range that passes is the first of those kept.
first_passes : (s : Positions) (a k j : ℕ) → j < k → s (a + j) ≡ true → ((i : ℕ) → i < j → s (a + i) ≡ false)
    → first_of_tracks (filter s (range_with_len a k)) ≡ gives (a + j)
first_passes s a zero j l here before = absurd (omega (arith, l))
first_passes s a (suc k) zero l here before =
    let e : a + 0 ≡ a = omega arith in
    rw (e, rw e at here)
first_passes s a (suc k) (suc j) l here before =
    let e : a + 0 ≡ a = omega arith in
    let first : s a ≡ false = rw e at (before 0 (omega arith)) in
    let on : a + 1 + j ≡ a + suc j = omega arith in
    rw (first, sym on)
    (first_passes s (a + 1) k j (omega (arith, l)) (rw on here)
    (λ i h. let next : a + 1 + i ≡ a + suc i = omega arith in rw next (before (suc i) (omega (arith, h)))))

-- Where no number of a range passes, none is kept.
none_kept : (s : Positions) (a k : ℕ) → ((i : ℕ) → i < k → s (a + i) ≡ false) → filter s (range_with_len a k) ≡ []
none_kept s a zero none = refl
none_kept s a (suc k) none =
    let e : a + 0 ≡ a = omega arith in
    let first : s a ≡ false = rw e at (none 0 (omega arith)) in
    rw first
    (none_kept s (a + 1) k
    (λ i h. let next : a + 1 + i ≡ a + suc i = omega arith in rw next (none (suc i) (omega (arith, h)))))

-- A digit says whether its position is set.
digit_set : (b : Bool) → ◌≡◌ {A = ℕ} (cond b 1 0) 1 → b ≡ true
digit_set true e = refl
digit_set false e = absurd (omega (arith, e))

digit_clear : (b : Bool) → ◌≡◌ {A = ℕ} (cond b 1 0) 0 → b ≡ false
digit_clear true e = absurd (omega (arith, e))
digit_clear false e = refl

-- The lowest of k positions that is set.
record LowestSet (s : Positions) (k j : ℕ) : Type 0 where
  inside : j < k
  here : s j ≡ true
  before : (i : ℕ) → i < j → s i ≡ false

-- A number that is not 0 has its lowest 1 there.
lowest_bit : (s : Positions) (k : ℕ) → k ≤ 64 → as_number s k ≢ 0 → LowestSet s k (trailing_zeros w64 (as_number s k))
lowest_bit s k fits some =
    let wide : as_number s k < 2 ^ 64 = omega (arith, number_below s k, pow_mono fits) in
    let low = bit_at-trailing_zeros w64 (as_number s k) (omega (arith, some)) wide in
    let one : bit_at (as_number s k) (trailing_zeros w64 (as_number s k)) ≡ 1 = low.1 in
    let zeros : (i : ℕ) → i < trailing_zeros w64 (as_number s k) → bit_at (as_number s k) i ≡ 0 = low.2 in
    let within : trailing_zeros w64 (as_number s k) < k =
    ⊎_elim (λ l. l)
    (λ g. absurd (omega (arith, one, bit_at_above (as_number s k) k (trailing_zeros w64 (as_number s k)) (number_below s k) g)))
    (cases_lt (trailing_zeros w64 (as_number s k)) k)
    in
    record {
      inside = within;
      here = digit_set (s (trailing_zeros w64 (as_number s k))) (sym (bit_of_number s k (trailing_zeros w64 (as_number s k)) within) ∙ one);
      before = λ i h. digit_clear (s i) (sym (bit_of_number s k i (omega (arith, h, within))) ∙ zeros i h);
    }

-- ---- by the tracks

-- A track is one above one of the 58 places.
track_place : (n : ℕ) → is_track n ≡ true → (i : ℕ) × (n ≡ 1 + i) × (i < 58)
track_place n h =
    let parts = and_parts (leb 1 n) (leb n 58) h in
    let some : 1 ≤ n = leb-true 1 n parts.0 in
    let few : n ≤ 58 = leb-true n 58 parts.1 in
    (n - 1, omega (arith, some), omega (arith, some, few))

place_track : (i : ℕ) → i < 58 → is_track (1 + i) ≡ true
place_track i l = and_all (leb 1 (1 + i)) (leb (1 + i) 58) (le-leb 1 (1 + i) (omega arith)) (le-leb (1 + i) 58 (omega (arith, l)))

-- The lowest armed track is the first of them.
pub lowest_is : (s : Positions) (n : ℕ) → IsLowest s n → first_of_tracks (armed_tracks s) ≡ gives n
unfolding armed_tracks
lowest_is s n low =
    let at = track_place n low.one_of_58 in
    rw at.1
    (first_passes (λ (m : ℕ). s (m + 4)) 1 58 at.0 at.2 (rw at.1 at low.armed)
    (λ i l. low.none_below (1 + i) (place_track i (omega (arith, l, at.2))) (omega (arith, l, at.1))))

-- Where none is armed there is no first.
pub none_is : (s : Positions) → NoneArmed s → first_of_tracks (armed_tracks s) ≡ refused (refusal 12)
unfolding armed_tracks
none_is s none = ap first_of_tracks (none_kept (λ (m : ℕ). s (m + 4)) 1 58 (λ i l. none (1 + i) (place_track i l)))

-- ---- by the bits

-- Where the number of the tracks is not 0, its lowest 1 is the lowest armed track.
lowest_there : (s : Positions) → as_number (from_track_1 s) 58 ≢ 0 → IsLowest s (trailing_zeros w64 (as_number (from_track_1 s) 58) + 1)
lowest_there s some = go (trailing_zeros w64 (as_number (from_track_1 s) 58)) (lowest_bit (from_track_1 s) 58 (search rules) some)
  where
    go : (j : ℕ) → LowestSet (from_track_1 s) 58 j → IsLowest s (j + 1)
    go j low =
        let one : 1 + j ≡ j + 1 = omega arith in
        let here : j + 1 + 4 ≡ 5 + j = omega arith in
        record {
          one_of_58 = rw one at (place_track j low.inside);
          armed = rw here low.here;
          none_below = λ m t l.
              let at = track_place m t in
              let there : 1 + at.0 + 4 ≡ 5 + at.0 = omega arith in
              rw (at.1, there) (low.before at.0 (omega (arith, l, at.1)));
        }

-- Where it is 0, none is armed.
none_there : (s : Positions) → as_number (from_track_1 s) 58 ≡ 0 → NoneArmed s
none_there s none m t = not_here (track_place m t)
  where
    not_here : (i : ℕ) × (m ≡ 1 + i) × (i < 58) → s (m + 4) ≡ false
    not_here at =
        let there : 1 + at.0 + 4 ≡ 5 + at.0 = omega arith in
        rw (at.1, there)
        (digit_clear (s (5 + at.0))
        (sym (bit_of_number (from_track_1 s) 58 at.0 at.2) ∙ ap (λ (n : ℕ). bit_at n at.0) none ∙ bit_at-zero at.0))

-- So one of the two is so.
pub lowest_or_none : (s : Positions) → ((n : ℕ) × IsLowest s n) ⊎ NoneArmed s
lowest_or_none s = go (cases_eq (as_number (from_track_1 s) 58) 0)
  where
    go : (as_number (from_track_1 s) 58 ≡ 0) ⊎ (as_number (from_track_1 s) 58 ≡ 0 → ⊥) → ((n : ℕ) × IsLowest s n) ⊎ NoneArmed s
    go (inl none) = inr (none_there s none)
    go (inr some) = inl (trailing_zeros w64 (as_number (from_track_1 s) 58) + 1, lowest_there s some)

-- What the code answers.
pub lowest_found : (s : Positions) → as_number (from_track_1 s) 58 ≢ 0
    → gives (trailing_zeros w64 (as_number (from_track_1 s) 58) + 1) ≡ first_of_tracks (armed_tracks s)
lowest_found s some = sym (lowest_is s (trailing_zeros w64 (as_number (from_track_1 s) 58) + 1) (lowest_there s some))

pub none_lowest : (s : Positions) → as_number (from_track_1 s) 58 ≡ 0 → refused (refusal 12) ≡ first_of_tracks (armed_tracks s)
none_lowest s none = sym (none_is s (none_there s none))

-- ---- one after another

-- Two tests that agree on a range keep the same of it.
pub kept_same : (s t : Positions) (a k : ℕ) → ((i : ℕ) → a ≤ i → i < a + k → s i ≡ t i)
    → filter s (range_with_len a k) ≡ filter t (range_with_len a k)
kept_same s t a zero same = refl
kept_same s t a (suc k) same =
    rw (same a (omega arith) (omega arith), kept_same s t (a + 1) k (λ i l h. same i (omega (arith, l)) (omega (arith, h))))

both_false : (b : Bool) → cond b false false ≡ false
both_false true = refl
both_false false = refl

-- Without the first that is kept, those behind it are kept.
kept_rest : (s : Positions) (a k n : ℕ) (ns : List ℕ) → filter s (range_with_len a k) ≡ n ∷ ns
    → filter (λ (x : ℕ). cond (eqb (x + 4) (n + 4)) false (s x)) (range_with_len a k) ≡ ns
kept_rest s a zero n ns h = absurd (let z : ◌≡◌ {A = ℕ} 0 (suc (length ns)) = ap length h in omega (arith, z))
kept_rest s a (suc k) n ns h = go (s a) refl h (kept_rest s (a + 1) k n ns)
  where
    rest : List ℕ
    rest = range_with_len (a + 1) k

    go : (b : Bool) → s a ≡ b → cond b (a ∷ filter s rest) (filter s rest) ≡ n ∷ ns
        → (filter s rest ≡ n ∷ ns → filter (λ (x : ℕ). cond (eqb (x + 4) (n + 4)) false (s x)) rest ≡ ns)
        → cond (cond (eqb (a + 4) (n + 4)) false (s a)) (a ∷ filter (λ (x : ℕ). cond (eqb (x + 4) (n + 4)) false (s x)) rest)
        (filter (λ (x : ℕ). cond (eqb (x + 4) (n + 4)) false (s x)) rest)
        ≡ ns
    go true e q later =
        let first : a ≡ n = cc in
        let behind : filter s rest ≡ ns = cc in
        let here : eqb (a + 4) (n + 4) ≡ true = eq-eqb (a + 4) (n + 4) (ap (λ (m : ℕ). m + 4) first) in
        rw here
        (kept_same (λ (x : ℕ). cond (eqb (x + 4) (n + 4)) false (s x)) s (a + 1) k
        (λ i l h. let past : eqb (i + 4) (n + 4) ≡ false = ne_eqb (i + 4) (n + 4) (λ z. omega (arith, z, l, first)) in rw past)
        ∙ behind)
    go false e q later = rw (e, both_false (eqb (a + 4) (n + 4))) (later q)

-- So it is with the armed tracks, when the lowest is disarmed.
pub rest_armed : (s : Positions) (n : ℕ) (ns : List ℕ) → armed_tracks s ≡ n ∷ ns → armed_tracks (with_position (n + 4) false s) ≡ ns
unfolding armed_tracks
rest_armed s n ns h = kept_rest (λ (m : ℕ). s (m + 4)) 1 58 n ns h
