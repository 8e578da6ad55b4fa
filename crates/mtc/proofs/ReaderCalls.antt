-- The reader: what its proofs cite, a lemma for each way through its code. Assumes nothing.
use Rattle.std.specs.Prelude.{Option, Some, None}
use Prim.Native.Nat.{ℕ, zero, suc, ◌≤◌, ◌<◌}
use mathlib.Core.Bool.{Bool, true, false, ◌&&◌}
use mathlib.Core.List.{List, [], ◌∷◌}
use mathlib.Core.Path.{◌≡◌, refl, sym, ap, ◌∙◌, subst}
use mathlib.Core.Logic.{⊎_elim}
use native.Mathlib.Nat.{eq-or-lt_of_le}
use native.Mathlib.Numerals.{add-one}
use native.Mathlib.Omega.{arith}
use borrow.Author.Tests.{le-leb, eq-eqb, ne_eqb}
use lib.Dec.{T, leb, leb→le, le→leb}
use lib.ListN.{get_or, set, take, length}
use Rattle.mtc.specs.UserBits.{all_nibbles}
use lib.Seq.{take_all}
use Rattle.std.specs.List.{list_all}
use Rattle.std.proofs.lemmas.List.Folds.{list_all_more}
use Rattle.mtc.specs.Generator.{after}
use Rattle.mtc.specs.Reader.{Standing, nibbles_fit, piece_fits, is_sound, or_fresh, fresh, Control, control, direction_between, ordered, out_of_order, order_of, number_of, stored, reader_by_number, report_by_number, event_with, after_piece, report_of}
use Rattle.mtc.specs.declared.generator.Direction.{Direction}
use Rattle.mtc.specs.declared.reader.MtcEvent.{MtcEvent}
use Rattle.mtc.specs.declared.reader.MtcReader.{MtcReader}
use Rattle.universal.specs.Refusals.{Answer, gives}

-- ---- both of two tests

pub both_l : (a b : Bool) → T (a && b) → T a
both_l true b h = tt
both_l false b h = h

pub both_r : (a b : Bool) → T (a && b) → T b
both_r true b h = h
both_r false b h = absurd h

pub both_hold : (a b : Bool) → T a → T b → T (a && b)
both_hold true b h k = k
both_hold false b h k = absurd h

-- ---- nibbles

pub below_suc : {j k : ℕ} → j < suc k → j ≤ k
below_suc h = omega arith

pub nibble_small : (n : List ℕ) (k j : ℕ) → j < k → T (nibbles_fit k n) → get_or n j 0 ≤ 15
unfolding nibbles_fit
nibble_small n zero j h t = absurd (omega arith)
nibble_small n (suc k) j h t =
    ⊎_elim
    (λ e. leb→le (get_or n j 0) 15
    (subst (λ (i : ℕ). T (leb (get_or n i 0) 15)) (sym e) (both_r (nibbles_fit k n) (leb (get_or n k 0) 15) t)))
    (λ l. nibble_small n k j l (both_l (nibbles_fit k n) (leb (get_or n k 0) 15) t))
    (eq-or-lt_of_le (below_suc h))

small_set : (n : List ℕ) (i v j : ℕ) → v ≤ 15 → get_or n j 0 ≤ 15 → get_or (set n i v) j 0 ≤ 15
small_set [] i v j e h = h
small_set (x ∷ n) zero v zero e h = e
small_set (x ∷ n) zero v (suc j) e h = h
small_set (x ∷ n) (suc i) v zero e h = h
small_set (x ∷ n) (suc i) v (suc j) e h = small_set n i v j e h

pub fit_set : (k : ℕ) (n : List ℕ) (i v : ℕ) → T (nibbles_fit k n) → v ≤ 15 → T (nibbles_fit k (set n i v))
unfolding nibbles_fit
fit_set zero n i v h e = tt
fit_set (suc k) n i v h e =
    both_hold (nibbles_fit k (set n i v)) (leb (get_or (set n i v) k 0) 15)
    (fit_set k n i v (both_l (nibbles_fit k n) (leb (get_or n k 0) 15) h) e)
    (le→leb _ 15 (small_set n i v k e (leb→le _ 15 (both_r (nibbles_fit k n) (leb (get_or n k 0) 15) h))))

-- The first so many fit where each of them does.
fit_first : (k : ℕ) (n : List ℕ) → k ≤ length n → list_all (λ v. leb v 15) (take k n) ≡ nibbles_fit k n
unfolding nibbles_fit
fit_first zero n h = refl
fit_first (suc k) n h =
    ap (λ (j : ℕ). list_all (λ v. leb v 15) (take j n)) (sym (add-one k))
    ∙ list_all_more (λ v. leb v 15) n k 0 (omega arith)
    ∙ ap (λ (t : Bool). t && leb (get_or n k 0) 15) (fit_first k n (omega arith))

-- All of eight are the first eight.
pub fit_all : (n : List ℕ) → length n ≡ 8 → all_nibbles n ≡ nibbles_fit 8 n
unfolding all_nibbles
fit_all n h =
    ap (λ (l : List ℕ). list_all (λ v. leb v 15) l) (sym (take_all 8 n (omega arith))) ∙ fit_first 8 n (omega arith)

-- ---- sound records

module _ (r : MtcReader) where
  pub or_fresh_sound : true ≡ is_sound r → (r ≡ or_fresh r) × T (is_sound r)
  unfolding or_fresh
  or_fresh_sound h = (rw (← h), rw (← h) tt)

  pub unsound_fresh : false ≡ is_sound r → (fresh ≡ or_fresh r) × T (is_sound fresh)
  unfolding or_fresh is_sound nibbles_fit
  unsound_fresh h = (rw (← h), tt)

  -- Its four parts, together and apart.
  pub sound : r.count ≤ 7 → r.first ≤ 7 → T (piece_fits r.last) → T (nibbles_fit 8 r.nibbles) → T (is_sound r)
  unfolding is_sound
  sound c f l n = rw (le-leb _ _ c, le-leb _ _ f) (both_hold (piece_fits r.last) (nibbles_fit 8 r.nibbles) l n)

  module _ (h : T (is_sound r)) where
    rest : T (leb r.first 7 && (piece_fits r.last && nibbles_fit 8 r.nibbles))
    unfolding is_sound
    rest = both_r (leb r.count 7) (leb r.first 7 && (piece_fits r.last && nibbles_fit 8 r.nibbles)) h

    last_two : T (piece_fits r.last && nibbles_fit 8 r.nibbles)
    last_two = both_r (leb r.first 7) (piece_fits r.last && nibbles_fit 8 r.nibbles) rest

    pub sound_count : r.count ≤ 7
    unfolding is_sound
    sound_count =
        leb→le r.count 7
        (both_l (leb r.count 7) (leb r.first 7 && (piece_fits r.last && nibbles_fit 8 r.nibbles)) h)

    pub sound_first : r.first ≤ 7
    sound_first = leb→le r.first 7 (both_l (leb r.first 7) (piece_fits r.last && nibbles_fit 8 r.nibbles) rest)

    pub sound_last : {l : ℕ} → r.last ≡ Some l → l ≤ 7
    sound_last {l} e =
        leb→le l 7 (subst (λ (m : Option ℕ). T (piece_fits m)) e (both_l (piece_fits r.last) (nibbles_fit 8 r.nibbles) last_two))

    pub sound_nibbles : T (nibbles_fit 8 r.nibbles)
    sound_nibbles = both_r (piece_fits r.last) (nibbles_fit 8 r.nibbles) last_two

-- ---- how a piece stands to those before it

module _ (r : Control) (p : ℕ) where
  module _ {l : ℕ} (e : r.last ≡ Some l) where
    pub order_second : {f : Option Direction} → f ≡ direction_between l p → r.direction ≡ None → out_of_order r r.direction f ≡ order_of r p
    unfolding order_of
    order_second i g = rw (i, e, g)

    pub order_next : {d : Direction} → r.direction ≡ Some d → after d l ≡ p → ordered true (Some d) true ≡ order_of r p
    unfolding order_of
    order_next g h = rw (e, g, eq-eqb _ _ h)

    pub order_turned : {f : Option Direction} {d : Direction} → f ≡ direction_between l p → r.direction ≡ Some d → (after d l ≡ p → ⊥)
        → out_of_order r (Some d) f ≡ order_of r p
    unfolding order_of
    order_turned i g h = rw (i, e, g, ne_eqb _ _ h)

-- ---- one byte

module _ (r : MtcReader) (p v : ℕ) {o : Standing} {n : ℕ} (eo : o ≡ order_of (control r) p) (en : n ≡ number_of (control r) o p) where
  piece_left : reader_by_number r o n p v ≡ after_piece r p v
  unfolding after_piece
  piece_left = rw (en, eo)

  piece_reported : report_by_number r o n p v ≡ report_of r p v
  unfolding report_of
  piece_reported = rw (en, eo)

  -- A piece that is kept and ends nothing.
  pub keeps : {s : MtcReader} {a : Answer MtcEvent} → (n ≡ 0 → ⊥) → (n ≡ 8 → ⊥) → s ≡ stored r o n p v → a ≡ gives (event_with p None)
      → (s ≡ after_piece r p v) × (a ≡ gives (event_with p (report_of r p v)))
  keeps z w x y =
      (x ∙ rw (← piece_left, ne_eqb n 0 z, ne_eqb n 8 w), y ∙ rw (← piece_reported, ne_eqb n 8 w))

-- ---- a whole sequence
