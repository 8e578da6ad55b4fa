-- A piece that is not the next one of a sequence, by the words: what the stores of each way through `receive` leave is the plain
-- reader's. Assumes nothing.
use Rattle.std.specs.Prelude.{Option, Some, None}
use Prim.Native.Nat.{ℕ, ◌+◌, ◌*◌, ◌%◌, ◌≤◌, ◌<◌}
use mathlib.Core.Bool.{true, false}
use mathlib.Core.List.{List}
use mathlib.Core.Path.{◌≡◌, refl, sym, subst, ap, ◌∙◌}
use native.Mathlib.Omega.{arith}
use borrow.Author.Tests.{eq-eqb, ne_eqb, lt-ltb, le-ltb}
use lib.Dec.{lit<}
use lib.ListN.{length, get_or, set, length-set}
use Rattle.mtc.proofs.Laws.{as_is}
use Rattle.mtc.specs.Generator.{first, after, final, opposite}
use Rattle.mtc.specs.QuarterFrame.{piece_of, value_of}
use Rattle.mtc.specs.Reader.{control, ordered, order_after, starts, number_after, stored, reader_by_number, event_with, informed, after_full_message}
use Rattle.mtc.specs.declared.generator.Direction.{Direction}
use Rattle.mtc.specs.declared.generator.Direction.TheVariants.{Forward, Reverse}
use Rattle.mtc.specs.declared.reader.MtcReader.{MtcReader}
use Rattle.labels.specs.Time.{bits_of}
use Rattle.labels.specs.declared.time.MtcTime.{MtcTime}
use Rattle.fast_mtc.specs.Clauses.{Received, FirstKept, PassedPiece, StoppedOrder, InSequence, OutOfSequence, order_in, order_out, order_begun, passing}
use Rattle.fast_mtc.specs.Reader.{way_in, last_in, count_in, first_in, nibbles_in, label_in, time_in, reader_in, flat_event}
use Rattle.fast_mtc.proofs.LabelWords.{marked}
use Rattle.fast_mtc.proofs.Orders.{after_first, stands_inside, stands_outside, stands_begun, inside_small, outside_small, standing_none, order_first_small}
use Rattle.fast_mtc.proofs.ReceivedPieces.{Alike, next_words, words_pass, words_kept, stand_in, count_at, own_order, sound_in}
use Rattle.fast_mtc.proofs.SpelledLists.{spelled, by_words, piece_cases}

-- ---- a piece in the direction that it leaves

abbrev FirstInWord : List ℕ → Type 0
FirstInWord ws = first_in (get_or ws 8 0) (get_or ws 9 0) ≡ get_or ws 9 0 % 8

-- The order x after a piece that belongs to no sequence.
abbrev Passes : Option Direction → ℕ → ℕ → List ℕ → ℕ → Type 0
Passes d x p ws v = FirstInWord ws → reader_in (set ws 8 x) ≡ reader_by_number (reader_in ws) (ordered false d true) (number_after 0 (starts d p)) p (v % 16)

-- The order x after one that begins a sequence.
abbrev Begins : Option Direction → ℕ → ℕ → List ℕ → ℕ → Type 0
Begins d x p ws v = reader_in (set (set ws p v) 8 x) ≡ reader_by_number (reader_in ws) (ordered false d true) (number_after 0 (starts d p)) p (v % 16)

passes : (d : Direction) (ws : List ℕ) (v p : ℕ) → length ws ≡ 15 → p ≤ 7 → (p ≡ first d → ⊥) → Passes (Some d) (order_out d (after d p)) p ws v
unfolding reader_in nibbles_in way_in last_in count_in first_in
passes Forward ws v p e =
    by_words (λ (l : List ℕ). p ≤ 7 → (p ≡ 0 → ⊥) → Passes (Some Forward) (order_out Forward (after Forward p)) p l v) ws e
    (piece_cases (λ (k : ℕ). (k ≡ 0 → ⊥) → Passes (Some Forward) (order_out Forward (after Forward k)) k (spelled 15 ws) v) (λ z. absurd (z refl))
    (λ z h. rw h) (λ z h. rw h) (λ z h. rw h) (λ z h. rw h) (λ z h. rw h) (λ z h. rw h) (λ z h. rw h) p)
passes Reverse ws v p e =
    by_words (λ (l : List ℕ). p ≤ 7 → (p ≡ 7 → ⊥) → Passes (Some Reverse) (order_out Reverse (after Reverse p)) p l v) ws e
    (piece_cases (λ (k : ℕ). (k ≡ 7 → ⊥) → Passes (Some Reverse) (order_out Reverse (after Reverse k)) k (spelled 15 ws) v) (λ z h. rw h)
    (λ z h. rw h) (λ z h. rw h) (λ z h. rw h) (λ z h. rw h) (λ z h. rw h) (λ z h. rw h) (λ z. absurd (z refl)) p)

none_passes : (ws : List ℕ) (v p : ℕ) → length ws ≡ 15 → p ≤ 7 → (p ≡ 0 → ⊥) → (p ≡ 7 → ⊥) → Passes None (32 + p) p ws v
unfolding reader_in nibbles_in way_in last_in count_in first_in
none_passes ws v p e =
    by_words (λ (l : List ℕ). p ≤ 7 → (p ≡ 0 → ⊥) → (p ≡ 7 → ⊥) → Passes None (32 + p) p l v) ws e
    (piece_cases (λ (k : ℕ). (k ≡ 0 → ⊥) → (k ≡ 7 → ⊥) → Passes None (32 + k) k (spelled 15 ws) v) (λ z. absurd (z refl)) (λ y z h. rw h)
    (λ y z h. rw h) (λ y z h. rw h) (λ y z h. rw h) (λ y z h. rw h) (λ y z h. rw h) (λ y z. absurd (z refl)) p)

way_begins : (d : Direction) (ws : List ℕ) (v : ℕ) → length ws ≡ 15 → Begins (Some d) (order_in d (after d (first d))) (first d) ws v
unfolding reader_in nibbles_in way_in last_in count_in first_in
way_begins Forward ws v e = by_words (λ (l : List ℕ). Begins (Some Forward) 1 0 l v) ws e refl
way_begins Reverse ws v e = by_words (λ (l : List ℕ). Begins (Some Reverse) 14 7 l v) ws e refl

none_begins_0 : (ws : List ℕ) (v : ℕ) → length ws ≡ 15 → Begins None 40 0 ws v
unfolding reader_in nibbles_in way_in last_in count_in first_in
none_begins_0 ws v e = by_words (λ (l : List ℕ). Begins None 40 0 l v) ws e refl

none_begins_7 : (ws : List ℕ) (v : ℕ) → length ws ≡ 15 → Begins None 41 7 ws v
unfolding reader_in nibbles_in way_in last_in count_in first_in
none_begins_7 ws v e = by_words (λ (l : List ℕ). Begins None 41 7 l v) ws e refl

-- As the code leaves it.
module _ (ws : List ℕ) (b p x : ℕ) where
  pub way_passed : (d : Direction) → p ≤ 7 → FirstKept ws → (p ≡ first d → ⊥) → x ≡ flat_event (event_with p None)
      → PassedPiece (Some d) ws p (value_of b) x (set ws 8 (order_out d (after d p)))
  way_passed d h k z ex = record { event = ex; reader = passes d ws b p k.words h z k.first }

  pub way_begun : (d : Direction) → FirstKept ws → p ≡ first d → x ≡ flat_event (event_with p None)
      → PassedPiece (Some d) ws p (value_of b) x (next_words d ws b p)
  way_begun d k z ex =
      record {
        event = ex;
        reader = subst (λ (q : ℕ). Begins (Some d) (order_in d (after d q)) q ws b) (sym z) (way_begins d ws b k.words);
      }

  pub none_passed : p ≤ 7 → FirstKept ws → (p ≡ 0 → ⊥) → (p ≡ 7 → ⊥) → x ≡ flat_event (event_with p None)
      → PassedPiece None ws p (value_of b) x (set ws 8 (32 + p))
  none_passed h k y z ex = record { event = ex; reader = none_passes ws b p k.words h y z k.first }

  pub none_begun_0 : FirstKept ws → p ≡ 0 → x ≡ flat_event (event_with 0 None)
      → PassedPiece None ws p (value_of b) x (set (set ws 0 b) 8 40)
  none_begun_0 k z ex = rw z (record { event = ex; reader = none_begins_0 ws b k.words })

  pub none_begun_7 : FirstKept ws → p ≡ 7 → x ≡ flat_event (event_with 7 None)
      → PassedPiece None ws p (value_of b) x (set (set ws 7 b) 8 41)
  none_begun_7 k z ex = rw z (record { event = ex; reader = none_begins_7 ws b k.words })

-- ---- what the stores before it leave

alike_same : (ws : List ℕ) → Alike true (reader_in ws) (reader_in ws)
alike_same ws = record { nibbles = refl; first = refl; locked = refl; previous = refl; time = refl }

alike_unlocked : (ws : List ℕ) → length ws ≡ 15 → Alike false (reader_in (set ws 10 0)) (reader_in ws)
unfolding reader_in nibbles_in
alike_unlocked ws e =
    by_words (λ (l : List ℕ). Alike false (reader_in (set l 10 0)) (reader_in l)) ws e
    (record { nibbles = refl; first = refl; locked = refl; previous = refl; time = refl })

-- With another first piece in its word, where the order knows it.
alike_first : (ws : List ℕ) (f : ℕ) → length ws ≡ 15 → first_in (get_or ws 8 0) f ≡ first_in (get_or ws 8 0) (get_or ws 9 0)
    → Alike true (reader_in (set ws 9 f)) (reader_in ws)
unfolding reader_in nibbles_in
alike_first ws f e =
    by_words (λ (l : List ℕ). first_in (get_or l 8 0) f ≡ first_in (get_or l 8 0) (get_or l 9 0) → Alike true (reader_in (set l 9 f)) (reader_in l)) ws e
    (λ h. record { nibbles = refl; first = h; locked = refl; previous = refl; time = refl })

alike_both : (ws : List ℕ) (f : ℕ) → length ws ≡ 15 → first_in (get_or ws 8 0) f ≡ first_in (get_or ws 8 0) (get_or ws 9 0)
    → Alike false (reader_in (set (set ws 9 f) 10 0)) (reader_in ws)
unfolding reader_in nibbles_in
alike_both ws f e =
    by_words (λ (l : List ℕ). first_in (get_or l 8 0) f ≡ first_in (get_or l 8 0) (get_or l 9 0) → Alike false (reader_in (set (set l 9 f) 10 0)) (reader_in l)) ws e
    (λ h. record { nibbles = refl; first = h; locked = refl; previous = refl; time = refl })

-- ---- the first piece in its word

first_inside : (d : Direction) (k f : ℕ) → InSequence d k → first_in k f ≡ first d
unfolding first_in
first_inside Forward k f h = rw (lt-ltb k 8 h)
first_inside Reverse k f h = rw (le-ltb k 8 h.0, lt-ltb k 16 h.1)

first_begun : (d : Direction) (k f : ℕ) → k ≡ order_begun d → first_in k f ≡ first d
unfolding first_in
first_begun Forward k f h = rw h
first_begun Reverse k f h = rw h

first_low : (d : Direction) → first d ≡ first d % 8
first_low Forward = refl
first_low Reverse = refl

first_outside : (k f : ℕ) → 16 ≤ k → (k ≡ 40 → ⊥) → (k ≡ 41 → ⊥) → first_in k f ≡ f % 8
unfolding first_in
first_outside k f h y z = rw (le-ltb k 8 (omega arith), le-ltb k 16 h, ne_eqb k 40 y, ne_eqb k 41 z)

-- After a store of the lock, of the first piece, and of both.
module _ (ws : List ℕ) (e : length ws ≡ 15) where
  pub kept_as_is : 16 ≤ get_or ws 8 0 → (get_or ws 8 0 ≡ 40 → ⊥) → (get_or ws 8 0 ≡ 41 → ⊥) → FirstKept ws
  kept_as_is h y z = record { first = first_outside (get_or ws 8 0) (get_or ws 9 0) h y z; words = e }

  pub kept_unlocked : FirstKept ws → FirstKept (set ws 10 0)
  kept_unlocked h =
      record {
        first = by_words (λ (l : List ℕ). FirstInWord l → FirstInWord (set l 10 0)) ws e (λ x. x) h.first;
        words = length-set ws 10 0 ∙ e;
      }

  pub kept_outside : (d : Direction) → OutOfSequence d (get_or ws 8 0) → FirstKept ws
  kept_outside d h =
      let l = outside_small d h in
      kept_as_is l.0 (λ x. let y : get_or ws 8 0 ≡ 40 = x in omega (arith, l.1)) (λ x. let y : get_or ws 8 0 ≡ 41 = x in omega (arith, l.1))

  pub kept_undirected : 32 ≤ get_or ws 8 0 → get_or ws 8 0 < 40 → FirstKept ws
  kept_undirected h l = kept_as_is (omega arith) (λ x. let y : get_or ws 8 0 ≡ 40 = x in omega arith) (λ x. let y : get_or ws 8 0 ≡ 41 = x in omega arith)

  pub kept_none : 42 ≤ get_or ws 8 0 → FirstKept ws
  kept_none h = kept_as_is (omega arith) (λ x. let y : get_or ws 8 0 ≡ 40 = x in omega arith) (λ x. let y : get_or ws 8 0 ≡ 41 = x in omega arith)

  kept_first : (f : ℕ) → first_in (get_or ws 8 0) f ≡ f % 8 → FirstKept (set ws 9 f)
  kept_first f h =
      record {
        first = by_words (λ (l : List ℕ). first_in (get_or l 8 0) f ≡ f % 8 → FirstInWord (set l 9 f)) ws e (λ x. x) h;
        words = length-set ws 9 f ∙ e;
      }

  kept_both : (f : ℕ) → first_in (get_or ws 8 0) f ≡ f % 8 → FirstKept (set (set ws 9 f) 10 0)
  kept_both f h =
      record {
        first = by_words (λ (l : List ℕ). first_in (get_or l 8 0) f ≡ f % 8 → FirstInWord (set (set l 9 f) 10 0)) ws e (λ x. x) h;
        words = length-set (set ws 9 f) 10 0 ∙ length-set ws 9 f ∙ e;
      }

  pub kept_inside : (d : Direction) → InSequence d (get_or ws 8 0) → FirstKept (set (set ws 9 (first d)) 10 0)
  kept_inside d h = kept_both (first d) (first_inside d (get_or ws 8 0) (first d) h ∙ first_low d)

  pub kept_begun : (d : Direction) → get_or ws 8 0 ≡ order_begun d → FirstKept (set ws 9 (first d)) × FirstKept (set (set ws 9 (first d)) 10 0)
  kept_begun d h =
      let x = first_begun d (get_or ws 8 0) (first d) h ∙ first_low d in
      (kept_first (first d) x, kept_both (first d) x)

pub below_40 : (k : ℕ) → k < 42 → (k ≡ 40 → ⊥) → (k ≡ 41 → ⊥) → k < 40
below_40 k h y z = omega (arith, y, z)

-- ---- the ways through `receive`

count_outside : (ws : List ℕ) → 16 ≤ get_or ws 8 0 → get_or ws 8 0 < 40 → (reader_in ws).count ≡ 0
unfolding count_in
count_outside ws h l =
    let k : ℕ = get_or ws 8 0 in
    count_at ws ∙ rw (le-ltb k 8 (omega arith), le-ltb k 16 h, ne_eqb k 40 (λ x. let y : k ≡ 40 = x in omega arith), ne_eqb k 41 (λ x. let y : k ≡ 41 = x in omega arith))

module _ (ws : List ℕ) (b x : ℕ) (left : List ℕ) (e : length ws ≡ 15) where
  abbrev k : ℕ
  k = get_or ws 8 0

  abbrev p : ℕ
  p = piece_of b

  module _ (d : Direction) where
    -- A sequence, broken off.
    pub broken_off : InSequence d k → (k ≡ order_in d p → ⊥) → PassedPiece (passing d k p) (set (set ws 9 (first d)) 10 0) p (value_of b) x left → Received ws b x left
    broken_off h z =
        words_pass ws (set (set ws 9 (first d)) 10 0) left b x false false (passing d k p)
        (stand_in ws b (omega (arith, inside_small d h)) ∙ stands_inside d k p h ∙ rw (ne_eqb k (order_in d p) z)) refl
        (alike_both ws (first d) e (first_inside d k (first d) h ∙ sym (first_inside d k (get_or ws 9 0) h)))

    -- In no sequence.
    module _ (h : OutOfSequence d k) where
      few : k < 42
      few = omega (arith, (outside_small d h).1)

      pub outside_on : k ≡ order_out d p → PassedPiece (Some d) ws p (value_of b) x left → Received ws b x left
      outside_on t =
          words_pass ws ws left b x true true (Some d)
          (stand_in ws b few ∙ stands_outside d k p h ∙ rw (eq-eqb k (order_out d p) t))
          (count_outside ws (outside_small d h).0 (omega (arith, (outside_small d h).1))) (alike_same ws)

      pub outside_off : (k ≡ order_out d p → ⊥) → PassedPiece (passing d k p) (set ws 10 0) p (value_of b) x left → Received ws b x left
      outside_off z =
          words_pass ws (set ws 10 0) left b x false false (passing d k p)
          (stand_in ws b few ∙ stands_outside d k p h ∙ rw (ne_eqb k (order_out d p) z)) refl (alike_unlocked ws e)

    -- After its first piece alone.
    module _ (h : k ≡ order_begun d) where
      begun_stands : order_after (control (reader_in ws)) (reader_in ws).last (reader_in ws).direction p ≡ after_first d p
      begun_stands = stand_in ws b (rw h (begun_small d)) ∙ rw h (stands_begun d p)
        where
          begun_small : (d : Direction) → order_begun d < 42
          begun_small Forward = lit< tt
          begun_small Reverse = lit< tt

      same_first : first_in k (first d) ≡ first_in k (get_or ws 9 0)
      same_first = first_begun d k (first d) h ∙ sym (first_begun d k (get_or ws 9 0) h)

      pub begun_turned : (p ≡ after d (first d) → ⊥) → p ≡ final d → PassedPiece (Some (opposite d)) (set ws 9 (first d)) p (value_of b) x left → Received ws b x left
      begun_turned z t =
          words_pass ws (set ws 9 (first d)) left b x false true (Some (opposite d))
          (begun_stands ∙ rw (ne_eqb p (after d (first d)) z, eq-eqb p (final d) t)) refl (alike_first ws (first d) e same_first)

      pub begun_apart : (p ≡ after d (first d) → ⊥) → (p ≡ final d → ⊥) → PassedPiece None (set (set ws 9 (first d)) 10 0) p (value_of b) x left
          → Received ws b x left
      begun_apart z t =
          words_pass ws (set (set ws 9 (first d)) 10 0) left b x false false None
          (begun_stands ∙ rw (ne_eqb p (after d (first d)) z, ne_eqb p (final d) t)) refl (alike_both ws (first d) e same_first)

  -- No direction, in no sequence.
  module _ (h : 32 ≤ k) (l : k < 40) where
    pub second_forward : (k + 1) % 8 ≡ p → PassedPiece (Some Forward) ws p (value_of b) x left → Received ws b x left
    second_forward t =
        words_pass ws ws left b x false true (Some Forward)
        (stand_in ws b (omega arith) ∙ rw (le-ltb k 8 (omega arith), le-ltb k 16 (omega arith), le-ltb k 24 (omega arith), le-ltb k 32 h, lt-ltb k 40 l, eq-eqb ((k + 1) % 8) p t)) refl (alike_same ws)

    pub second_reverse : ((k + 1) % 8 ≡ p → ⊥) → (k + 7) % 8 ≡ p → PassedPiece (Some Reverse) ws p (value_of b) x left → Received ws b x left
    second_reverse z t =
        words_pass ws ws left b x false true (Some Reverse)
        (stand_in ws b (omega arith) ∙ rw (le-ltb k 8 (omega arith), le-ltb k 16 (omega arith), le-ltb k 24 (omega arith), le-ltb k 32 h, lt-ltb k 40 l, ne_eqb ((k + 1) % 8) p z, eq-eqb ((k + 7) % 8) p t)) refl (alike_same ws)

    pub second_apart : ((k + 1) % 8 ≡ p → ⊥) → ((k + 7) % 8 ≡ p → ⊥) → PassedPiece None (set ws 10 0) p (value_of b) x left → Received ws b x left
    second_apart z t =
        words_pass ws (set ws 10 0) left b x false false None
        (stand_in ws b (omega arith) ∙ rw (le-ltb k 8 (omega arith), le-ltb k 16 (omega arith), le-ltb k 24 (omega arith), le-ltb k 32 h, lt-ltb k 40 l, ne_eqb ((k + 1) % 8) p z, ne_eqb ((k + 7) % 8) p t)) refl (alike_unlocked ws e)

-- No piece before.
none_in : (ws : List ℕ) (b : ℕ) → 42 ≤ get_or ws 8 0
    → order_after (control (reader_in ws)) (reader_in ws).last (reader_in ws).direction (piece_of b) ≡ ordered false (way_in (get_or ws 8 0)) true
unfolding reader_in
none_in ws b h = standing_none (get_or ws 8 0) (piece_of b) (get_or ws 9 0) h

pub first_of_all : (ws : List ℕ) (b x : ℕ) (left : List ℕ) (d : Option Direction) → 42 ≤ get_or ws 8 0 → way_in (get_or ws 8 0) ≡ d
    → PassedPiece d ws (piece_of b) (value_of b) x left → Received ws b x left
first_of_all ws b x left d h ed =
    words_pass ws ws left b x false true d (none_in ws b h ∙ ap (λ (w : Option Direction). ordered false w true) ed) refl (alike_same ws)

pub way_forward : (k : ℕ) → k ≡ 42 → way_in k ≡ Some Forward
unfolding way_in
way_forward k h = rw h

pub way_reverse : (k : ℕ) → k ≡ 43 → way_in k ≡ Some Reverse
unfolding way_in
way_reverse k h = rw h

pub way_none : (k : ℕ) → 42 ≤ k → (k ≡ 42 → ⊥) → (k ≡ 43 → ⊥) → way_in k ≡ None
unfolding way_in
way_none k h y z =
    rw (le-ltb k 8 (omega arith), le-ltb k 16 (omega arith), le-ltb k 24 (omega arith), le-ltb k 32 (omega arith), ne_eqb k 42 y, ne_eqb k 43 z)

-- The second piece of a sequence goes on.
second : (d : Direction) (ws : List ℕ) (v : ℕ) → length ws ≡ 15
    → reader_in (next_words d (set ws 8 (order_begun d)) v (after d (first d)))
    ≡ stored (reader_in (set ws 8 (order_begun d))) (ordered true (Some d) true) 2 (after d (first d)) (v % 16)
unfolding reader_in nibbles_in way_in last_in count_in first_in
second Forward ws v e =
    by_words (λ (l : List ℕ). reader_in (next_words Forward (set l 8 40) v 1) ≡ stored (reader_in (set l 8 40)) (ordered true (Some Forward) true) 2 1 (v % 16)) ws e refl
second Reverse ws v e =
    by_words (λ (l : List ℕ). reader_in (next_words Reverse (set l 8 41) v 6) ≡ stored (reader_in (set l 8 41)) (ordered true (Some Reverse) true) 2 6 (v % 16)) ws e refl

begun_count : (d : Direction) → count_in (order_begun d) ≡ 1
unfolding count_in
begun_count Forward = refl
begun_count Reverse = refl

pub begun_on : (d : Direction) (ws : List ℕ) (b x : ℕ) → length ws ≡ 15 → get_or ws 8 0 ≡ order_begun d → piece_of b ≡ after d (first d)
    → x ≡ flat_event (event_with (piece_of b) None) → Received ws b x (next_words d ws b (piece_of b))
begun_on d ws b x e h t =
    words_kept ws b e (ordered true (Some d) true) 2 x (next_words d ws b (piece_of b)) (λ z. let y : ◌≡◌ {A = ℕ} 2 0 = z in omega arith) (λ z. let y : ◌≡◌ {A = ℕ} 2 8 = z in omega arith)
    (begun_stands ws b x ws e d h ∙ rw (eq-eqb (piece_of b) (after d (first d)) t)) (rw (count_at ws, h, begun_count d))
    (subst (λ (q : ℕ). reader_in (next_words d ws b q) ≡ stored (reader_in ws) (ordered true (Some d) true) 2 q (value_of b)) (sym t)
    (subst (λ (l : List ℕ). reader_in (next_words d l b (after d (first d))) ≡ stored (reader_in l) (ordered true (Some d) true) 2 (after d (first d)) (value_of b)) (own_order ws (order_begun d) e h) (second d ws b e)))

-- ---- a full message

module _ (k : ℕ) where
  pub stopped_none : way_in k ≡ None → StoppedOrder k 44
  unfolding way_in last_in count_in first_in
  stopped_none h = record { direction = sym h; last = refl; count = refl; first = λ f. refl; running = refl }

  pub stopped_forward : way_in k ≡ Some Forward → StoppedOrder k 42
  unfolding way_in last_in count_in first_in
  stopped_forward h = record { direction = sym h; last = refl; count = refl; first = λ f. refl; running = refl }

  pub stopped_reverse : way_in k ≡ Some Reverse → StoppedOrder k 43
  unfolding way_in last_in count_in first_in
  stopped_reverse h = record { direction = sym h; last = refl; count = refl; first = λ f. refl; running = refl }

small_mod : (n : ℕ) → n ≤ 7 → n % 8 ≡ n
small_mod n h = omega arith

informs_in : (ws : List ℕ) (t : MtcTime) (o f m w : ℕ) → length ws ≡ 15 → StoppedOrder (get_or ws 8 0) o
    → f ≡ first_in (get_or ws 8 0) (get_or (set ws 8 o) 9 0) → time_in m w ≡ Some t
    → reader_in (set (set (set (set (set (set ws 8 o) 9 f) 10 0) 11 0) 13 m) 14 w) ≡ informed (reader_in ws) t
unfolding reader_in nibbles_in time_in
informs_in ws t o f m w e =
    by_words
    (λ (l : List ℕ). StoppedOrder (get_or l 8 0) o → f ≡ first_in (get_or l 8 0) (get_or (set l 8 o) 9 0) → time_in m w ≡ Some t → reader_in (set (set (set (set (set (set l 8 o) 9 f) 10 0) 11 0) 13 m) 14 w) ≡ informed (reader_in l) t)
    ws e
    (λ s ef et. rw (s.direction, s.last, s.count, s.first f, s.running, et, ef) (rw (small_mod (first_in (get_or (spelled 15 ws) 8 0) (get_or (spelled 15 ws) 9 0)) (order_first_small (get_or (spelled 15 ws) 8 0) (get_or (spelled 15 ws) 9 0)))))

pub informs : (ws : List ℕ) (t : MtcTime) (o f m w : ℕ) → length ws ≡ 15 → StoppedOrder (get_or ws 8 0) o
    → f ≡ first_in (get_or ws 8 0) (get_or (set ws 8 o) 9 0) → m ≡ 1 + 2 * bits_of t.rate → label_in t.rate w ≡ t
    → reader_in (set (set (set (set (set (set ws 8 o) 9 f) 10 0) 11 0) 13 m) 14 w) ≡ after_full_message (reader_in ws) t
informs ws t o f m w e s ef em ew =
    informs_in ws t o f m w e s ef (marked t m w em ew) ∙ sym (ap (λ (r : MtcReader). informed r t) (as_is (reader_in ws) (sound_in ws)))
