-- A byte by the words: what the stores of each way through `hear` leave is the plain reader's; and what `receive` makes of any byte.
-- Assumes nothing.
use Rattle.std.specs.Prelude.{Option, Some, None}
use Prim.Native.Nat.{ℕ, zero, suc, ◌+◌, ◌-◌, ◌%◌, ◌≤◌, ◌<◌}
use mathlib.Core.Bool.{Bool, true, false, cond, ◌&&◌}
use mathlib.Core.List.{List}
use mathlib.Core.Path.{◌≡◌, refl, sym, subst, ap, ◌∙◌}
use native.Mathlib.Omega.{arith}
use borrow.Author.Tests.{eq-eqb, ne_eqb}
use lib.Dec.{eqb}
use lib.ListN.{length, get_or, set}
use Rattle.mtc.proofs.Laws.{Sound, sound_by, piece_stands, below_heard, status_unheard, heard_byte, refused_byte}
use Rattle.mtc.specs.Generator.{first, after, final}
use Rattle.mtc.specs.QuarterFrame.{piece_of, value_of}
use Rattle.mtc.specs.Reader.{Standing, control, ordered, order_after, starts, number_after, stored, completed, reader_by_number, event_with, sequence_of, after_byte, event_of}
use Rattle.mtc.specs.declared.generator.Direction.{Direction}
use Rattle.mtc.specs.declared.generator.Direction.TheVariants.{Forward, Reverse}
use Rattle.mtc.specs.declared.reader.MtcReader.{MtcReader}
use Rattle.universal.specs.Refusals.{refused, refusal}
use Rattle.fast_mtc.specs.Clauses.{Received, PassedPiece, SequenceEnded, InSequence, order_in}
use Rattle.fast_mtc.specs.Reader.{way_in, last_in, count_in, first_in, nibbles_in, reader_in, flat_event, flat_byte_answer}
use Rattle.fast_mtc.proofs.Orders.{standing_in, standing, stands_inside, order_inside, inside_small, order_count_small, order_first_small, last_fits}
use Rattle.fast_mtc.proofs.SpelledLists.{spelled, by_words, piece_cases}

-- ---- any words stand for a sound reader

word_nibble_small : (ws : List ℕ) (j : ℕ) → get_or (nibbles_in ws) j 0 ≤ 15
unfolding nibbles_in
word_nibble_small ws zero = omega arith
word_nibble_small ws (suc zero) = omega arith
word_nibble_small ws (suc (suc zero)) = omega arith
word_nibble_small ws (suc (suc (suc zero))) = omega arith
word_nibble_small ws (suc (suc (suc (suc zero)))) = omega arith
word_nibble_small ws (suc (suc (suc (suc (suc zero))))) = omega arith
word_nibble_small ws (suc (suc (suc (suc (suc (suc zero)))))) = omega arith
word_nibble_small ws (suc (suc (suc (suc (suc (suc (suc zero))))))) = omega arith
word_nibble_small ws (suc (suc (suc (suc (suc (suc (suc (suc j)))))))) = omega arith

eight_nibbles : (ws : List ℕ) → length (nibbles_in ws) ≡ 8
unfolding nibbles_in
eight_nibbles ws = refl

pub sound_in : (ws : List ℕ) → Sound (reader_in ws)
unfolding reader_in
sound_in ws =
    sound_by (reader_in ws) (order_count_small (get_or ws 8 0)) (order_first_small (get_or ws 8 0) (get_or ws 9 0)) (last_fits (get_or ws 8 0))
    (word_nibble_small ws) (eight_nibbles ws)

-- ---- a piece that is not the next one of a sequence

pub piece_low : (b : ℕ) → piece_of b ≤ 7
piece_low b = omega arith

-- What it leaves depends on what the words before say of nibbles, first piece, lock and labels.
pub record Alike (keeps : Bool) (a r : MtcReader) : Type 0 where
  pub nibbles : a.nibbles ≡ r.nibbles
  pub first : a.first ≡ r.first
  pub locked : a.locked ≡ (keeps && r.locked)
  pub previous : a.previous ≡ r.previous
  pub time : a.time ≡ r.time

alike : (a r : MtcReader) (nx keeps : Bool) (d : Option Direction) (n p v : ℕ) → Alike keeps a r
    → reader_by_number a (ordered false d true) n p v ≡ reader_by_number r (ordered nx d keeps) n p v
alike a r nx keeps d n p v h = rw (h.nibbles, h.first, h.locked, h.previous, h.time)

no_end : (b : Bool) → eqb (number_after 0 b) 8 ≡ false
no_end true = refl
no_end false = refl

-- From the words after a change of lock or first piece, where it finds no piece held.
pub words_pass : (ws before left : List ℕ) (b e : ℕ) (nx keeps : Bool) (d : Option Direction)
    → order_after (control (reader_in ws)) (reader_in ws).last (reader_in ws).direction (piece_of b) ≡ ordered nx d keeps
    → cond nx (reader_in ws).count 0 ≡ 0 → Alike keeps (reader_in before) (reader_in ws)
    → PassedPiece d before (piece_of b) (value_of b) e left → Received ws b e left
words_pass ws before left b e nx keeps d eo en al q =
    let n : ℕ = number_after 0 (starts d (piece_of b)) in
    let s = piece_stands (reader_in ws) (sound_in ws) b n (ordered nx d keeps) eo (ap (λ (k : ℕ). number_after k (starts d (piece_of b))) en) in
    record {
      event = q.event ∙ ap flat_event (sym (s.1 ∙ rw (no_end (starts d (piece_of b)))));
      reader = q.reader ∙ alike (reader_in before) (reader_in ws) nx keeps d n (piece_of b) (value_of b) al ∙ sym s.0;
    }

-- ---- the next piece of a sequence

-- The number of the next piece in its sequence.
abbrev number_in : Direction → ℕ → ℕ
number_in Forward p = p + 1
number_in Reverse p = 8 - p

-- The words after it.
abbrev pub next_words : Direction → List ℕ → ℕ → ℕ → List ℕ
next_words d ws b p = set (set ws p b) 8 (order_in d (after d p))

abbrev HeldNext : Direction → ℕ → List ℕ → ℕ → Type 0
HeldNext d v ws p =
    reader_in (next_words d (set ws 8 (order_in d p)) v p) ≡ stored (reader_in (set ws 8 (order_in d p))) (ordered true (Some d) true) (number_in d p) p (v % 16)

held_next : (d : Direction) (ws : List ℕ) (v p : ℕ) → length ws ≡ 15 → p ≤ 7 → HeldNext d v ws p
unfolding reader_in nibbles_in way_in last_in count_in first_in
held_next Forward ws v p e =
    by_words (λ (l : List ℕ). p ≤ 7 → HeldNext Forward v l p) ws e
    (piece_cases (HeldNext Forward v (spelled 15 ws)) refl refl refl refl refl refl refl refl p)
held_next Reverse ws v p e =
    by_words (λ (l : List ℕ). p ≤ 7 → HeldNext Reverse v l p) ws e
    (piece_cases (HeldNext Reverse v (spelled 15 ws)) refl refl refl refl refl refl refl refl p)

-- The words with their own order are the words.
pub own_order : (ws : List ℕ) (k : ℕ) → length ws ≡ 15 → get_or ws 8 0 ≡ k → set ws 8 k ≡ ws
own_order ws k e h =
    subst (λ (x : ℕ). set ws 8 x ≡ ws) h (by_words (λ (l : List ℕ). set l 8 (get_or l 8 0) ≡ l) ws e refl)

pub stand_in : (ws : List ℕ) (b : ℕ) → get_or ws 8 0 < 42
    → order_after (control (reader_in ws)) (reader_in ws).last (reader_in ws).direction (piece_of b) ≡ standing_in (get_or ws 8 0) (piece_of b)
unfolding reader_in
stand_in ws b h = standing (get_or ws 8 0) (piece_of b) (get_or ws 9 0) h (omega arith)

pub count_at : (ws : List ℕ) → (reader_in ws).count ≡ count_in (get_or ws 8 0)
unfolding reader_in
count_at ws = refl

next_number : (d : Direction) (p : ℕ) → p ≤ 7 → number_after (count_in (order_in d p)) (eqb p (first d)) ≡ number_in d p
unfolding count_in
next_number Forward = piece_cases (λ p. number_after (count_in p) (eqb p 0) ≡ p + 1) refl refl refl refl refl refl refl refl
next_number Reverse = piece_cases (λ p. number_after (count_in (p + 8)) (eqb p 7) ≡ 8 - p) refl refl refl refl refl refl refl refl

number_some : (d : Direction) (p : ℕ) → p ≤ 7 → number_in d p ≡ 0 → ⊥
number_some Forward p h z = let y : p + 1 ≡ 0 = z in omega arith
number_some Reverse p h z = let y : 8 - p ≡ 0 = z in omega arith

number_open : (d : Direction) (p : ℕ) → p ≤ 7 → (p ≡ final d → ⊥) → number_in d p ≡ 8 → ⊥
number_open Forward p h n z = let y : p + 1 ≡ 8 = z in n (omega arith)
number_open Reverse p h n z = let y : 8 - p ≡ 8 = z in n (omega arith)

number_full : (d : Direction) (p : ℕ) → p ≡ final d → number_in d p ≡ 8
number_full Forward p h = rw h
number_full Reverse p h = rw h

module _ (ws : List ℕ) (b : ℕ) (e : length ws ≡ 15) where
  abbrev R : MtcReader
  R = reader_in ws

  -- A piece that is held but ends nothing.
  pub words_kept : (o : Standing) (n x : ℕ) (left : List ℕ) → (n ≡ 0 → ⊥) → (n ≡ 8 → ⊥)
      → order_after (control R) R.last R.direction (piece_of b) ≡ o
      → number_after (cond o.next R.count 0) (starts o.direction (piece_of b)) ≡ n
      → reader_in left ≡ stored R o n (piece_of b) (value_of b) → x ≡ flat_event (event_with (piece_of b) None) → Received ws b x left
  words_kept o n x left n0 n8 eo en el ex =
      let s = piece_stands R (sound_in ws) b n o eo en in
      record {
        event = ex ∙ ap flat_event (sym (s.1 ∙ rw (ne_eqb n 8 n8)));
        reader = el ∙ sym (s.0 ∙ rw (ne_eqb n 0 n0, ne_eqb n 8 n8));
      }

  -- The last piece of a sequence, by what its end gives.
  ends : (o : Standing) (p x : ℕ) (mid left : List ℕ) → piece_of b ≡ p
      → order_after (control R) R.last R.direction (piece_of b) ≡ o
      → number_after (cond o.next R.count 0) (starts o.direction (piece_of b)) ≡ 8
      → reader_in mid ≡ stored R o 8 (piece_of b) (value_of b) → SequenceEnded p mid x left → Received ws b x left
  ends o p x mid left ep eo en em q =
      let s = piece_stands R (sound_in ws) b 8 o eo en in
      record {
        event =
            q.event ∙ ap (λ (r : MtcReader). flat_event (event_with p (Some (sequence_of r)))) em
            ∙ ap flat_event (ap (λ (k : ℕ). event_with k (Some (sequence_of (stored R o 8 (piece_of b) (value_of b))))) (sym ep) ∙ sym s.1);
        reader = q.reader ∙ ap completed em ∙ sym s.0;
      }

  module _ (d : Direction) (k : get_or ws 8 0 ≡ order_in d (piece_of b)) where
    inside : InSequence d (order_in d (piece_of b))
    inside = order_inside d (piece_of b) (piece_low b)

    next_stands : order_after (control R) R.last R.direction (piece_of b) ≡ ordered true (Some d) true
    next_stands =
        stand_in ws b (rw k (omega (arith, inside_small d inside)))
        ∙ rw k (stands_inside d (order_in d (piece_of b)) (piece_of b) inside ∙ rw (eq-eqb (order_in d (piece_of b)) (order_in d (piece_of b)) refl))

    next_counts : number_after R.count (eqb (piece_of b) (first d)) ≡ number_in d (piece_of b)
    next_counts =
        ap (λ (n : ℕ). number_after n (eqb (piece_of b) (first d))) (count_at ws ∙ ap count_in k) ∙ next_number d (piece_of b) (piece_low b)

    next_left : reader_in (next_words d ws b (piece_of b)) ≡ stored R (ordered true (Some d) true) (number_in d (piece_of b)) (piece_of b) (value_of b)
    next_left =
        subst (λ (l : List ℕ). reader_in (next_words d l b (piece_of b)) ≡ stored (reader_in l) (ordered true (Some d) true) (number_in d (piece_of b)) (piece_of b) (value_of b))
        (own_order ws (order_in d (piece_of b)) e k) (held_next d ws b (piece_of b) e (piece_low b))

    goes_on : (x : ℕ) → (piece_of b ≡ final d → ⊥) → x ≡ flat_event (event_with (piece_of b) None) → Received ws b x (next_words d ws b (piece_of b))
    goes_on x h ex =
        words_kept (ordered true (Some d) true) (number_in d (piece_of b)) x (next_words d ws b (piece_of b))
        (number_some d (piece_of b) (piece_low b)) (number_open d (piece_of b) (piece_low b) h) next_stands next_counts next_left ex

    is_going : (reader_in (next_words d ws b (piece_of b))).direction ≡ Some d
    is_going = ap (λ (r : MtcReader). r.direction) next_left

    is_last : (x : ℕ) (left : List ℕ) → piece_of b ≡ final d → SequenceEnded (final d) (next_words d ws b (piece_of b)) x left → Received ws b x left
    is_last x left h =
        let n : number_in d (piece_of b) ≡ 8 = number_full d (piece_of b) h in
        ends (ordered true (Some d) true) (final d) x (next_words d ws b (piece_of b)) left h next_stands (next_counts ∙ n)
        (next_left ∙ ap (λ (k : ℕ). stored R (ordered true (Some d) true) k (piece_of b) (value_of b)) n)

-- As the code has the piece.
module _ (d : Direction) (ws : List ℕ) (b p : ℕ) (e : length ws ≡ 15) (ep : p ≡ piece_of b) (k : get_or ws 8 0 ≡ order_in d p) where
  at : (P : ℕ → Type 0) → P (piece_of b) → P p
  at P h = subst P (sym ep) h

  order_is : get_or ws 8 0 ≡ order_in d (piece_of b)
  order_is = k ∙ ap (order_in d) ep

  pub next_on : (x : ℕ) → (p ≡ final d → ⊥) → x ≡ flat_event (event_with p None) → Received ws b x (next_words d ws b p)
  next_on x h ex =
      at (λ (q : ℕ). Received ws b x (next_words d ws b q))
      (goes_on ws b e d order_is x (λ z. h (ep ∙ z)) (ex ∙ ap (λ (q : ℕ). flat_event (event_with q None)) ep))

  pub next_going : (reader_in (next_words d ws b p)).direction ≡ Some d
  next_going = at (λ (q : ℕ). (reader_in (next_words d ws b q)).direction ≡ Some d) (is_going ws b e d order_is)

  pub next_ends : (x : ℕ) (left : List ℕ) → p ≡ final d → SequenceEnded (final d) (next_words d ws b p) x left → Received ws b x left
  next_ends x left h q =
      is_last ws b e d order_is x left (sym ep ∙ h) (subst (λ (n : ℕ). SequenceEnded (final d) (next_words d ws b n) x left) ep q)

-- ---- any byte

-- One of 80H or more is refused, and leaves the reader.
pub refused_by_words : (ws : List ℕ) (b x : ℕ) → 0x7F < b → x ≡ flat_byte_answer (refused (refusal 13))
    → (x ≡ flat_byte_answer (event_of (reader_in ws) b)) × (reader_in ws ≡ after_byte (reader_in ws) b)
refused_by_words ws b x h e =
    let q = refused_byte (reader_in ws) b (status_unheard b (omega arith)) in
    (e ∙ ap flat_byte_answer (sym q.0), sym q.1)

-- Any other is heard.
pub heard_by_words : (ws left : List ℕ) (b x : ℕ) → b ≤ 0x7F → Received ws b x left
    → (x ≡ flat_byte_answer (event_of (reader_in ws) b)) × (reader_in left ≡ after_byte (reader_in ws) b)
unfolding flat_byte_answer
heard_by_words ws left b x h q =
    let e = heard_byte (reader_in ws) b (below_heard b (omega (arith, h))) in
    (q.event ∙ ap flat_byte_answer (sym e.0), q.reader ∙ sym e.1)
