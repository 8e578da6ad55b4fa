-- The generator as bytes: what a store to some of the bytes does to the generator that they stand for. Assumes nothing.
use Rattle.std.specs.Prelude.{Option, Some, None}
use Prim.Native.Nat.{ℕ, ◌≤◌, ◌<◌}
use mathlib.Core.Bool.{true, false}
use mathlib.Core.List.{List}
use mathlib.Core.Path.{◌≡◌, refl, sym, subst, ap, ap₂, ◌∙◌}
use native.Mathlib.Omega.{arith}
use borrow.Author.Tests.{le-leb, lt-leb, eq-eqb, ne_eqb}
use lib.Dec.{lit≤}
use lib.ListN.{length, get_or, set}
use Rattle.mtc.proofs.Laws.{sends, stopped_refuses}
use Rattle.mtc.specs.Generator.{first, after, final, sequence_frames, known, piece_next, time_next, sent_at, next_byte, after_next_byte}
use Rattle.mtc.specs.QuarterFrame.{pieces}
use Rattle.labels.specs.Time.{add_frames}
use Rattle.mtc.specs.declared.generator.Direction.{Direction}
use Rattle.mtc.specs.declared.generator.Direction.TheVariants.{Forward, Reverse}
use Rattle.mtc.specs.declared.generator.MtcGenerator.{MtcGenerator}
use Rattle.labels.specs.declared.time.MtcTime.{MtcTime}
use Rattle.fast_mtc.specs.Generator.{direction_at, piece_at, generator_in, flat_byte}
use Rattle.fast_mtc.specs.Clauses.{moved_to, sent_by}
use Rattle.fast_mtc.specs.Time.{time_of, time_at, flat_time}
use Rattle.fast_mtc.specs.declared.generator.FlatByte.{FlatByte}
use Rattle.fast_mtc.specs.declared.time.FlatTime.{FlatTime}
use Rattle.universal.specs.Refusals.{gives}
use Rattle.fast_mtc.proofs.FlatBack.{time_back}
use Rattle.fast_mtc.proofs.SpelledLists.{spell}

-- ---- the generator

pub sent_in : (bs : List ℕ) (p : ℕ) → length bs ≡ 8 → p ≤ 7 → generator_in (set bs 6 p) ≡ sent_by (generator_in bs) p
unfolding generator_in time_at piece_at
sent_in bs p e h =
    subst (λ (x : List ℕ). generator_in (set x 6 p) ≡ sent_by (generator_in x) p) (spell 8 bs (omega (arith, e))) (rw (le-leb p 7 h))

pub moved_in : (bs : List ℕ) (f : FlatTime) (t : MtcTime) → length bs ≡ 8 → f ≡ flat_time t
    → generator_in (set (set (set (set (set bs 0 f.hours) 1 f.minutes) 2 f.seconds) 3 f.frames) 4 f.rate)
    ≡ moved_to (generator_in bs) t
unfolding generator_in time_at time_of
moved_in bs f t e ef =
    subst
    (λ (x : List ℕ). generator_in (set (set (set (set (set x 0 f.hours) 1 f.minutes) 2 f.seconds) 3 f.frames) 4 f.rate) ≡ moved_to (generator_in x) (time_of f))
    (spell 8 bs (omega (arith, e))) refl
    ∙ ap (moved_to (generator_in bs)) (ap time_of ef ∙ time_back t)

known_last : (n : ℕ) → n ≤ 7 → piece_at n ≡ Some n
unfolding piece_at
known_last n h = rw (le-leb n 7 h)

-- What a running generator answers and leaves, by what is sent.
module _ (g : MtcGenerator) (f : FlatByte) (q : MtcGenerator) (r : g.running ≡ true) where
  byte_answers : (m : Option ℕ) (t : MtcTime) (p : ℕ) → known g.last ≡ m → t ≡ time_next g.direction m g.time → p ≡ piece_next g.direction m
      → (f ≡ flat_byte (gives (get_or (pieces t) p 0))) × (q ≡ sent_at t g.direction p)
      → (f ≡ flat_byte (next_byte g)) × (q ≡ after_next_byte g)
  byte_answers m t p k et ep h =
      let s = sends g r k et ep in (h.0 ∙ ap flat_byte s.0, h.1 ∙ s.1)

  by_sent : (t : MtcTime) (p : ℕ) → sent_by (moved_to g t) p ≡ sent_at t g.direction p
  by_sent t p = rw r

final_low : (d : Direction) → final d ≤ 7
final_low Forward = lit≤ tt
final_low Reverse = lit≤ tt

first_after : (d : Direction) → first d ≡ after d (final d)
first_after Forward = refl
first_after Reverse = refl

-- In each of the three cases: no last piece, one inside a sequence, and its last one.
module _ (bs : List ℕ) (f : FlatByte) (q : MtcGenerator) (d : Direction) (p : ℕ) (r : get_or bs 7 0 ≡ 0 → ⊥) (ed : d ≡ direction_at (get_or bs 5 0)) where
  runs : (generator_in bs).running ≡ true
  unfolding generator_in
  runs = rw (ne_eqb (get_or bs 7 0) 0 r)

  abbrev Answered : Type 0
  Answered = (f ≡ flat_byte (next_byte (generator_in bs))) × (q ≡ after_next_byte (generator_in bs))

  abbrev Sends : MtcGenerator → Type 0
  Sends g = (f ≡ flat_byte (gives (get_or (pieces g.time) p 0))) × (q ≡ sent_by g p)

  none_last : 7 < get_or bs 6 0 → known (generator_in bs).last ≡ None
  unfolding generator_in piece_at
  none_last h = rw (lt-leb (get_or bs 6 0) 7 h)

  some_last : get_or bs 6 0 ≤ 7 → known (generator_in bs).last ≡ Some (get_or bs 6 0)
  unfolding generator_in
  some_last h = ap known (known_last (get_or bs 6 0) h) ∙ rw (le-leb (get_or bs 6 0) 7 h)

  way_is : d ≡ (generator_in bs).direction
  unfolding generator_in
  way_is = ed

  pub starts_over : 7 < get_or bs 6 0 → p ≡ first d → Sends (generator_in bs) → Answered
  starts_over h ep s =
      byte_answers (generator_in bs) f q runs None (generator_in bs).time p (none_last h) refl (ep ∙ ap first way_is)
      (s.0, s.1 ∙ by_sent (generator_in bs) f q runs (generator_in bs).time p)

  pub piece_goes_on : get_or bs 6 0 ≤ 7 → {l : ℕ} → l ≡ final d → (get_or bs 6 0 ≡ l → ⊥) → p ≡ after d (get_or bs 6 0) → Sends (generator_in bs) → Answered
  piece_goes_on h el z ep s =
      byte_answers (generator_in bs) f q runs (Some (get_or bs 6 0)) (generator_in bs).time p (some_last h)
      (rw (sym way_is, ne_eqb (get_or bs 6 0) (final d) (λ e. z (e ∙ sym el)))) (ep ∙ ap (λ (x : Direction). after x (get_or bs 6 0)) way_is)
      (s.0, s.1 ∙ by_sent (generator_in bs) f q runs (generator_in bs).time p)

  pub moves_on : get_or bs 6 0 ≡ final d → p ≡ first d → {g : MtcGenerator}
      → g ≡ moved_to (generator_in bs) (add_frames (generator_in bs).time (sequence_frames d)) → Sends g → Answered
  moves_on e ep {g} eg s =
      let t : MtcTime = add_frames (generator_in bs).time (sequence_frames d) in
      let s' : Sends (moved_to (generator_in bs) t) = subst Sends eg s in
      byte_answers (generator_in bs) f q runs (Some (get_or bs 6 0)) t p (some_last (rw e (final_low d)))
      (rw (sym way_is, eq-eqb (get_or bs 6 0) (final d) e)) (ep ∙ first_after d ∙ ap₂ after way_is (sym e))
      (s'.0, s'.1 ∙ by_sent (generator_in bs) f q runs t p)

still : (bs : List ℕ) → get_or bs 7 0 ≡ 0 → (generator_in bs).running ≡ false
unfolding generator_in
still bs e = rw (eq-eqb (get_or bs 7 0) 0 e)

pub stopped_in : (bs : List ℕ) → get_or bs 7 0 ≡ 0
    → (record { refusal = 8; byte = 0 } ≡ flat_byte (next_byte (generator_in bs))) × (generator_in bs ≡ after_next_byte (generator_in bs))
unfolding flat_byte
stopped_in bs e = let s = stopped_refuses (generator_in bs) (still bs e) in (ap flat_byte s.0, s.1)
