-- The reader on whole sequences: what the bytes of one report, and the reader that they leave. Assumes nothing.
use Rattle.labels.specs.declared.time.MtcTime.{MtcTime}
use Rattle.mtc.specs.declared.reader.MtcSequence.{MtcSequence}
use Rattle.std.specs.Prelude.{Option, Some, None}
use Prim.Native.Nat.{ℕ}
use mathlib.Core.Bool.{true, false}
use mathlib.Core.List.{List, [], ◌∷◌, ◌++◌}
use mathlib.Core.Logic.{◌⊎◌, inl, inr}
use mathlib.Core.Path.{◌≡◌, refl, sym, ◌∙◌, ap, ap₂, subst}
use native.Mathlib.Omega.{arith}
use lib.ListN.{length, set}
use Rattle.mtc.specs.Generator.{first, final, opposite}
use Rattle.mtc.specs.Reader.{control, offset, sequence_of_label, order_of, number_of, sequence_of, reader_by_number, report_by_number, after_piece, report_of}
use Rattle.mtc.specs.Ready.{Starts, NotAgainst}
use Rattle.mtc.specs.Stream.{silent}
use Rattle.labels.specs.Time.{add_frames}
use Rattle.mtc.specs.declared.generator.Direction.{Direction}
use Rattle.mtc.specs.declared.generator.Direction.TheVariants.{Forward, Reverse}
use Rattle.mtc.specs.declared.reader.MtcReader.{MtcReader}
use Rattle.mtc.proofs.Sequences.LabelNibbles.{Nibble, Values, first_value, seven, nibbles_in_order, listed, assembled}
use Rattle.mtc.proofs.Sequences.ReaderShapes.{Begun, begun_held, begun_turning}
use Rattle.mtc.proofs.Sequences.SequenceStarts.{not_against, starts_next}

-- What a list of pieces with their values reports.
unfoldable pub run : MtcReader → List Nibble → List (Option MtcSequence)
run r [] = []
run r (q ∷ qs) = report_of r q.piece q.value ∷ run (after_piece r q.piece q.value) qs

-- The reader that they leave.
unfoldable pub leave : MtcReader → List Nibble → MtcReader
leave r [] = r
leave r (q ∷ qs) = leave (after_piece r q.piece q.value) qs

-- ---- readers with known parts

-- A list of eight, taken apart.
pub data Eight : List ℕ → Type 0 where
  eight : (a b c d e f g h : ℕ) → Eight (a ∷ b ∷ c ∷ d ∷ e ∷ f ∷ g ∷ h ∷ [])

pub eight_of : (n : List ℕ) → length n ≡ 8 → Eight n
eight_of [] h = absurd (omega arith)
eight_of (a ∷ []) h = absurd (omega arith)
eight_of (a ∷ b ∷ []) h = absurd (omega arith)
eight_of (a ∷ b ∷ c ∷ []) h = absurd (omega arith)
eight_of (a ∷ b ∷ c ∷ d ∷ []) h = absurd (omega arith)
eight_of (a ∷ b ∷ c ∷ d ∷ e ∷ []) h = absurd (omega arith)
eight_of (a ∷ b ∷ c ∷ d ∷ e ∷ f ∷ []) h = absurd (omega arith)
eight_of (a ∷ b ∷ c ∷ d ∷ e ∷ f ∷ g ∷ []) h = absurd (omega arith)
eight_of (a ∷ b ∷ c ∷ d ∷ e ∷ f ∷ g ∷ h ∷ []) k = eight a b c d e f g h
eight_of (a ∷ b ∷ c ∷ d ∷ e ∷ f ∷ g ∷ h ∷ i ∷ l) k = absurd (omega arith)

-- A reader with other nibbles, count, first and last piece and direction.
abbrev with : MtcReader → List ℕ → ℕ → ℕ → Option ℕ → Option Direction → MtcReader
with r n c f l d =
    record {
      nibbles = n;
      count = c;
      first = f;
      last = l;
      direction = d;
      locked = r.locked;
      running = r.running;
      previous = r.previous;
      time = r.time;
    }

-- ---- the first piece of a sequence

-- What it leaves: one piece held, and nothing reported.
record SequenceBegun (d : Direction) (r : MtcReader) (v : ℕ) (s : MtcReader) (q : Option MtcSequence) : Type 0 where
  way : Option Direction
  not_against : NotAgainst d way
  nibbles : s.nibbles ≡ set r.nibbles (first d) v
  count : s.count ≡ 1
  first_is : s.first ≡ first d
  last : s.last ≡ Some (first d)
  direction : s.direction ≡ way
  previous : s.previous ≡ r.previous
  report : q ≡ None

sequence_begun : (d : Direction) (r : MtcReader) (v : ℕ) → Starts d (control r) → SequenceBegun d r v (after_piece r (first d) v) (report_of r (first d) v)
unfolding after_piece report_of
sequence_begun d r v h =
    let o = order_of (control r) (first d) in
    subst (λ (n : ℕ). SequenceBegun d r v (reader_by_number r o n (first d) v) (report_by_number r o n (first d) v)) (sym h)
    (record {
      way = o.direction;
      not_against = not_against d (control r) h;
      nibbles = refl;
      count = refl;
      first_is = refl;
      last = refl;
      direction = refl;
      previous = refl;
      report = refl;
    })

-- ---- the other seven

module _ (v : Values) where
  -- The reader that a whole sequence of the values leaves.
  abbrev pub left : Direction → MtcReader
  left d =
      record {
        nibbles = listed v;
        count = 0;
        first = first d;
        last = Some (final d);
        direction = Some d;
        locked = true;
        running = true;
        previous = Some (assembled v);
        time = Some (add_frames (assembled v) (offset d));
      }

  pub run_first : (r : MtcReader) (d : Direction) (rest : List Nibble) → run r (nibbles_in_order d v ++ rest)
      ≡ report_of r (first d) (first_value d v) ∷ run (after_piece r (first d) (first_value d v)) (seven d v ++ rest)
  unfolding run
  run_first r d rest = refl

  -- A reader that holds the first piece.
  abbrev holding : MtcReader → Direction → List ℕ → Option Direction → MtcReader
  holding s d n m = with s (set n (first d) (first_value d v)) 1 (first d) (Some (first d)) m

  -- Whether or not the direction is known, the other seven complete the sequence.
  Completes : MtcReader → Direction → List ℕ → List Nibble → Option Direction → Type 0
  Completes s d n rest m =
      (run (holding s d n m) (seven d v ++ rest)
      ≡ silent 6
      ++ (Some (sequence_of_label (assembled v) d s.previous)
      ∷ run (left d) rest))
      × (leave (holding s d n m) (seven d v) ≡ left d)

  held_at : (s : MtcReader) (d : Direction) (n : List ℕ) → Eight n → (rest : List Nibble) (m : Option Direction)
      → NotAgainst d m → Completes s d n rest m
  unfolding Completes run leave report_of after_piece order_of number_of sequence_of
  held_at s Forward n (eight a b c d e f g h) rest m (inl q) = subst (Completes s Forward n rest) (sym q) (refl, refl)
  held_at s Forward n (eight a b c d e f g h) rest m (inr q) = subst (Completes s Forward n rest) (sym q) (refl, refl)
  held_at s Reverse n (eight a b c d e f g h) rest m (inl q) = subst (Completes s Reverse n rest) (sym q) (refl, refl)
  held_at s Reverse n (eight a b c d e f g h) rest m (inr q) = subst (Completes s Reverse n rest) (sym q) (refl, refl)

  -- ---- a whole sequence

  module _ (r : MtcReader) (d : Direction) (eights : length r.nibbles ≡ 8) (starts : Starts d (control r)) where
    abbrev second : MtcReader
    second = after_piece r (first d) (first_value d v)

    abbrev begun : SequenceBegun d r (first_value d v) second (report_of r (first d) (first_value d v))
    begun = sequence_begun d r (first_value d v) starts

    is_holding : second ≡ holding second d r.nibbles begun.way
    is_holding =
        λ i. with second (begun.nibbles i) (begun.count i) (begun.first_is i) (begun.last i) (begun.direction i)

    completes : (rest : List Nibble) → Completes second d r.nibbles rest begun.way
    completes rest = held_at second d r.nibbles (eight_of r.nibbles eights) rest begun.way begun.not_against

    -- The eighth piece reports, and no other.
    pub round : (rest : List Nibble)
        → run r (nibbles_in_order d v ++ rest)
        ≡ silent 7 ++ (Some (sequence_of_label (assembled v) d r.previous) ∷ run (left d) rest)
    unfolding Completes
    round rest =
        run_first r d rest
        ∙ ap₂ ◌∷◌ begun.report
        (ap (λ (x : MtcReader). run x (seven d v ++ rest)) is_holding ∙ (completes rest).0
        ∙ ap (λ (p : Option MtcTime). silent 6 ++ (Some (sequence_of_label (assembled v) d p) ∷ run (left d) rest)) begun.previous)

    -- The reader that they leave.
    pub round_left : leave r (nibbles_in_order d v) ≡ left d
    unfolding Completes leave
    round_left = ap (λ (x : MtcReader). leave x (seven d v)) is_holding ∙ (completes []).1

-- ---- the first sequence of a stream

module _ (v : Values) where
  -- What the seven after the first piece report, and the reader that they leave.
  pub record Eighth (d : Direction) (s : MtcReader) : Type 0 where
    pub report : Option MtcSequence
    pub is : (report ≡ None) ⊎ (report ≡ Some (sequence_of_label (assembled v) d s.previous))
    pub next : MtcReader
    pub eights : length next.nibbles ≡ 8
    pub starts : Starts d (control next)
    pub runs : (rest : List Nibble) → run s (seven d v ++ rest) ≡ silent 6 ++ (report ∷ run next rest)

  -- The reader that turns round at the second byte, and holds nothing up to the eighth.
  abbrev turned : MtcReader → Direction → MtcReader
  turned s d =
      record {
        nibbles = s.nibbles;
        count = 0;
        first = s.first;
        last = Some (final d);
        direction = Some d;
        locked = false;
        running = true;
        previous = s.previous;
        time = s.time;
      }

  turning_at : (s : MtcReader) (d : Direction) (rest : List Nibble)
      → run (with s s.nibbles 0 s.first (Some (first d)) (Some (opposite d))) (seven d v ++ rest)
      ≡ silent 7 ++ run (turned s d) rest
  unfolding run report_of after_piece order_of number_of sequence_of
  turning_at s Forward rest = refl
  turning_at s Reverse rest = refl

  pub eighth : (s : MtcReader) (d : Direction) (n : List ℕ) → length n ≡ 8 → length s.nibbles ≡ 8
      → Begun d (set n (first d) (first_value d v)) s → Eighth d s
  unfolding Completes
  eighth s d n len _ (begun_held m q en ec ef el ed) =
      record {
        report = Some (sequence_of_label (assembled v) d s.previous);
        is = inr refl;
        next = left v d;
        eights = refl;
        starts = starts_next d (first d) (Some d);
        runs =
            λ rest.
            ap (λ (x : MtcReader). run x (seven d v ++ rest)) (λ i. with s (en i) (ec i) (ef i) (el i) (ed i))
            ∙ (held_at v s d n (eight_of n len) rest m q).0;
      }
  eighth s d n _ len (begun_turning ec el ed) =
      record {
        report = None;
        is = inl refl;
        next = turned s d;
        eights = len;
        starts = starts_next d s.first (Some d);
        runs =
            λ rest.
            ap (λ (x : MtcReader). run x (seven d v ++ rest)) (λ i. with s s.nibbles (ec i) s.first (el i) (ed i))
            ∙ turning_at s d rest;
      }
