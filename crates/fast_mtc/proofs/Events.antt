-- Events and reports as numbers: as the code makes them, what is read off them, and that nothing of a report is lost. Assumes nothing.
use Rattle.std.specs.Prelude.{Option, Some, None}
use Prim.Native.Nat.{ℕ, zero, suc, ◌+◌, ◌*◌, ◌/◌, ◌%◌, ◌≤◌, ◌<◌}
use mathlib.Core.Bool.{Bool, true, false, cond}
use mathlib.Core.List.{[], ◌∷◌}
use mathlib.Core.Path.{◌≡◌, refl}
use native.Mathlib.Omega.{arith}
use borrow.Author.Tests.{ne_eqb}
use lib.Dec.{lit≤}
use lib.ListN.{get_or}
use Rattle.fast_mtc.specs.Generator.{direction_at, flat_direction, is_set}
use Rattle.fast_mtc.specs.Reader.{bit_of, flat_report, flat_event, flat_byte_answer, refused_from, report_in}
use Rattle.fast_mtc.specs.Refusal.{refusal_in}
use Rattle.universal.specs.Refusals.{Refusal, gives, refused, refusal}
use Rattle.mtc.specs.QuarterFrame.{piece_of, value_of, is_heard}
use Rattle.mtc.proofs.Laws.{report_labels}
use Rattle.mtc.specs.Reader.{event_with, ReportLabels, after_heard, event_heard, event_of, report_of, or_fresh}
use Rattle.mtc.specs.declared.generator.Direction.{Direction}
use Rattle.mtc.specs.declared.generator.Direction.TheVariants.{Forward, Reverse}
use Rattle.mtc.specs.declared.reader.MtcEvent.{MtcEvent}
use Rattle.mtc.specs.declared.reader.MtcReader.{MtcReader}
use Rattle.mtc.specs.declared.reader.MtcSequence.{MtcSequence}
use Rattle.fast_mtc.proofs.FlatBack.{direction_back}
use Rattle.fast_mtc.proofs.SpelledLists.{piece_cases}

-- ---- as the code makes them

direction_small : (d : Direction) → flat_direction d ≤ 1
unfolding flat_direction
direction_small Forward = lit≤ tt
direction_small Reverse = lit≤ tt

bit_small : (b : Bool) → bit_of b ≤ 1
bit_small true = lit≤ tt
bit_small false = lit≤ tt

bit_back : (b : Bool) → is_set (bit_of b) ≡ b
bit_back true = refl
bit_back false = refl

pub report_is : (s : MtcSequence) (d b : ℕ) → d ≡ flat_direction s.direction → b ≡ bit_of s.discontinuity
    → (1 + d * 2 + b * 4 ≡ flat_report (Some s)) × (1 + d * 2 + b * 4 ≤ 7)
unfolding flat_report
report_is s d b ed eb =
    let ld : d ≤ 1 = rw ed (direction_small s.direction) in
    let lb : b ≤ 1 = rw eb (bit_small s.discontinuity) in
    (rw (ed, eb), omega (arith, ld, lb))

-- Of a piece that ends no sequence, from a table.
pub quiet_table : (p : ℕ) → p ≤ 7 → get_or (256 ∷ 1 ∷ 2 ∷ 3 ∷ 260 ∷ 5 ∷ 6 ∷ 7 ∷ []) p 0 ≡ flat_event (event_with p None)
unfolding flat_event flat_report
quiet_table =
    piece_cases (λ (p : ℕ). get_or (256 ∷ 1 ∷ 2 ∷ 3 ∷ 260 ∷ 5 ∷ 6 ∷ 7 ∷ []) p 0 ≡ flat_event (event_with p None)) refl refl refl refl refl refl refl refl

-- ---- what is read off them

-- Of an event of a piece, its report.
pub event_report : (p : ℕ) (s : Option MtcSequence) → p ≤ 255 → flat_event (event_with p s) / 512 ≡ flat_report s
unfolding flat_event
event_report p s h = let b : bit_of (event_with p s).boundary ≤ 1 = bit_small (event_with p s).boundary in omega (arith, h, b)

report_small : (s : Option MtcSequence) → flat_report s ≤ 7
unfolding flat_report
report_small None = lit≤ tt
report_small (Some s) = let r : flat_report (Some s) ≤ 7 = (report_is s _ _ refl refl).1 in r

-- Every event of a piece is below the numbers of refused bytes.
pub event_small : (p : ℕ) (s : Option MtcSequence) → p ≤ 255 → flat_event (event_with p s) < refused_from
unfolding flat_event
event_small p s h =
    let b : bit_of (event_with p s).boundary ≤ 1 = bit_small (event_with p s).boundary in
    let r : flat_report s ≤ 7 = report_small s in
    omega (arith, h, b, r)

-- The number of a byte that gives an event is the event's, and that of a refused one has the refusal's in the highest byte.
pub given_number : (e : MtcEvent) → flat_byte_answer (gives e) ≡ flat_event e
unfolding flat_byte_answer
given_number e = refl

pub refused_number : (r : Refusal) → flat_byte_answer (refused r) ≡ r.number * refused_from
unfolding flat_byte_answer
refused_number r = refl

-- So the highest byte of any byte's number is its refusal, 0 where it has none.
pub highest_byte : (r : MtcReader) (b : ℕ) → flat_byte_answer (event_of r b) / refused_from ≡ refusal_in (event_of r b)
unfolding flat_byte_answer refusal_in
highest_byte r b = go (is_heard b)
  where
    go : (t : Bool) → flat_byte_answer (cond t (gives (event_heard r b)) (refused (refusal 13))) / refused_from
        ≡ refusal_in (cond t (gives (event_heard r b)) (refused (refusal 13)))
    go true =
        let l : flat_event (event_heard r b) < refused_from
        = event_small (piece_of b) (report_of (or_fresh r) (piece_of b) (value_of b)) (omega arith) in
        omega (arith, l)
    go false = refl

-- No report is 0; any other is not.
pub none_reported : flat_report None ≡ 0
unfolding flat_report
none_reported = refl

pub some_reported : (s : MtcSequence) → is_set (flat_report (Some s)) ≡ true
unfolding flat_report
some_reported s =
    rw (ne_eqb (flat_report (Some s)) 0 (above (flat_direction s.direction * 2 + bit_of s.discontinuity * 4) (omega arith)))
  where
    above : (n : ℕ) → flat_report (Some s) ≡ n + 1 → flat_report (Some s) ≡ 0 → ⊥
    above n e x = omega arith

module _ (d b : ℕ) (hd : d ≤ 1) (hb : b ≤ 1) where
  one_in : (1 + d * 2 + b * 4) % 2 ≡ 1
  one_in = omega arith

  direction_in : (1 + d * 2 + b * 4) / 2 % 2 ≡ d
  direction_in = omega arith

  jump_in : (1 + d * 2 + b * 4) / 4 % 2 ≡ b
  jump_in = omega arith

-- The discontinuity.
pub jump_reported : (s : MtcSequence) → flat_report (Some s) / 4 % 2 ≡ bit_of s.discontinuity
unfolding flat_report
jump_reported s =
    jump_in (flat_direction s.direction) (bit_of s.discontinuity) (direction_small s.direction) (bit_small s.discontinuity)

pub direction_low : (n : ℕ) → flat_direction (direction_at (n / 2 % 2)) ≡ n / 2 % 2
unfolding flat_direction direction_at
direction_low n = go (n / 2 % 2) (omega arith)
  where
    go : (k : ℕ) → k ≤ 1 → flat_direction (direction_at k) ≡ k
    go zero h = refl
    go (suc zero) h = refl
    go (suc (suc k)) h = absurd (omega arith)

-- ---- nothing of a report is lost

-- A reader that holds a report's labels gives it back from its number.
pub report_back : (m : Option MtcSequence) (before left : MtcReader) → ReportLabels m before left → report_in left (flat_report m) ≡ m
unfolding report_in flat_report
report_back None before left h = refl
report_back (Some s) before left h =
    let d : ℕ = flat_direction s.direction in
    let b : ℕ = bit_of s.discontinuity in
    let hd : d ≤ 1 = direction_small s.direction in
    let hb : b ≤ 1 = bit_small s.discontinuity in
    rw (one_in d b hd hb, direction_in d b hd hb, jump_in d b hd hb, direction_back s.direction, bit_back s.discontinuity, h.0, h.1)

-- So every report is read back from its number and the reader that it left.
pub reported_back : (r : MtcReader) (b : ℕ) → report_in (after_heard r b) (flat_report (event_heard r b).sequence) ≡ (event_heard r b).sequence
reported_back r b = report_back (event_heard r b).sequence (or_fresh r) (after_heard r b) (report_labels r b)

-- A later event without a report keeps the last one.
pub kept_back : (s : MtcSequence) (before left : MtcReader) → ReportLabels None before left
    → report_in before (flat_report (Some s)) ≡ Some s → report_in left (flat_report (Some s)) ≡ Some s
unfolding report_in
kept_back s before left h e = rw (h.0, h.1) e
