-- Of a sound reader, for crates above: what its numbers are bounded by, what it does with a piece by how that stands to those before it,
-- and where it keeps the labels of a report. Assumes nothing.
use Rattle.mtc.specs.declared.reader.MtcSequence.{MtcSequence}
use Rattle.std.specs.Prelude.{Option, Some, None}
use Prim.Native.Nat.{ℕ, zero, suc, ◌≤◌}
use mathlib.Core.Bool.{Bool, true, false, cond}
use mathlib.Core.List.{List}
use mathlib.Core.Path.{◌≡◌, refl, ap, ap₂, ◌∙◌}
use native.Mathlib.Omega.{arith}
use borrow.Author.Tests.{eqb-true}
use lib.Dec.{T, leb, eqb, le→leb}
use lib.ListN.{length, get_or}
use Rattle.mtc.specs.QuarterFrame.{piece_of, value_of}
-- A sound reader's bounds.
pub use Rattle.mtc.specs.Reader.{Bounds}
use Rattle.mtc.specs.Reader.{Sound, Standing, nibbles_fit, piece_fits, or_fresh, control, order_after, order_of, starts, number_after, number_of, passed, stored, completed, reader_by_number, report_by_number, raw_of, direction_of, sequence_of_label, sequence_of, ReportLabels, event_with, after_piece, report_of, after_heard, event_heard}
use Rattle.mtc.specs.declared.reader.MtcReader.{MtcReader}
use Rattle.mtc.proofs.ReaderCalls.{both_hold, nibble_small, sound, sound_count, sound_first, sound_last, sound_nibbles}
use Rattle.mtc.proofs.Sequences.SoundCalls.{as_is}

-- ---- bounds

nibbles_all_fit : (k : ℕ) (n : List ℕ) → ((j : ℕ) → get_or n j 0 ≤ 15) → T (nibbles_fit k n)
unfolding nibbles_fit
nibbles_all_fit zero n h = tt
nibbles_all_fit (suc k) n h = both_hold (nibbles_fit k n) (leb (get_or n k 0) 15) (nibbles_all_fit k n h) (le→leb _ 15 (h k))

-- Numbers that fit, and eight nibbles, are a sound record.
pub sound_by : (r : MtcReader) → r.count ≤ 7 → r.first ≤ 7 → T (piece_fits r.last) → ((j : ℕ) → get_or r.nibbles j 0 ≤ 15)
    → length r.nibbles ≡ 8 → Sound r
sound_by r c f l n e = record { is_sound_record = sound r c f l (nibbles_all_fit 8 r.nibbles n); eight = e }

pub bounds : (r : MtcReader) → Sound r → Bounds r
bounds r h =
    record {
      count = sound_count r h.is_sound_record;
      first = sound_first r h.is_sound_record;
      last = λ p e. sound_last r h.is_sound_record e;
      nibbles = λ j l. nibble_small r.nibbles 8 j l (sound_nibbles r h.is_sound_record);
      eight = h.eight;
    }

-- ---- a piece by its standing and its number

module _ (r : MtcReader) (o : Standing) (p v n : ℕ) (eo : order_after (control r) r.last r.direction p ≡ o) (en : number_after (cond o.next r.count 0) (starts o.direction p) ≡ n) where
  stands : order_of (control r) p ≡ o
  unfolding order_of
  stands = eo

  its_number : number_of (control r) (order_of (control r) p) p ≡ n
  unfolding number_of
  its_number = ap (λ (x : Standing). number_of (control r) x p) stands ∙ en

  left : after_piece r p v ≡ reader_by_number r o n p v
  unfolding after_piece
  left = ap₂ (λ (x : Standing) (k : ℕ). reader_by_number r x k p v) stands its_number

  said : report_of r p v ≡ report_by_number r o n p v
  unfolding report_of
  said = ap₂ (λ (x : Standing) (k : ℕ). report_by_number r x k p v) stands its_number

-- The piece of a byte that is heard, by how it stands to those before it and by its number, leaves this reader and gives this event.
pub piece_stands : (r : MtcReader) → Sound r → (b n : ℕ) (o : Standing) → order_after (control r) r.last r.direction (piece_of b) ≡ o
    → number_after (cond o.next r.count 0) (starts o.direction (piece_of b)) ≡ n
    → (after_heard r b ≡ reader_by_number r o n (piece_of b) (value_of b))
    × (event_heard r b ≡ event_with (piece_of b) (report_by_number r o n (piece_of b) (value_of b)))
piece_stands r h b n o eo en =
    let a : after_piece r (piece_of b) (value_of b) ≡ reader_by_number r o n (piece_of b) (value_of b)
    = left r o (piece_of b) (value_of b) n eo en in
    let s : report_of r (piece_of b) (value_of b) ≡ report_by_number r o n (piece_of b) (value_of b)
    = said r o (piece_of b) (value_of b) n eo en in (
      ap (λ (x : MtcReader). after_piece x (piece_of b) (value_of b)) (as_is r h) ∙ a,
      ap (λ (x : MtcReader). event_with (piece_of b) (report_of x (piece_of b) (value_of b))) (as_is r h)
          ∙ ap (λ (x : Option MtcSequence). event_with (piece_of b) x) s,
    )

-- ---- where a report's labels stay

labels_by : (r : MtcReader) (o : Standing) (n p v : ℕ) → ReportLabels (report_by_number r o n p v) r (reader_by_number r o n p v)
labels_by r o n p v = go (eqb n 0) (eqb n 8) refl refl
  where
    apart : eqb n 0 ≡ true → eqb n 8 ≡ true → ⊥
    apart x y = let a : n ≡ 0 = eqb-true n 0 x in let b : n ≡ 8 = eqb-true n 8 y in omega arith

    go : (x y : Bool) → eqb n 0 ≡ x → eqb n 8 ≡ y
        → ReportLabels (cond y (Some (sequence_of (stored r o n p v))) None) r (cond x (passed r o p) (cond y (completed (stored r o n p v)) (stored r o n p v)))
    go true true ex ey = absurd (apart ex ey)
    go true false ex ey = (refl, refl)
    go false true ex ey = (refl, refl)
    go false false ex ey = (refl, refl)

-- So after a byte that is heard: a report's labels stand in the reader, and without a report those that it had.
pub report_labels : (r : MtcReader) (b : ℕ) → ReportLabels (event_heard r b).sequence (or_fresh r) (after_heard r b)
unfolding after_piece report_of
report_labels r b =
    let o = order_of (control (or_fresh r)) (piece_of b) in
    labels_by (or_fresh r) o (number_of (control (or_fresh r)) o (piece_of b)) (piece_of b) (value_of b)

-- What a reader that holds eight pieces reports.
pub sequence_of_lem : (r : MtcReader) → sequence_of_label (raw_of r.nibbles) (direction_of r.direction) r.previous ≡ sequence_of r
unfolding sequence_of
sequence_of_lem r = refl
