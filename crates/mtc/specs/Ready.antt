-- A reader on one whole sequence: when it is ready for one, and what it then answers and leaves. Assumes nothing.
use Rattle.std.specs.Prelude.{ℕ, List, [], ◌∷◌, ◌++◌, map, ◌⊎◌, ◌≡◌, Option, Some, None}
use Rattle.mtc.specs.Generator.{first}
use Rattle.mtc.specs.QuarterFrame.{value_of}
use Rattle.mtc.specs.Reader.{Sound, Control, control, order_of, number_of, raw_of, sequence_of_label}
use Rattle.mtc.specs.Stream.{byte, after_calls, events, silent, in_order}
use Rattle.labels.specs.declared.time.MtcTime.{MtcTime}
use Rattle.mtc.specs.declared.generator.Direction.{Direction}
use Rattle.mtc.specs.declared.reader.MtcReader.{MtcReader}

-- ---- ready

-- The direction's first piece is number 1 of a sequence.
abbrev pub Starts : Direction → Control → Type 0
Starts d c = number_of c (order_of c (first d)) (first d) ≡ 1

-- Ready for a sequence of a direction: the record is one that calls leave, and the direction's first piece starts a sequence.
pub record Ready (d : Direction) (r : MtcReader) : Type 0 where
  pub sound : Sound r
  pub starts : Starts d (control r)

-- No direction is known, or this one.
abbrev pub NotAgainst : Direction → Option Direction → Type 0
NotAgainst d m = (m ≡ None) ⊎ (m ≡ Some d)

-- ---- eight bytes

-- The pieces of a sequence, in a direction's order.
abbrev pub eight_pieces : Direction → List ℕ
eight_pieces d = in_order d (0 ∷ 1 ∷ 2 ∷ 3 ∷ 4 ∷ 5 ∷ 6 ∷ 7 ∷ [])

-- The label that the nibbles of eight bytes make, which came in a direction's order.
abbrev pub label_of_bytes : Direction → List ℕ → MtcTime
label_of_bytes d bs = raw_of (map value_of (in_order d bs))

-- The reader that bytes leave.
abbrev pub after_bytes : MtcReader → List ℕ → MtcReader
after_bytes r bs = after_calls r (map byte bs)

-- Bytes are read as a label: eight are heard, of which seven report nothing and the eighth reports the label, and the reader is ready for
-- the next sequence, with the label as the previous one.
pub record ReadsLabel (d : Direction) (bs : List ℕ) (t : MtcTime) (r : MtcReader) : Type 0 where
  pub reports : map (λ e. e.sequence) (events r bs) ≡ silent 7 ++ (Some (sequence_of_label t d r.previous) ∷ [])
  pub ready : Ready d (after_bytes r bs)
  pub previous : (after_bytes r bs).previous ≡ Some t
