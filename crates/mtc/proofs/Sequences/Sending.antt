-- What a located, running generator sends, whatever its record was: the pieces of its time, and then of the times two frames on,
-- sequence by sequence. Assumes nothing.
use Prim.Native.Nat.{ℕ, suc}
use mathlib.Core.List.{List, ◌++◌, append-nil}
use mathlib.Core.Path.{◌≡◌, refl, ◌∙◌, ap}
use Rattle.mtc.specs.Generator.{final, sequence_frames, sent_at, next_byte, after_next_byte}
use Rattle.mtc.specs.QuarterFrame.{pieces}
use Rattle.mtc.specs.Stream.{run_from, bytes_sent, in_order, SentLaw}
use Rattle.labels.specs.Time.{add_frames}
use Rattle.labels.specs.declared.time.MtcTime.{MtcTime}
use Rattle.mtc.specs.declared.generator.Direction.{Direction}
use Rattle.mtc.specs.declared.generator.Direction.TheVariants.{Forward, Reverse}
use Rattle.mtc.specs.declared.generator.MtcGenerator.{MtcGenerator}
use Rattle.labels.proofs.Laws.{moved_by_sum}

-- The time of the sequence after that of a time.
abbrev pub later_label : Direction → MtcTime → MtcTime
later_label d t = add_frames t (sequence_frames d)

-- The eight bytes of a sequence.
abbrev pub eight_bytes : Direction → MtcTime → List ℕ
eight_bytes d t = in_order d (pieces t)

-- The first eight bytes of a located, running generator are its time's sequence.
pub sends_first : (g : MtcGenerator) (t : MtcTime) (d : Direction) (k : ℕ)
    → bytes_sent (suc (suc (suc (suc (suc (suc (suc (suc k)))))))) (run_from g t d) ≡ eight_bytes d t ++ bytes_sent k (sent_at t d (final d))
unfolding bytes_sent next_byte after_next_byte pieces
sends_first g t Forward k = refl
sends_first g t Reverse k = refl

-- The eight bytes after a sequence are the sequence two frames on.
pub sends_next : (t : MtcTime) (d : Direction) (k : ℕ)
    → bytes_sent (suc (suc (suc (suc (suc (suc (suc (suc k)))))))) (sent_at t d (final d))
    ≡ eight_bytes d (later_label d t) ++ bytes_sent k (sent_at (later_label d t) d (final d))
unfolding bytes_sent next_byte after_next_byte pieces
sends_next t Forward k = refl
sends_next t Reverse k = refl

pub sends_three : (g : MtcGenerator) (t : MtcTime) (d : Direction)
    → bytes_sent 24 (run_from g t d) ≡ eight_bytes d t ++ (eight_bytes d (later_label d t) ++ eight_bytes d (later_label d (later_label d t)))
unfolding bytes_sent
sends_three g t d =
    sends_first g t d 16
    ∙ ap (λ (l : List ℕ). eight_bytes d t ++ l)
    (sends_next t d 8
    ∙ ap (λ (l : List ℕ). eight_bytes d (later_label d t) ++ l) (sends_next (later_label d t) d 0 ∙ append-nil (eight_bytes d (later_label d (later_label d t)))))

pub sent_law : SentLaw
sent_law g t Forward = sends_three g t Forward ∙ rw (moved_by_sum t (sequence_frames Forward) (sequence_frames Forward))
sent_law g t Reverse = sends_three g t Reverse ∙ rw (moved_by_sum t (sequence_frames Reverse) (sequence_frames Reverse))
