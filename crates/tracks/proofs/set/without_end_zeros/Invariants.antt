-- The invariant of the loop of `tracks::set::without_end_zeros`: from the end on all bytes are zeros. The measure is the end.
use Rattle.tracks.proofs.Bytes.{ZerosFrom}
use Rattle.tracks.proofs.set.without_end_zeros.Given as goal

abbrev pub invariant-loop-end : goal.invariant-loop-end
invariant-loop-end l = ZerosFrom l.bytes l.end

abbrev pub decreases-loop-end : goal.decreases-loop-end
decreases-loop-end l = l.end
