-- The invariant of the loop of `tracks::set::TrackSet::read`: the number is that of the bytes from the place on. The measure is the place.
use Rattle.tracks.proofs.Bytes.{ReadFrom}
use Rattle.tracks.proofs.set.TrackSet.read.Given as goal

abbrev pub invariant-loop-place : goal.invariant-loop-place
invariant-loop-place l = ReadFrom l.«data» l.place l.positions

abbrev pub decreases-loop-place : goal.decreases-loop-place
decreases-loop-place l = l.place
