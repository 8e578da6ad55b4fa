-- The invariant of the loop of `tracks::set::TrackSet::bytes`: the bytes below the place are the set's.
use Rattle.tracks.proofs.Bytes.{BytesBelow}
use Rattle.tracks.specs.Tracks.{positions_in}
use Rattle.tracks.proofs.set.TrackSet.bytes.Given as goal

abbrev pub invariant-loop-place : goal.invariant-loop-place
invariant-loop-place l = BytesBelow (positions_in l.self) l.place l.bytes
