-- `tracks::set::TrackSet::tracks` meets its contract. Assumes nothing.
use Rattle.tracks.proofs.Positions.{tracks_mask}
use Rattle.tracks.proofs.set.TrackSet.tracks.Goals as goal

pub returns : goal.returns
returns c = tracks_mask c.args.self
