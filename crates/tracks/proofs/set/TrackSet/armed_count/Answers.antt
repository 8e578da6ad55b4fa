-- `tracks::set::TrackSet::armed_count` meets its contract: the ones of the tracks' bits are counted. Assumes nothing.
use mathlib.Core.Path.{ap, ◌∙◌}
use lib.Count.{ones}
use Rattle.tracks.proofs.Armed.{tracks_counted}
use Rattle.tracks.specs.Tracks.{positions_in}
use Rattle.tracks.proofs.set.TrackSet.armed_count.Goals as goal

pub returns : goal.returns
returns c = ap ones c.tracks.ensures ∙ tracks_counted (positions_in c.args.self)
