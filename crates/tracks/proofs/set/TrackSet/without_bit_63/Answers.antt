-- `tracks::set::TrackSet::without_bit_63` meets its contract. Assumes nothing.
use mathlib.Core.Path.{ap}
use Rattle.std.proofs.Common.{ℕ}
use Rattle.tracks.proofs.Positions.{known_mask}
use Rattle.tracks.proofs.set.TrackSet.without_bit_63.Goals as goal

pub returns : goal.returns
returns c = ap (λ (n : ℕ). record { positions = n }) (known_mask c.args.self)
