-- `tracks::set::position_of` meets its contract. Assumes nothing.
use mathlib.Core.Path.{ap}
use native.Mathlib.Omega.{arith}
use borrow.Author.Tests.{le-leb}
use Rattle.std.proofs.Common.{ℕ, ◌≤◌}
use Rattle.universal.specs.Refusals.{gives}
use Rattle.tracks.proofs.set.position_of.Goals as goal

pub returns : goal.returns
returns c =
    let first : 1 ≤ c.args.track = omega (arith, c.if-track-eq0.false) in
    rw (le-leb 1 c.args.track first, le-leb c.args.track 58 c.if-track-gt-LAST_TRACK.false)
    (ap (λ (position : ℕ). gives position) (omega arith))
