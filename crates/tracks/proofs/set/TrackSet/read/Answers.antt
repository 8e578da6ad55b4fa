-- `tracks::set::TrackSet::read` meets its contract: at most nine bytes, from the last to the first. Assumes nothing.
use mathlib.Core.Path.{◌≡◌}
use native.Mathlib.Omega.{arith}
use borrow.Author.Tests.{lt-leb, le-leb}
use Rattle.tracks.proofs.Bytes.{read_none, read_room, read_more, read_all}
use Rattle.tracks.specs.Rp013Tracks.{position_in_data}
use Rattle.tracks.specs.Tracks.{as_number, read_tracks}
use Rattle.tracks.proofs.set.TrackSet.read.Goals as goal

pub returns-then-data-gt-BYTES : goal.returns-then-data-gt-BYTES
unfolding read_tracks
returns-then-data-gt-BYTES c = rw (lt-leb _ _ c.if-data-gt-BYTES.true)

pub loop-place-init : goal.loop-place-init
loop-place-init c = read_none _ c.if-data-gt-BYTES.false

pub overflow_mul-positions : goal.overflow_mul-positions
overflow_mul-positions c = omega (arith, read_room _ _ _ c.loop-place.invariant c.loop-place-test.true)

pub bounds-data-place : goal.bounds-data-place
bounds-data-place c = omega (arith, c.loop-place.invariant.inside, c.loop-place-test.true)

pub overflow_add-positions : goal.overflow_add-positions
overflow_add-positions c = omega (arith, read_room _ _ _ c.loop-place.invariant c.loop-place-test.true, c.from.ensures)

pub loop-place-preserved : goal.loop-place-preserved
loop-place-preserved c = rw c.from.ensures (read_more _ _ _ c.loop-place.invariant c.loop-place-test.true)

pub returns : goal.returns
unfolding read_tracks
returns c =
    let front : c.loop-place.place ≡ 0 = omega (arith, c.loop-place-test.false) in
    let positions : c.loop-place.positions ≡ as_number (position_in_data c.args.«data».now) 63 =
    read_all _ _ (rw front at c.loop-place.invariant) in
    rw (le-leb _ _ c.if-data-gt-BYTES.false, positions)
