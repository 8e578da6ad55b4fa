-- `tracks::set::TrackSet::bytes` meets its contract. Assumes nothing.
use mathlib.Core.Path.{refl}
use native.Mathlib.Omega.{arith}
use Rattle.tracks.proofs.Bytes.{bytes_made, byte_made}
use Rattle.tracks.proofs.set.TrackSet.bytes.Goals as goal

pub loop-place-init : goal.loop-place-init
loop-place-init c = record { nine = refl; inside = omega arith; made = λ k l. absurd (omega (arith, l)) }

pub loop-place-preserved : goal.loop-place-preserved
loop-place-preserved c = rw c.byte.ensures (byte_made _ _ _ c.loop-place.invariant c.loop-place-test.true)

pub returns : goal.returns
returns c = bytes_made _ _ _ c.loop-place.invariant c.loop-place-test.false
