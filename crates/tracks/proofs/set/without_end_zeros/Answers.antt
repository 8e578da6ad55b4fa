-- `tracks::set::without_end_zeros` meets its contract. Assumes nothing.
use native.Mathlib.Omega.{arith}
use Rattle.tracks.proofs.Bytes.{zeros_none, zeros_more, zeros_empty, zeros_stop}
use Rattle.tracks.proofs.set.without_end_zeros.Goals as goal
use Rattle.tracks.proofs.set.without_end_zeros.Goals.{then-loop-end-test+else-bytes-end-eq0, else-loop-end-test}

pub loop-end-init : goal.loop-end-init
loop-end-init c = zeros_none _

pub bounds-bytes-end : goal.bounds-bytes-end
bounds-bytes-end c = omega (arith, c.loop-end.invariant.inside, c.loop-end-test.true)

pub loop-end-preserved : goal.loop-end-preserved
loop-end-preserved c = zeros_more _ _ c.loop-end.invariant c.loop-end-test.true c.if-bytes-end-eq0.true

pub returns : goal.returns
returns c =
    elim c.loop-end-test.branch [
      | then-loop-end-test+else-bytes-end-eq0 w ↦ zeros_stop _ _ c.loop-end.invariant w.loop-end-test.true w.if-bytes-end-eq0.false
      | else-loop-end-test w ↦ zeros_empty _ _ c.loop-end.invariant (omega (arith, w.loop-end-test.false))
    ]
