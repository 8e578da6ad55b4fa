-- `fimbrast::feed::fimbrast_feed` meets its contract. Assumes nothing.
use native.Mathlib.Omega.{arith}
use Rattle.fast_mtc.proofs.Laws.{none_reported}
use Rattle.fimbrast.specs.Feed.{flat_fed}
use Rattle.fimbrast.proofs.Feeding.{before_all, after_one, after_all}
use Rattle.fimbrast.proofs.feed.fimbrast_feed.Goals as goal

pub loop-byte-init : goal.loop-byte-init
unfolding flat_fed
loop-byte-init c = before_all _ _ _ (rw none_reported)

pub counted-f-requires : goal.counted-f-requires
counted-f-requires c =
    let i = c.loop-byte.invariant in
    (omega (arith, i.reports), omega (arith, i.discontinuities), omega (arith, i.refused))

pub loop-byte-preserved : goal.loop-byte-preserved
loop-byte-preserved c =
    after_one _ _ _ _ _ _ _ _ c.loop-byte.invariant c.loop-byte-test.true c.receive.ensures.0 c.receive.ensures.1 c.receive.ensures.2 c.counted-f.ensures

pub returns : goal.returns
returns c = after_all _ _ _ _ _ c.loop-byte.invariant c.loop-byte-test.false
