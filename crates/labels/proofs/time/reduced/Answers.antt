-- `labels::time::reduced` meets its contract. Assumes nothing.
use Rattle.labels.proofs.Distance.{back_mod, ahead_mod}
use Rattle.labels.proofs.time.reduced.Goals as goal

pub returns-then-delta-lt0 : goal.returns-then-delta-lt0
returns-then-delta-lt0 c = back_mod _ _ c.ranges.delta c.if-delta-lt0.true

pub returns : goal.returns
returns c = ahead_mod _ _ c.ranges.delta c.if-delta-lt0.false
