-- `labels::computed::minute_start` meets its contract. Assumes nothing.
use native.Mathlib.Omega.{arith}
use Rattle.labels.proofs.MinuteStarts.{minute_start_is}
use Rattle.labels.proofs.computed.minute_start.Goals as goal

pub returns : goal.returns
returns c =
    let rule = minute_start_is c.args.minute (omega (arith, c.requires)) in
    omega (arith, rule)
