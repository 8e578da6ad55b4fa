-- `fast_mtc::label::two_later` meets its contract. Assumes nothing.
use native.Mathlib.Omega.{arith}
use Rattle.labels.proofs.Laws.{two_later}
use Rattle.fast_mtc.proofs.LabelShortWays.{two_fit}
use Rattle.fast_mtc.proofs.label.two_later.Goals as goal

pub returns : goal.returns
returns c =
    let d = c.is_in_day.ensures c.if-not-is_in_day.false in
    two_later _ _ _ _ _ d.0 d.1.0 d.1.1 (omega (arith, c.if-t-frames_per_second.false, c.frames_per_second.ensures, two_fit c.args.t.rate))
