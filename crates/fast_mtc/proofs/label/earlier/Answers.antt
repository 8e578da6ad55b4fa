-- `fast_mtc::label::earlier` meets its contract. Assumes nothing.
use native.Mathlib.Omega.{arith}
use Rattle.fast_mtc.proofs.LabelShortWays.{frames_earlier}
use Rattle.fast_mtc.proofs.label.earlier.Goals as goal

pub returns : goal.returns
returns g c =
    let d = c.is_in_day.ensures c.if-not-is_in_day.false in
    frames_earlier _ _ _ _ _ _ d.0 d.1.0 d.1.1 c.requires.0 c.if-t.false (omega (arith, c.if-t-frames_per_second.false, c.frames_per_second.ensures))
