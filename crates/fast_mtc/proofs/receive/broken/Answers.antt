-- `fast_mtc::receive::broken` meets its contract. Assumes nothing.
use Rattle.fast_mtc.proofs.PassedPieces.{broken_off}
use Rattle.fast_mtc.proofs.receive.broken.Goals as goal

pub returns : goal.returns
returns g c =
    broken_off _ _ _ _ c.told-r g.W.Way.WAY c.requires.0 c.requires.1 (rw (c.first.ensures.0, c.WAY.ensures) at c.pass.ensures)
