-- `fast_mtc::receive::next` meets its contract. Assumes nothing.
use mathlib.Core.Path.{ap, ◌∙◌}
use Rattle.mtc.specs.Generator.{final}
use Rattle.fast_mtc.proofs.ReceivedPieces.{next_ends}
use Rattle.fast_mtc.proofs.receive.next.Goals as goal

pub returns-then-p-last : goal.returns-then-p-last
returns-then-p-last g c =
    next_ends g.W.Way.WAY _ _ _ c.told-r c.requires.0 c.requires.1 _ _ (c.if-p-last.true ∙ c.last.ensures ∙ ap final c.WAY-3.ensures)
    (rw (c.order_in.ensures, c.after.ensures.0, c.WAY.ensures, c.WAY-2.ensures, c.WAY-then-p-last.ensures) at c.complete.ensures)
