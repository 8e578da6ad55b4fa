-- `fast_mtc::receive::begun` meets its contract. Assumes nothing.
use mathlib.Core.Path.{ap, ◌∙◌}
use borrow.Author.Rules.{rules}
use Rattle.mtc.specs.Generator.{final}
use Rattle.fast_mtc.proofs.PassedPieces.{kept_begun, begun_on, begun_turned, begun_apart}
use Rattle.fast_mtc.proofs.receive.begun.Goals as goal

pub returns-then-p-after : goal.returns-then-p-after
returns-then-p-after g c =
    rw (c.order_in.ensures, c.after-then-p-after.ensures.0, c.WAY-then-p-after.ensures, c.WAY-then-p-after-2.ensures)
    (begun_on g.W.Way.WAY _ _ _ c.told-r c.requires (rw (c.after.ensures.0, c.first-first.ensures.0, c.WAY.ensures, c.WAY-2.ensures) at c.if-p-after.true) c.quiet.ensures)

pub turn-requires : goal.turn-requires
turn-requires g c = (search rules, rw (c.first-first.ensures.0, c.WAY.ensures) (kept_begun _ c.told-r g.W.Way.WAY c.requires).0)

pub returns-then-p-last : goal.returns-then-p-last
returns-then-p-last g c =
    begun_turned _ _ _ _ c.told-r g.W.Way.WAY c.requires
    (λ e. c.if-p-after.false (rw (c.after.ensures.0, c.first-first.ensures.0, c.WAY.ensures, c.WAY-2.ensures) e))
    (c.if-p-last.true ∙ c.last.ensures ∙ ap final c.WAY-3.ensures) (rw (c.first-first.ensures.0, c.WAY.ensures) at c.turn.ensures)

pub go_nowhere-requires : goal.go_nowhere-requires
go_nowhere-requires g c = (search rules, rw (c.first-first.ensures.0, c.WAY.ensures) (kept_begun _ c.told-r g.W.Way.WAY c.requires).1)

pub returns : goal.returns
returns g c =
    begun_apart _ _ _ _ c.told-r g.W.Way.WAY c.requires
    (λ e. c.if-p-after.false (rw (c.after.ensures.0, c.first-first.ensures.0, c.WAY.ensures, c.WAY-2.ensures) e))
    (λ e. c.if-p-last.false (rw (c.last.ensures, c.WAY-3.ensures) e)) (rw (c.first-first.ensures.0, c.WAY.ensures) at c.go_nowhere.ensures)
