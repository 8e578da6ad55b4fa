-- `fast_mtc::receive::directed` meets its contract. Assumes nothing.
use mathlib.Core.Path.{ap, ◌∙◌}
use borrow.Author.Rules.{rules}
use Rattle.mtc.specs.QuarterFrame.{piece_of}
use Rattle.fast_mtc.specs.Clauses.{order_out}
use Rattle.fast_mtc.proofs.Orders.{outside_small}
use Rattle.fast_mtc.proofs.PassedPieces.{kept_outside, kept_unlocked, outside_on, outside_off}
use Rattle.fast_mtc.proofs.receive.directed.Goals as goal

pub returns-then-order-order_out : goal.returns-then-order-order_out
returns-then-order-order_out g c =
    outside_on _ _ _ _ c.told-r g.W.Way.WAY c.requires (c.if-order-order_out.true ∙ c.order_out.ensures ∙ ap (λ d. order_out d (piece_of c.args.byte)) c.WAY.ensures) c.go.ensures

pub pass-requires : goal.pass-requires
pass-requires g c =
    ((outside_small g.W.Way.WAY c.requires).1, (search rules, kept_unlocked _ c.told-r (kept_outside _ c.told-r g.W.Way.WAY c.requires)))

pub returns : goal.returns
returns g c =
    outside_off _ _ _ _ c.told-r g.W.Way.WAY c.requires (λ e. c.if-order-order_out.false (rw (c.order_out.ensures, c.WAY.ensures) e)) c.pass.ensures
