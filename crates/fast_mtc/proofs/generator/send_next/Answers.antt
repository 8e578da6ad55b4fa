-- `fast_mtc::generator::send_next` meets its contract. Assumes nothing.
use mathlib.Core.Path.{sym, ap, ◌∙◌}
use Rattle.mtc.specs.Generator.{final}
use Rattle.fast_mtc.proofs.GeneratorBytes.{moves_on}
use Rattle.fast_mtc.proofs.generator.send_next.Goals as goal

pub returns : goal.returns
returns c =
    let way = c.direction_at-direction.ensures in
    moves_on c.args.g.now _ _ _ _ c.requires.0 way (c.requires.1 ∙ ap final (sym way)) c.first.ensures.0 c.move_on.ensures c.send.ensures
