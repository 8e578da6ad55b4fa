-- `transport::transport::locate`: located and stopped is what the definition says. Assumes nothing.
use mathlib.Core.Path.{sym, ap, ◌∙◌}
use Rattle.transport.specs.Transport.{finished, stopped, locate_outcome, acted}
use Rattle.transport.proofs.transport.locate.Goals as goal

pub returns-in-Some : goal.returns-in-Some
unfolding acted
returns-in-Some c =
    ap finished (c.run.ensures ∙ ap stopped c.locate-there.ensures)
    ∙ ap (locate_outcome c.args.generator) (sym c.in-Some.is ∙ c.resolve.ensures)
