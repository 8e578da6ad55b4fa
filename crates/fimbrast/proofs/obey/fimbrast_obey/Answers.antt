-- `fimbrast::obey::fimbrast_obey` meets its contract. Assumes nothing.
use Rattle.fimbrast.specs.Obey.{flat_run}
use Rattle.fimbrast.proofs.obey.fimbrast_obey.Goals as goal

pub returns : goal.returns
unfolding flat_run
returns c = rw (c.obey.ensures, c.from.ensures) at c.from-2.ensures
