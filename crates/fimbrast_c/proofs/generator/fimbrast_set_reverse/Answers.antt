-- `fimbrast_c::generator::fimbrast_set_reverse` meets its contract. Assumes nothing.
use Rattle.fimbrast_c.proofs.generator.fimbrast_set_reverse.Goals as goal

pub returns : goal.returns
returns c = cc
