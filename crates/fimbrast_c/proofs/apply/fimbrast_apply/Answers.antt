-- `fimbrast_c::apply::fimbrast_apply` meets its contract. Assumes nothing.
use Rattle.fimbrast_c.proofs.apply.fimbrast_apply.Goals as goal

pub returns : goal.returns
returns c = c.fimbrast_apply.ensures
