-- `fast_mmc::whole::write_by_writer` meets its contract. Assumes nothing.
use Rattle.fast_mmc.proofs.WordPuts.{opened_words}
use Rattle.universal.proofs.Clauses.{value_and_out}
use Rattle.fast_mmc.proofs.whole.write_by_writer.Goals as goal

pub returns : goal.returns
returns c = value_and_out (opened_words _ _ _ _ _ _ c.requires c.put_start.ensures (c.put_rest.ensures.value, c.put_rest.ensures.out_after))
