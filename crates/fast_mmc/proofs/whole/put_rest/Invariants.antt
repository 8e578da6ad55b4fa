-- `fast_mmc::whole::put_rest` meets its contract. The loop's invariant: the words so far lead from the opening to this writer and buffer.
-- Assumes nothing.
use Rattle.mmc.specs.Write.{writing_of}
use Rattle.fast_mmc.specs.Clauses.{open_writing}
use Rattle.fast_mmc.proofs.WordPuts.{Gone}
use Rattle.fast_mmc.proofs.whole.put_rest.Given as goal

abbrev pub invariant-loop-word : goal.invariant-loop-word
invariant-loop-word l = Gone (open_writing l.at l.items) l.initial.out 0 l.words (writing_of l.w) l.out l.word-index
