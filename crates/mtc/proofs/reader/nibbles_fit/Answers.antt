-- `mtc::reader::nibbles_fit` meets its contract: all of eight are the first eight. Assumes nothing.
use mathlib.Core.Path.{◌∙◌}
use borrow.Author.Rules.{rules}
use Rattle.mtc.proofs.ReaderCalls.{fit_all}
use Rattle.mtc.proofs.reader.nibbles_fit.Goals as goal

pub returns : goal.returns
returns c = c.all_nibbles.ensures ∙ fit_all _ (search rules)
