-- `mmc::write::Writer::close_message` meets its contract. Assumes nothing.
use native.Mathlib.Omega.{arith}
use Rattle.mmc.proofs.Writing.WriterCalls.{close_sent, ends_closed}
use borrow.Author.Rules.{rules}
use Rattle.mmc.proofs.write.Writer.close_message.Goals as goal

pub returns-clause-result_value : goal.returns-clause-result_value
returns-clause-result_value c =
    (ends_closed _ _ _ _ (close_sent _ (search rules) c.if-self-lt5.false (omega arith)) (omega arith) c.close.ensures.result_value c.close.ensures.out_after (omega arith)).0
