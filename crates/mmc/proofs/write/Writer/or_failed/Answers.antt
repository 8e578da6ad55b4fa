-- `mmc::write::Writer::or_failed` meets its contract. Assumes nothing.
use native.Mathlib.Omega.{arith}
use Rattle.mmc.proofs.Writing.WriterCalls.{as_it_is}
use Rattle.mmc.proofs.write.Writer.or_failed.Goals as goal

pub returns : goal.returns
returns c = as_it_is _ (omega arith) (omega arith)
