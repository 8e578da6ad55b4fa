-- `mmc::write::open_commands` meets its contract. Assumes nothing.
use Rattle.mmc.proofs.Writing.WriterCalls.{opens_commands}
use Rattle.mmc.proofs.write.open_commands.Goals as goal

pub returns-clause-result_value : goal.returns-clause-result_value
returns-clause-result_value c = opens_commands _ _ _ c.opened_writer.ensures c.«open».ensures.result_value
