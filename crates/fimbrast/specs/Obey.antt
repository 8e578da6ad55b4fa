-- What became of a string's commands, as a flat record. Assumes nothing.
use Rattle.fimbrast.specs.declared.obey.FlatRun.{FlatRun}
use Rattle.fast_mtc.specs.Generator.{flat_generator}
use Rattle.transport.specs.Demand3.{Run}
use Rattle.transport.specs.Obey.{Summary, summary}

-- The generator flat, the numbers as they are, the refusal by its number.
unfoldable pub flat_summary : Summary → FlatRun
flat_summary s =
    record { generator = flat_generator s.generator; commands = s.commands; refused = s.refused; stop = s.stop.number }

unfoldable pub flat_run : Run → FlatRun
flat_run r = flat_summary (summary r)
