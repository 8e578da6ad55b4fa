-- `fast_mmc::word::locate_word`: what is no Locate that the source knows is another command. Assumes nothing.
use mathlib.Core.Path.{◌∙◌, ap}
use Rattle.std.proofs.Common.{rules}
use Rattle.mmc.proofs.ReadingLaws.{locate_short, locate_no_register, locate_unknown}
use Rattle.fast_mmc.specs.Word.{command_word}
use Rattle.fast_mmc.proofs.WordReading.{locate_few}
use Rattle.fast_mmc.proofs.word.locate_word.Goals.{in_default-via-then-data-lt2, in_default-via-else-data-lt2+then-data-lt6+in_default-1, in_default-via-else-data-lt2+else-data-lt6+in_default-1, in_default-via-else-data-lt2+in-0+else-register-ne0}
use Rattle.fast_mmc.proofs.word.locate_word.Goals as goal

pub returns-in_default : goal.returns-in_default
returns-in_default c =
    c.other_word.ensures ∙ ap command_word (
    elim c.in_default.branch [
      | in_default-via-then-data-lt2 w ↦ search (rules, locate_short)
      | in_default-via-else-data-lt2+then-data-lt6+in_default-1 w ↦ search (rules, locate_few)
      | in_default-via-else-data-lt2+else-data-lt6+in_default-1 w ↦ search (rules, locate_unknown)
      | in_default-via-else-data-lt2+in-0+else-register-ne0 w ↦ search (rules, locate_no_register)
    ])
