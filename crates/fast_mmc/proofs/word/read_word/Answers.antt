-- `fast_mmc::word::read_word`: what a known name is read as. Assumes nothing.
use mathlib.Core.Path.{◌∙◌}
use Rattle.mmc.specs.Command as K
use Rattle.mmc.proofs.ReadingLaws.{names_read}
use Rattle.fast_mmc.specs.Word.{command_word}
use Rattle.fast_mmc.proofs.WordReading.{byte_word}
use Rattle.fast_mmc.proofs.word.read_word.Goals as goal

pub returns-in-64 : goal.returns-in-64
unfolding command_word
returns-in-64 c = c.with_bytes.ensures ∙ byte_word _ _ _ _ 64 K.write c.in-64.is (names_read _).write

pub returns-in-68 : goal.returns-in-68
returns-in-68 c = c.locate_word.ensures ∙ byte_word _ _ _ _ 68 _ c.in-68.is (names_read _).locate

pub returns-in-76 : goal.returns-in-76
returns-in-76 c = c.move_word.ensures ∙ byte_word _ _ _ _ 76 _ c.in-76.is (names_read _).move
