-- `mtc::reader::MtcReader::or_fresh` meets its contract. Assumes nothing.
use mathlib.Core.Path.{◌∙◌, sym}
use Rattle.mtc.proofs.ReaderCalls.{unsound_fresh}
use Rattle.mtc.proofs.reader.MtcReader.or_fresh.Goals as goal

pub returns : goal.returns
returns c = rw c.new.ensures (unsound_fresh _ (sym c.if-is_sound.false ∙ c.is_sound.ensures))
