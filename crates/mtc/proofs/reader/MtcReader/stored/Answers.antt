-- `mtc::reader::MtcReader::stored` meets its contract. Assumes nothing.
use mathlib.Core.Path.{◌∙◌}
use Rattle.mtc.proofs.reader.MtcReader.stored.Goals as goal

pub returns : goal.returns
returns c = c.with_piece.ensures ∙ rw c.began.ensures
