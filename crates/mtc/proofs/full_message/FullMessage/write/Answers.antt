-- `mtc::full_message::FullMessage::write` meets its contract: refused for the device, refused for the label, or handed to the
-- message writer. Assumes nothing.
use mathlib.Core.Path.{sym, ◌∙◌}
use Rattle.mtc.proofs.Messages.MessageWriting.{full_device, full_label}
use Rattle.universal.proofs.Clauses.{result_and_out}
use Rattle.mtc.proofs.full_message.FullMessage.write.Goals as goal

pub returns-then-self-gt127 : goal.returns-then-self-gt127
returns-then-self-gt127 c = result_and_out (full_device _ _ c.if-self-gt127.true)

pub returns-then-not-is_valid : goal.returns-then-not-is_valid
returns-then-not-is_valid c = result_and_out (full_label _ _ c.if-self-gt127.false (sym c.is_valid.ensures ∙ c.if-not-is_valid.true))
