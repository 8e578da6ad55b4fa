-- `mtc::user_bits::UserBits::write` meets its contract: refused for the device, refused for a group or the flags, or handed to
-- the message writer. Assumes nothing.
use mathlib.Core.Path.{sym, ◌∙◌}
use Rattle.mtc.proofs.Messages.MessageWriting.{bits_device, bits_groups, bits_flags}
use Rattle.universal.proofs.Clauses.{result_and_out}
use Rattle.mtc.proofs.user_bits.UserBits.write.Goals as goal

pub returns-then-self-gt127 : goal.returns-then-self-gt127
returns-then-self-gt127 c = result_and_out (bits_device _ _ c.if-self-gt127.true)

pub returns-then-not-all_nibbles : goal.returns-then-not-all_nibbles
returns-then-not-all_nibbles c = result_and_out (bits_groups _ _ c.if-self-gt127.false (sym c.all_nibbles.ensures ∙ c.if-not-all_nibbles.true))

pub returns-then-self-gt3 : goal.returns-then-self-gt3
returns-then-self-gt3 c = result_and_out (bits_flags _ _ c.if-self-gt127.false (sym c.all_nibbles.ensures ∙ c.if-not-all_nibbles.false) c.if-self-gt3.true)
