-- `transport::transport::apply` meets its contract. Assumes nothing.
use mathlib.Core.Path.{sym, ◌∙◌}
use Rattle.transport.proofs.Acting.{mine}
use Rattle.transport.proofs.transport.apply.Goals as goal

pub returns : goal.returns
returns c = c.act.ensures ∙ sym (mine _ _ _ _ c.if-device_id-gt127.false c.if-own-gt127.false (sym c.addressed.ensures ∙ c.if-not-addressed.false))
