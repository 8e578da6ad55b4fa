-- `transport::transport::resolve` meets its contract. Assumes nothing.
use Rattle.std.specs.Prelude.{Some}
use mathlib.Core.Path.{sym, ap, ◌∙◌}
use mathlib.Core.Bool.{true, false}
use Rattle.transport.proofs.Targets.{valid_some}
use Rattle.transport.proofs.transport.resolve.Goals as goal

pub returns-then-code-2 : goal.returns-then-code-2
returns-then-code-2 c =
    let valid = sym c.is_valid.ensures ∙ c.if-not-is_valid.false in
    ap Some c.before_midnight.ensures
    ∙ sym (valid_some c.args.code c.next_valid-moved.result true c.if-code.false c.if-code-2.true c.next_valid-moved.ensures valid)

pub returns : goal.returns
returns c =
    let valid = sym c.is_valid.ensures ∙ c.if-not-is_valid.false in
    sym (valid_some c.args.code c.next_valid-moved.result false c.if-code.false c.if-code-2.false c.next_valid-moved.ensures valid)
