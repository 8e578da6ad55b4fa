-- `universal::message::Universal::write` meets its contract: refused in the opening, refused for its data, or closed.
-- Assumes nothing.
use native.Mathlib.Omega.{arith}
use mathlib.Core.Path.{◌≡◌, sym, ap, ◌∙◌}
use borrow.Author.Rules.{rules}
use Rattle.std.specs.Prelude.{Err}
use Rattle.std.specs.Result.{result_from_control_flow}
use Rattle.universal.proofs.Messages.{put_opened, written_as, message_stops, data_stops, message_ends, at_most_five}
use Rattle.universal.proofs.message.Universal.write.Goals as goal

pub returns-then-not-all_low : goal.returns-then-not-all_low
returns-then-not-all_low c =
    data_stops _ _ _ _ _ (put_opened _ _ (c.branch-at.ensures ∙ ap result_from_control_flow c.in_ok-at.is) c.«open».ensures)
    (sym c.all_low.ensures ∙ c.if-not-all_low.true)

pub overflow_add-at : goal.overflow_add-at
overflow_add-at c =
    omega (arith, at_most_five _ _ _ _ (put_opened _ _ (c.branch-at.ensures ∙ ap result_from_control_flow c.in_ok-at.is) c.«open».ensures))

pub returns-in_err-at : goal.returns-in_err-at
returns-in_err-at c =
    let e : c.from_residual.result ≡ Err c.in_err-at.field-0.0 = search rules in
    written_as _ _ e
    (message_stops _ _ _ _ _ (put_opened _ _ (c.branch-at.ensures ∙ ap result_from_control_flow c.in_err-at.is) c.«open».ensures))

pub returns : goal.returns
returns c =
    message_ends _ _ _ _ _ (put_opened _ _ (c.branch-at.ensures ∙ ap result_from_control_flow c.in_ok-at.is) c.«open».ensures) _ _ _
    (sym c.all_low.ensures ∙ c.if-not-all_low.false)
    c.put_part.ensures
    c.close.ensures.result_value
    c.close.ensures.out_after
    (omega arith)
