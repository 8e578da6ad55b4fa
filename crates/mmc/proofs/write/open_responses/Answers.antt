-- `mmc::write::open_responses` meets its contract. Assumes nothing.
use mathlib.Core.Path.{ap, sym, ◌∙◌}
use Rattle.universal.specs.Overlay.{overlay}
use Rattle.mmc.proofs.Writing.WriterCalls.{opens_responses, response_opening}
use Rattle.mmc.proofs.write.open_responses.Goals as goal

pub returns-clause-result_value : goal.returns-clause-result_value
returns-clause-result_value c = opens_responses _ _ _ c.if-device_id-eq127.false c.opened_writer.ensures c.«open».ensures.result_value

pub returns-clause-out_after : goal.returns-clause-out_after
returns-clause-out_after c =
    c.«open».ensures.out_after ∙ ap (λ e. overlay c.args.out.now 0 e.bytes) (sym (response_opening c.args.device_id c.if-device_id-eq127.false))
