-- `labels::time::MtcTime::add_frames` meets its contract. Assumes nothing.
use Rattle.labels.proofs.Rates.{sum_fits, moved_at}
use mathlib.Core.Path.{◌∙◌}
use Rattle.labels.proofs.Distance.{passed_mod}
use Rattle.labels.proofs.time.MtcTime.add_frames.Goals as goal

pub overflow_add-to_frame_count : goal.overflow_add-to_frame_count
overflow_add-to_frame_count c =
    sum_fits c.args.self c.args.delta _ _ _ c.to_frame_count.ensures c.day.ensures (passed_mod _ _ _ c.ranges.delta c.reduced-step.ensures)

pub returns : goal.returns
returns c =
    c.from_frame_count.ensures ∙ moved_at _ _ _ _ _ c.to_frame_count.ensures c.day.ensures (passed_mod _ _ _ c.ranges.delta c.reduced-step.ensures)
