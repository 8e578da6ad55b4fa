-- `labels::time::MtcTime::from_frame_count` meets its contract. Assumes nothing.
use mathlib.Core.Path.{◌∙◌}
use Rattle.labels.proofs.Rates.{label_at_lem}
use Rattle.labels.proofs.time.MtcTime.from_frame_count.Goals as goal

pub returns : goal.returns
returns c = c.label_of.ensures ∙ label_at_lem _ _ _ _ c.args.rate c.day.ensures c.with_skipped-n.ensures c.frames_per_second-fps.ensures
