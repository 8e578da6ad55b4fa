-- `labels::time::MtcTime::to_frame_count` meets its contract. Assumes nothing.
use mathlib.Core.Path.{◌∙◌, sym}
use native.Mathlib.Omega.{arith}
use Rattle.labels.proofs.Rates.{drop_by_formula, even_by_formula}
use Rattle.labels.proofs.time.MtcTime.to_frame_count.Goals as goal

pub returns-then-is_drop_frame : goal.returns-then-is_drop_frame
returns-then-is_drop_frame c =
    drop_by_formula _ _ _ c.day.ensures _ c.drop_count.ensures (omega arith) (sym c.is_drop_frame.ensures ∙ c.if-is_drop_frame.true)

pub returns : goal.returns
returns c = even_by_formula _ _ _ c.day-2.ensures c.frames_per_second.ensures (sym c.is_drop_frame.ensures ∙ c.if-is_drop_frame.false)
