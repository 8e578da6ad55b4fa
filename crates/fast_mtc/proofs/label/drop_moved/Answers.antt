-- `fast_mtc::label::drop_moved` meets its contract. Assumes nothing.
use Rattle.labels.proofs.Laws.{passed_mod}
use Rattle.fast_mtc.proofs.LabelShortWays.{moved_fits}
use Rattle.fast_mtc.proofs.label.drop_moved.Goals as goal

pub overflow_add-n : goal.overflow_add-n
overflow_add-n c = moved_fits _ _ _ c.requires (passed_mod _ _ _ c.ranges.delta c.reduced.ensures)
