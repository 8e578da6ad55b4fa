-- `fimbrast::time::fimbrast_from_frame_count` meets its contract. Assumes nothing.
use mathlib.Core.Path.{ap, ◌∙◌}
use Rattle.fast_mtc.proofs.Laws.{number_time}
use Rattle.fast_mtc.specs.Time.{time_numbered}
use Rattle.labels.proofs.Laws.{label_valid}
use Rattle.fimbrast.proofs.time.fimbrast_from_frame_count.Goals as goal

pub returns : goal.returns
returns c =
    c.time_numbered.ensures
    ∙ ap time_numbered (c.number_at.ensures ∙ rw c.from_bits.ensures)
    ∙ number_time _ (label_valid _ _)
