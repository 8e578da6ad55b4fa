-- `fimbrast::time::fimbrast_add_frames` meets its contract. Assumes nothing.
use mathlib.Core.Path.{ap, ◌∙◌}
use mir.Syntax.{w32}
use mir.ValLaws.{to_z-of_z}
use Rattle.fast_mtc.proofs.Laws.{number_time}
use Rattle.fast_mtc.specs.Time.{time_numbered}
use Rattle.labels.proofs.Laws.{moved_valid}
use Rattle.fimbrast.proofs.time.fimbrast_add_frames.Goals as goal

pub returns : goal.returns
returns c =
    c.time_numbered.ensures
    ∙ ap time_numbered
    (c.number_after.ensures
    ∙ rw (to_z-of_z w32 _ c.ranges.delta, c.from.ensures))
    ∙ number_time _ (moved_valid _ _)
