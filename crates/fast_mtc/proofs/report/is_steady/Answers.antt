-- `fast_mtc::report::is_steady` meets its contract. Assumes nothing.
use borrow.Author.Tests.{eqb-true}
use Rattle.fast_mtc.proofs.SteadyLabels.{told_forward, told_reverse}
use Rattle.fast_mtc.proofs.report.is_steady.Goals as goal

pub returns-in-Forward : goal.returns-in-Forward
returns-in-Forward c =
    λ h. told_forward _ _ _ _ _ _ c.label_word-word.ensures (c.is_in_day.ensures c.if-not-is_in_day.false) c.if-raw-lt3.false c.frames_per_second.ensures c.if-raw-frames_per_second.false c.label_word-word.type_inv c.if-words-rate_mark.false c.rate_mark.ensures.0 c.in-Forward.is (eqb-true _ _ h)

pub returns-in-Reverse : goal.returns-in-Reverse
returns-in-Reverse c =
    λ h. told_reverse _ _ _ _ _ _ c.label_word-word.ensures (c.is_in_day.ensures c.if-not-is_in_day.false) c.if-raw-lt3.false c.frames_per_second.ensures c.if-raw-frames_per_second.false c.label_word-word.type_inv c.if-words-rate_mark.false c.rate_mark.ensures.0 c.in-Reverse.is (eqb-true _ _ h)
