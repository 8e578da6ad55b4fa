-- `fast_mtc::report::keep` meets its contract. Assumes nothing.
use Rattle.std.specs.Prelude.{Some}
use Prim.Native.Nat.{ℕ}
use mathlib.Core.Path.{ap, ◌∙◌}
use Rattle.mtc.specs.Reader.{event_with}
use Rattle.fast_mtc.specs.Reader.{flat_event}
use Rattle.fast_mtc.proofs.SteadyLabels.{words_complete}
use Rattle.fast_mtc.proofs.report.keep.Goals as goal

pub returns : goal.returns
returns c =
    λ h. words_complete c.args.r.now c.args.direction c.args.s _ _ _ _ _ c.told-r c.rate_mark.ensures.0 c.label_word.ensures c.rate_mark-2.ensures.0 c.label_word-2.ensures (c.flat_event.ensures ∙ ap flat_event c.event.ensures ∙ ap (λ (p : ℕ). flat_event (event_with p (Some c.args.s))) c.last.ensures) h
