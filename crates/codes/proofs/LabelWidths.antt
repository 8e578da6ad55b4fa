-- A label that passed its check fits its widths. Assumes nothing.
use mathlib.Core.Path.{◌≡◌, sym, ◌∙◌}
use mathlib.Core.Bool.{Bool, true}
use Rattle.labels.specs.St12.{is_valid}
use Rattle.labels.specs.declared.time.MtcTime.{MtcTime}
use Rattle.labels.proofs.Laws.{Widths, valid_widths}
use Rattle.universal.proofs.Tests.{true_holds}

-- A label that passed its check fits its widths.
pub label_widths : (t : MtcTime) (valid : Bool) → valid ≡ is_valid t → valid ≡ true → Widths t
label_widths t valid v n = valid_widths t (true_holds _ (sym v ∙ n))
