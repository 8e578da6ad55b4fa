-- `universal::message::Universal::put_start` meets its contract: three bytes, one after the other. Assumes nothing.
use mathlib.Core.Path.{refl, ◌∙◌}
use mathlib.Core.List.{[], ◌∷◌}
use Rattle.universal.proofs.Laws.{overlay_then}
use Rattle.universal.proofs.message.Universal.put_start.Goals as goal

pub returns : goal.returns
returns c =
    overlay_then _ _ _ 0 2 (_ ∷ _ ∷ []) (_ ∷ [])
    (overlay_then _ _ _ 0 1 (_ ∷ []) (_ ∷ []) c.put.ensures (c.put-2.ensures ∙ rw c.class_id.ensures) refl)
    c.put-3.ensures refl
