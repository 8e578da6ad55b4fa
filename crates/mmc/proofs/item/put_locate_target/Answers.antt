-- `mmc::item::put_locate_target` meets its contract: the time code stands behind the three bytes. Assumes nothing.
use mathlib.Core.Path.{ap, sym, refl, ◌∙◌}
use mathlib.Core.List.{[], ◌∷◌}
use Rattle.mmc.specs.Item.{code_item}
use Rattle.universal.specs.Emission.{sent, ◌then◌}
use Rattle.mmc.proofs.Writing.EmissionPuts.{left_behind}
use Rattle.mmc.proofs.Writing.ItemPuts.{target_sent, standard_code}
use Rattle.mmc.proofs.item.put_locate_target.Goals as goal

pub returns-in-Subframes-clause-out_after : goal.returns-in-Subframes-clause-out_after
returns-in-Subframes-clause-out_after c =
    left_behind _ (68 ∷ 6 ∷ 1 ∷ []) _ _ _ _ _ _
    (target_sent c.args.target _ c.in-Subframes.is refl
    ∙ ap (λ x. sent (68 ∷ 6 ∷ 1 ∷ []) then x) (standard_code c.args.target ∙ ap code_item (sym c.to_bytes.ensures)))
    c.put_part.ensures c.put_code.ensures.out_after refl
