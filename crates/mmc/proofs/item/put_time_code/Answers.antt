-- `mmc::item::put_time_code` meets its contract: the time code stands behind its name. Assumes nothing.
use mathlib.Core.Path.{ap, sym, refl, ◌∙◌}
use mathlib.Core.List.{[], ◌∷◌}
use Rattle.mmc.specs.Item.{code_item}
use Rattle.universal.specs.Emission.{sent, ◌then◌}
use Rattle.mmc.proofs.Writing.EmissionPuts.{left_behind}
use Rattle.mmc.proofs.Writing.ItemPuts.{code_sent, standard_code}
use Rattle.mmc.proofs.item.put_time_code.Goals as goal

pub returns-clause-out_after : goal.returns-clause-out_after
returns-clause-out_after c =
    left_behind _ (c.args.field ∷ []) _ _ _ _ _ _
    (code_sent _ _ (sym c.code_fits.ensures ∙ c.if-not-code_fits.false)
    ∙ ap (λ x. sent (c.args.field ∷ []) then x) (standard_code c.args.code ∙ ap code_item (sym c.to_bytes.ensures)))
    c.put.ensures c.put_code.ensures.out_after refl
