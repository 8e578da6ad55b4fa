-- `mmc::item::put_short_code` meets its contract: the time code stands behind its name. Assumes nothing.
use mathlib.Core.Path.{ap, sym, refl, ◌∙◌}
use Prim.Native.Nat.{◌+◌}
use mathlib.Core.List.{[], ◌∷◌}
use Rattle.mmc.specs.Item.{code_item}
use Rattle.universal.specs.Emission.{sent, ◌then◌}
use Rattle.mmc.proofs.Writing.EmissionPuts.{left_behind}
use Rattle.mmc.proofs.Writing.ItemPuts.{short_sent, short_as_code}
use Rattle.mmc.proofs.item.put_short_code.Goals as goal

pub returns-clause-out_after : goal.returns-clause-out_after
returns-clause-out_after c =
    left_behind _ ((c.args.field + 32) ∷ []) _ _ _ _ _ _
    (short_sent _ _ (sym c.code_fits.ensures ∙ c.if-not-code_fits.false)
    ∙ ap (λ x. sent ((c.args.field + 32) ∷ []) then x) (short_as_code c.args.code ∙ ap code_item (sym c.to_bytes.ensures)))
    c.put.ensures c.put_code.ensures.out_after refl
