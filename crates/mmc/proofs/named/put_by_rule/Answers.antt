-- `mmc::named::put_by_rule`: the data stands behind its count byte. Assumes nothing.
use native.Mathlib.Omega.{arith}
use mathlib.Core.Path.{ap, refl, ◌∙◌}
use mathlib.Core.List.{[], ◌∷◌}
use Rattle.mmc.proofs.Writing.EmissionPuts.{left_behind, data_length, count_sent, of_rule}
use Rattle.mmc.proofs.named.put_by_rule.Goals as goal

pub behind-requires : goal.behind-requires
behind-requires c =
    omega (arith, ap (λ o. o.len) c.put_data-in-Count.ensures.result_value, data_length c.args.«data».now)

pub returns-else-n-gt127-clause-out_after : goal.returns-else-n-gt127-clause-out_after
returns-else-n-gt127-clause-out_after c =
    left_behind _ (_ ∷ []) _ _ _ _ _ _
    (of_rule _ _ _ c.in-Count.is ∙ count_sent c.args.«data».now c.if-n-gt127.false)
    c.put.ensures c.put_data-in-Count.ensures.out_after refl
