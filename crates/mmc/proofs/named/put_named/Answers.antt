-- `mmc::named::put_named`: the data stands behind its name. Assumes nothing.
use native.Mathlib.Omega.{arith}
use mathlib.Core.Path.{ap, sym, refl, ◌∙◌}
use Rattle.mmc.specs.Named.{extent_of}
use Rattle.mmc.proofs.Writing.EmissionPuts.{left_behind, rule_length, name_by, extent_behind}
use Rattle.mmc.proofs.named.put_named.Goals as goal

pub behind-requires : goal.behind-requires
behind-requires c =
    omega (arith, ap (λ o. o.len) c.put_by_rule.ensures.result_value, rule_length c.length_of-rule.result c.args.«data».now)

pub returns-clause-result_value : goal.returns-clause-result_value
returns-clause-result_value c =
    c.behind.ensures
    ∙ extent_behind _ _ _ c.put_by_rule.ensures.result_value
    ∙ ap extent_of (sym (name_by c.args.kind c.args.name.now c.args.«data».now _ (sym c.name_fits.ensures ∙ c.if-not-name_fits.false) (sym c.all_low.ensures ∙ c.if-not-all_low.false) c.length_of-rule.ensures))

pub returns-clause-out_after : goal.returns-clause-out_after
returns-clause-out_after c =
    left_behind _ c.args.name.now _ _ _ _ _ _
    (name_by c.args.kind c.args.name.now c.args.«data».now _ (sym c.name_fits.ensures ∙ c.if-not-name_fits.false) (sym c.all_low.ensures ∙ c.if-not-all_low.false) c.length_of-rule.ensures)
    c.put_part.ensures c.put_by_rule.ensures.out_after refl
