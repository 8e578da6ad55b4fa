-- `field_index::index::build` meets its contract. Assumes nothing.
use Rattle.std.specs.Result.{result_from_control_flow}
use mathlib.Core.Path.{sym, ap, subst, ◌∙◌}
use native.Mathlib.Omega.{arith}
use Rattle.std.proofs.Common.{rules}
use Rattle.field_index.specs.Clauses.{with_field}
use Rattle.field_index.proofs.Walking.{Walked, front, goes_on, field_kept, cut_off, at_end}
use Rattle.field_index.proofs.index.build.Goals as goal

pub loop-place-init : goal.loop-place-init
loop-place-init c = subst (Walked _ _) (sym c.fresh-cells.ensures) (front _)

pub returns-in_err-item-clause-result_value : goal.returns-in_err-item-clause-result_value
returns-in_err-item-clause-result_value c =
    let read = c.next_parts-next in
    let two = (cut_off _ _ read.result read.ensures _ c.loop-place.invariant c.loop-place-test.true _
    (c.branch-item.ensures ∙ ap result_from_control_flow c.in_err-item.is)).0 in
    search rules

pub returns-in_err-item-clause-index_after : goal.returns-in_err-item-clause-index_after
returns-in_err-item-clause-index_after c =
    let read = c.next_parts-next in
    (cut_off _ _ read.result read.ensures _ c.loop-place.invariant c.loop-place-test.true _
    (c.branch-item.ensures ∙ ap result_from_control_flow c.in_err-item.is)).1 _

pub loop-place-smaller : goal.loop-place-smaller
loop-place-smaller c =
    let read = c.next_parts-next in
    let on = goes_on _ _ read.result read.ensures _ c.loop-place.invariant _
    (c.branch-item.ensures ∙ ap result_from_control_flow c.in_ok-item.is) in
    omega (arith, on.0, on.1)

pub loop-place-preserved : goal.loop-place-preserved
loop-place-preserved c =
    let read = c.next_parts-next in
    let kept = field_kept _ _ read.result read.ensures _ c.loop-place.invariant _
    (c.branch-item.ensures ∙ ap result_from_control_flow c.in_ok-item.is) in
    subst (Walked _ _) (sym (c.keep_first.ensures ∙ ap (with_field _ _) c.of.ensures)) kept

pub returns-clause-result_value : goal.returns-clause-result_value
returns-clause-result_value c = (at_end _ _ _ c.loop-place.invariant c.loop-place-test.false).0

pub returns-clause-index_after : goal.returns-clause-index_after
returns-clause-index_after c = (at_end _ _ _ c.loop-place.invariant c.loop-place-test.false).1 _
