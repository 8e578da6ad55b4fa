use Rattle.fast_mmc.proofs.WordPuts.{ClosesWith, ends_short, ends_long, ends_fit, ends_full}
use mathlib.Core.Logic.{⊎_elim}
use mathlib.Core.Path.{◌∙◌}
use lib.ListN.{length}
use Rattle.fast_mmc.specs.Clauses.{open_writing}
use native.Mathlib.Omega.{arith}
use Rattle.fast_mmc.specs.Numbers.{written_numbers}
use Rattle.universal.proofs.Clauses.{value_and_out}
use Rattle.fast_mmc.proofs.whole.close_at.Goals as goal

pub returns-then-place-lt5 : goal.returns-then-place-lt5
unfolding written_numbers
returns-then-place-lt5 c =
    let refused = ⊎_elim {C = ClosesWith (record { writing = open_writing c.args.place.at 0; out = c.args.out.now }) (length c.args.out.now) (record { refusal = 2; length = 0 }) c.args.out.now}
    (λ h. ends_short _ c.args.place.in_range _ h) (λ h. ends_long _ c.args.place.in_range _ h.0 h.1) c.then-place-lt5.either in
    value_and_out (c.from.ensures ∙ refused.0, refused.1)

pub returns-then-out-needed : goal.returns-then-out-needed
unfolding written_numbers
returns-then-out-needed c =
    let ends = ends_full _ c.args.place.in_range _ _ c.if-place-lt5.false c.if-place-gt52.false (omega (arith, c.if-out-needed.true)) c.put.ensures in
    value_and_out (c.from-then-out-needed.ensures ∙ ends.0, ends.1)

pub returns : goal.returns
unfolding written_numbers
returns c =
    let ends = ends_fit _ c.args.place.in_range _ _ c.if-place-lt5.false c.if-place-gt52.false (omega (arith, c.if-out-needed.false)) c.put.ensures in
    value_and_out (c.from-2.ensures ∙ ends.0, ends.1)
