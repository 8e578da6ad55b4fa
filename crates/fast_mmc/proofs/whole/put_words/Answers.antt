use Rattle.std.proofs.lemmas.List.{take_rest}
use native.Mathlib.Omega.{arith}
use Rattle.fast_mmc.proofs.WordPuts.{gone_whole, gone_still, gone_rest, gone_all, ends_any}
use Rattle.universal.proofs.Clauses.{value_and_out}
use Rattle.fast_mmc.proofs.whole.put_words.Goals as goal

pub returns-in_default : goal.returns-in_default
returns-in_default c = value_and_out (gone_rest _ _ _ _ _ _ _ (gone_still _ _ _ _ _ _ _ _ c.loop-i.invariant.1 c.in_default.ensures) _ _ (rw (take_rest c.args.words.now c.loop-i.i) at c.put_rest.ensures.value, rw (take_rest c.args.words.now c.loop-i.i) at c.put_rest.ensures.out_after))

pub loop-i-preserved : goal.loop-i-preserved
loop-i-preserved c =
    (omega (arith, c.in-Some.ensures.near), gone_whole _ _ (omega arith) (omega arith) _ _ _ _ _ _ _ c.loop-i.invariant.1 c.loop-i-test.true c.in-Some.ensures)

pub returns : goal.returns
returns c = value_and_out (gone_all _ _ _ _ _ _ _ c.loop-i.invariant.1 _ _ c.loop-i-test.false (ends_any _ _ _ _ _ (omega arith) (omega arith) (c.close_at.ensures.value, c.close_at.ensures.out_after)))
