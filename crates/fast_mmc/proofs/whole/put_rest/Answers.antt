use mathlib.Core.Path.{◌∙◌, ap}
use Rattle.fast_mmc.specs.Numbers.{written_numbers}
use Rattle.fast_mmc.proofs.WordPuts.{gone_word, gone_all}
use Rattle.universal.proofs.Clauses.{value_and_out}
use Rattle.fast_mmc.proofs.whole.put_rest.Goals as goal

pub loop-word-preserved : goal.loop-word-preserved
loop-word-preserved c =
    gone_word _ _ _ _ _ _ _ c.loop-word.invariant _ _ c.loop-word-test.true c.give_word-w.ensures.result_value c.give_word-w.ensures.out_after

pub returns : goal.returns
returns c = value_and_out (gone_all _ _ _ _ _ _ _ c.loop-word.invariant _ _ c.loop-word-test.false (c.from.ensures ∙ ap written_numbers c.close_message.ensures.result_value, c.close_message.ensures.out_after))
