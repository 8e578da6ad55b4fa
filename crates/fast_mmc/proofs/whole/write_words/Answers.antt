use Rattle.fast_mmc.proofs.WordPuts.{refused_words, opened_words}
use Rattle.universal.proofs.Clauses.{value_and_out}
use mathlib.Core.Path.{◌∙◌}
use Rattle.fast_mmc.specs.Numbers.{written_numbers}
use Rattle.fast_mmc.proofs.whole.write_words.Goals as goal

pub returns-then-device_id-gt127 : goal.returns-then-device_id-gt127
unfolding written_numbers
returns-then-device_id-gt127 c =
    let ends = refused_words _ _ _ c.if-device_id-gt127.true in
    value_and_out (c.from.ensures ∙ ends.0, ends.1)

pub returns : goal.returns
returns c = value_and_out (opened_words _ _ _ _ _ _ c.if-device_id-gt127.false c.put_start.ensures (c.put_words.ensures.value, c.put_words.ensures.out_after))
