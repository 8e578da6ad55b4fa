use Rattle.fast_mmc.proofs.WordReading.{prefixed_word, word_refused}
use Rattle.fast_mmc.proofs.word.prefixed_word.Goals as goal

pub returns-in-Ok : goal.returns-in-Ok
returns-in-Ok c =
    prefixed_word _ _ _ _ c.next_parts-answer.ensures c.requires.0 c.requires.1 _ _ c.in-Ok.is c.other_word-word.ensures

pub returns-in-Err : goal.returns-in-Err
returns-in-Err c = word_refused _ _ _ _ c.next_parts-answer.ensures _ _ c.in-Err.is c.refusal_word-word.ensures
