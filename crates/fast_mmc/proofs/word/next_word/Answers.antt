use Rattle.fast_mmc.proofs.WordReading.{alone_next, short_alone}
use Rattle.fast_mmc.proofs.word.next_word.Goals as goal

pub returns-in-Some : goal.returns-in-Some
returns-in-Some c = let a = short_alone _ _ c.in-Some.ensures in alone_next _ _ c.if-place-body.false _ a.0 a.1.0 a.1.1
