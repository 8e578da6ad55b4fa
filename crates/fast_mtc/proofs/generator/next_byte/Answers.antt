-- `fast_mtc::generator::next_byte` meets its contract. Assumes nothing.
use Rattle.fast_mtc.proofs.GeneratorBytes.{stopped_in, starts_over, piece_goes_on}
use Rattle.fast_mtc.proofs.generator.next_byte.Goals as goal

pub returns-then-g-eq0 : goal.returns-then-g-eq0
returns-then-g-eq0 c = rw c.number.ensures (stopped_in _ c.if-g-eq0.true)

pub returns-then-last-gt7 : goal.returns-then-last-gt7
returns-then-last-gt7 c =
    starts_over _ _ _ _ _ c.if-g-eq0.false c.direction_at-direction.ensures c.if-last-gt7.true c.first.ensures.0 c.send.ensures

pub returns-then-last : goal.returns-then-last
returns-then-last c =
    piece_goes_on _ _ _ _ _ c.if-g-eq0.false c.direction_at-direction.ensures c.if-last-gt7.false c.last.ensures c.if-last.true c.after.ensures.0 c.send-then-last.ensures
