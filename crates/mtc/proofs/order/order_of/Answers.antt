-- `mtc::order::order_of`: the last piece of a sound record is at most 7. Assumes nothing.
use Rattle.mtc.proofs.ReaderCalls.{sound_last}
use Rattle.mtc.proofs.order.order_of.Goals as goal

pub direction_between-requires : goal.direction_between-requires
direction_between-requires c = sound_last _ c.requires c.in-Some.is

pub direction_between-requires-in-Some-direction : goal.direction_between-requires-in-Some-direction
direction_between-requires-in-Some-direction c = sound_last _ c.requires c.in-Some.is
