-- `fimbrast::feed::fimbrast_feed` meets its contract. The loop's invariant: the counts and the reader's words are those of the bytes so
-- far. Assumes nothing.
use Rattle.fimbrast.proofs.Feeding.{FedSoFar}
use Rattle.fimbrast.proofs.feed.fimbrast_feed.Given as goal

abbrev pub invariant-loop-byte : goal.invariant-loop-byte
invariant-loop-byte l = FedSoFar l.initial.reader l.bytes l.reader l.f l.byte-index
