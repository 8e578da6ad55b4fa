-- The invariant of `universal::out::put_part`'s loop: the buffer holds the first `i` of the bytes that fit.
use Rattle.universal.proofs.Overlays.{Copied}
use Rattle.universal.proofs.out.put_part.Given as goal

abbrev pub invariant-loop-i : goal.invariant-loop-i
invariant-loop-i l = Copied l.initial.out l.at l.bytes l.end l.out l.i
