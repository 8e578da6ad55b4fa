use Prim.Native.Nat.{◌+◌, ◌*◌, ◌≤◌}
use Rattle.fast_mmc.specs.Clauses.{open_writing}
use Rattle.fast_mmc.proofs.WordPuts.{Gone}
use Rattle.fast_mmc.proofs.whole.put_words.Given as goal

abbrev pub invariant-loop-i : goal.invariant-loop-i
invariant-loop-i l = (l.at ≤ 4 + 8 * l.i) × Gone (open_writing 4 0) l.initial.out 0 l.words (open_writing l.at l.i) l.out l.i
