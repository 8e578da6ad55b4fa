-- `field_index::index::build` meets its contract. The loop's invariant: the fields so far, with those from the place on, are the index of
-- the whole string. The measure is the bytes left. Assumes nothing.
use Prim.Native.Nat.{◌-◌}
use lib.ListN.{length}
use Rattle.field_index.specs.Index.{index_in}
use Rattle.field_index.proofs.Walking.{Walked}
use Rattle.field_index.proofs.index.build.Given as goal

abbrev pub invariant-loop-place : goal.invariant-loop-place
invariant-loop-place l = Walked l.body l.place (index_in l.cells)

abbrev pub decreases-loop-place : goal.decreases-loop-place
decreases-loop-place l = length l.body - l.place
