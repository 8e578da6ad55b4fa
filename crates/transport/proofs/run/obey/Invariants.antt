-- `transport::run::obey` meets its contract. The loop's invariant: what the commands so far and the run from the place on give is the
-- whole, and no more commands were read than bytes. The measure is the bytes left. Assumes nothing.
use Prim.Native.Nat.{suc, ◌-◌, ◌≤◌}
use mathlib.Core.Path.{◌≡◌}
use lib.ListN.{length}
use Rattle.transport.specs.Demand3.{obey, obey_from}
use Rattle.transport.specs.Obey.{summary_after}
use Rattle.transport.proofs.run.obey.Given as goal

abbrev pub invariant-loop-told : goal.invariant-loop-told
invariant-loop-told l =
    (l.commands ≤ l.place)
    × ((l.refused ≤ l.commands)
    × ((l.place ≤ length l.body)
    × (summary_after 0 0 (obey l.body l.device_id l.own l.initial.generator)
    ≡ summary_after l.commands l.refused (obey_from (suc (length l.body - l.commands)) l.body l.device_id l.own l.place l.generator))))

abbrev pub decreases-loop-told : goal.decreases-loop-told
decreases-loop-told l = length l.body - l.place
