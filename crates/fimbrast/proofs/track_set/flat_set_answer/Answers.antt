-- `fimbrast::track_set::flat_set_answer` meets its contract: beside a refusal stands the set as it was. Assumes nothing.
use mathlib.Core.Path.{◌≡◌, ap₂}
use Rattle.std.proofs.Common.{ℕ}
use Rattle.fimbrast.specs.TrackSet.{flat_track_set, flat_set_answer}
use Rattle.fimbrast.specs.declared.track_set.FlatTrackSet.{FlatTrackSet}
use Rattle.fimbrast.proofs.track_set.flat_set_answer.Goals as goal

pub returns-in-Err : goal.returns-in-Err
unfolding flat_set_answer
returns-in-Err c =
    let same_set : c.from-in-Err.result ≡ flat_track_set c.args.before = c.from-in-Err.ensures in
    rw c.in-Err.is (ap₂ (λ (n : ℕ) (s : FlatTrackSet). record { answer = n; set = s }) c.number.ensures same_set)
