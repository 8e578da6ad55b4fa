-- `transport::transport::before_midnight` meets its contract. Assumes nothing.
use mathlib.Core.Path.{◌≡◌, ◌∙◌}
use native.Mathlib.Omega.{arith}
use Rattle.labels.specs.Time.{day_of, frame_count}
use Rattle.labels.proofs.Laws.{count_below}
use Rattle.transport.proofs.Targets.{label_of_rest}
use Rattle.transport.proofs.transport.before_midnight.Goals as goal

pub returns : goal.returns
returns c =
    let time = c.args.time in
    let day : c.day.result ≡ day_of time.rate = c.day.ensures in
    let count : c.to_frame_count.result ≡ frame_count time = c.to_frame_count.ensures in
    c.from_frame_count.ensures ∙ label_of_rest time _ (omega (arith, day, count, count_below time))
