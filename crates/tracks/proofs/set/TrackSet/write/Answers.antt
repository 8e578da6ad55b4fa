-- `tracks::set::TrackSet::write` meets its contract: where the buffer is too short, nothing was put. Assumes nothing.
use mathlib.Core.Path.{◌≡◌, sym, ap, ◌∙◌}
use Rattle.tracks.proofs.Laws.{short_stays}
use Rattle.tracks.specs.Tracks.{data_of, without_end_zeros}
use Rattle.tracks.proofs.set.TrackSet.write.Goals as goal

pub returns-then-out-needed-clause-out_after : goal.returns-then-out-needed-clause-out_after
unfolding data_of
returns-then-out-needed-clause-out_after c =
    let written : c.without_end_zeros-data.result.now ≡ data_of c.args.self =
    c.without_end_zeros-data.ensures ∙ ap without_end_zeros c.bytes-bytes.ensures
    in
    sym (short_stays (data_of c.args.self) c.args.out.now (rw written at c.if-out-needed.true)).1
