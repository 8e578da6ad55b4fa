-- `labels::computed::minute_starts` meets its contract: each number is what its call gave. Assumes nothing.
use Rattle.std.proofs.Common.{rules}
use Rattle.labels.proofs.MinuteStarts.{each_start}
use Rattle.labels.proofs.computed.minute_starts.Goals as goal

pub returns : goal.returns
returns c =
    let made = c.from_fn.ensures.items in
    each_start _ made.long (λ m h. let number = made.at m 0 h in search rules)
