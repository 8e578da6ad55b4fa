use Rattle.fast_mmc.proofs.WordPuts.{put_name}
use Rattle.fast_mmc.proofs.whole.put_small.Goals as goal

pub returns-then-word-lt-NAMES : goal.returns-then-word-lt-NAMES
returns-then-word-lt-NAMES c = put_name _ _ _ _ _ c.if-word-lt-NAMES.true c.plain_name.ensures c.put.ensures
