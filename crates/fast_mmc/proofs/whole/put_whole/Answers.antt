use native.Mathlib.Omega.{arith}
use Rattle.fast_mmc.proofs.WordItems.{low_sent}
use Rattle.fast_mmc.proofs.WordPuts.{put_name}
use Rattle.fast_mmc.proofs.whole.put_whole.Goals as goal

pub returns-then-word-lt7 : goal.returns-then-word-lt7
returns-then-word-lt7 c = put_name _ _ _ _ _ (omega (arith, c.if-word-lt7.true)) (low_sent _ c.if-word-lt7.true) c.put.ensures
