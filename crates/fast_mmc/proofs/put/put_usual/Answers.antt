use mathlib.Core.Path.{refl}
use Rattle.fast_mmc.proofs.WordPuts.{put_one}
use Rattle.fast_mmc.proofs.put.put_usual.Goals as goal

pub returns : goal.returns
returns c = put_one _ _ _ _ _ _ _ c.if-writer-ne0.false refl c.if-place-gt-MOST_POSITION.false refl c.in_ok-next.ensures
