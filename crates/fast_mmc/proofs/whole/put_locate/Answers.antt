use Rattle.fast_mmc.proofs.WordPuts.{put_usual}
use Rattle.fast_mmc.proofs.WordRanges.{usual_of}
use Rattle.fast_mmc.proofs.whole.put_locate.Goals as goal

pub returns : goal.returns
returns c =
    let range = c.is_in_range.ensures c.if-not-is_in_range.false in
    put_usual _ _ _ _ c.requires range.top (usual_of _ range (c.is_kept.ensures c.if-not-is_kept.false)) c.store_locate.ensures
