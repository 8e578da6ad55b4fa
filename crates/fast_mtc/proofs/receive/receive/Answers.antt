-- `fast_mtc::receive::receive` meets its contract: a byte of 80H or more, and any other. Assumes nothing.
use mathlib.Core.Path.{refl}
use native.Mathlib.Omega.{arith}
use Rattle.fast_mtc.proofs.ReceivedPieces.{refused_by_words, heard_by_words}
use Rattle.fast_mtc.proofs.receive.receive.Goals as goal

pub returns-then-byte-gt127 : goal.returns-then-byte-gt127
returns-then-byte-gt127 c =
    let x = refused_by_words _ _ _ c.if-byte-gt127.true c.refused.ensures in
    (x.0, x.1, λ h. refl)

pub returns : goal.returns
returns c =
    let x = heard_by_words _ _ _ _ c.if-byte-gt127.false c.hear.ensures in
    (x.0, x.1, λ h. absurd (omega (arith, h, c.if-byte-gt127.false)))
