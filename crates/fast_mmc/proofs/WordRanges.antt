-- The counts of a word, checked all at once: one sum brings a byte above its largest count to 128 or more. Assumes nothing.
use Prim.Native.Nat.{ℕ, ◌+◌}
use mathlib.Core.Path.{◌≡◌, refl}
use mathlib.Core.Bool.{Bool, true, false}
use native.Mathlib.Omega.{arith}
use borrow.Author.Tests.{leb-true, leb-false}
use lib.Dec.{leb}
use Rattle.fast_mmc.specs.Clauses.{LowBytes, WordInRange, AtRate}
use Rattle.fast_mmc.specs.Word.{byte_at}
use Rattle.fast_mmc.proofs.WordItems.{Usual}
use Rattle.labels.specs.St12.{label, is_valid}
use Rattle.labels.specs.Time.{type_of}
use Rattle.fast_mmc.proofs.WordItems.{slow_valid, fast_valid}

-- 104, 68, 68, 98 and 28 above 23, 59, 59, 29 and 99 are 128 or more; nothing is carried from a byte below 128.
pub counts_in_range : (w : ℕ) → LowBytes w → LowBytes (w + 31208377706496) → WordInRange w
counts_in_range w l k =
    record {
      hours = omega (arith, l.first, k.first);
      minutes = omega (arith, l.first, l.second, k.second);
      seconds = omega (arith, l.second, l.third, k.third);
      frames = omega (arith, l.third, l.fourth, k.fourth);
      subframes = omega (arith, l.fourth, l.fifth, k.fifth);
      rate = omega (arith, l.most);
      top = l.most;
    }

-- ---- a label that its rate has

-- A word in range whose number its rate has goes out as its counts are.
pub usual_of : (w : ℕ) → WordInRange w
    → AtRate (byte_at 65536 w) (byte_at 16777216 w) (byte_at 4294967296 w) (byte_at 281474976710656 w)
    → Usual (byte_at 256 w) (byte_at 65536 w) (byte_at 16777216 w) (byte_at 4294967296 w) (byte_at 1099511627776 w)
    (byte_at 281474976710656 w)
usual_of w i k =
    record { rate = i.rate; hours = i.hours; subframes = i.subframes; valid = go (leb 2 (byte_at 281474976710656 w)) refl }
  where
    go : (b : Bool) → leb 2 (byte_at 281474976710656 w) ≡ b
        → is_valid (label (type_of (byte_at 281474976710656 w)) (byte_at 256 w) (byte_at 65536 w) (byte_at 16777216 w) (byte_at 4294967296 w))
        ≡ true
    go true e =
        fast_valid _ _ _ _ _ i.hours i.minutes i.seconds (leb-true _ _ e) i.rate i.frames (k.fast (leb-true _ _ e))
    go false e =
        let l = leb-false 2 (byte_at 281474976710656 w) e in
        slow_valid _ _ _ _ _ i.hours i.minutes i.seconds l (k.slow l)
