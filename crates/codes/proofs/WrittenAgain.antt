-- The bytes of a code that was read: the bytes themselves, without bit 7, a status byte's reserved bits, and the label where
-- the code is blank. Assumes nothing.
use Prim.Native.Nat.{ℕ, ◌+◌, ◌*◌, ◌/◌, ◌%◌}
use mathlib.Core.Path.{◌≡◌, refl, ap, ap₂, ◌∙◌}
use mathlib.Core.Bool.{Bool, true, false, cond}
use mathlib.Core.List.{List, [], ◌∷◌}
use native.Mathlib.Nat.{add-zero, mod-lt}
use native.Mathlib.Omega.{arith}
use lib.Dec.{lit<}
use Rattle.codes.specs.declared.time_code.FinalByte.TheVariants.{Subframes, Status}
use Rattle.codes.specs.TimeCode.{bit, flag, read_status, read_final, final_value, frames_byte, read_standard, standard_list, read_short, short_list, cleared, standard_again, short_again}
use Rattle.labels.specs.St12.{label}
use Rattle.labels.specs.Time.{bits_of, rate_at, hours_byte, raw_time}
use Rattle.labels.specs.declared.time.MtcTime.{MtcTime}
use Rattle.codes.proofs.Bits.{flag_bit, next_bit, bits_rate}
use Rattle.codes.proofs.ReadByPage.{form_read, status_letters}
use Rattle.codes.proofs.AcceptedCodes.{mark_page, value_page}

pub last_again : (fr ff : ℕ) → final_value (read_final fr ff) ≡ cleared (bit 32 fr) 8 ff
last_again fr ff = go (bit 32 fr)
  where
    go : (b : Bool) → final_value (cond b (Status (read_status ff)) (Subframes (ff % 128))) ≡ cleared b 8 ff
    go true = value_page (Status (read_status ff)) ∙ status_letters ff 0 ∙ add-zero _
    go false = refl

pub frames_again : (b : Bool) (fr ff : ℕ)
    → frames_byte (read_final fr ff) (bit 64 fr) (cond b 0 (fr % 32)) ≡ cleared b 32 fr
frames_again b fr ff = rw (flag_bit 64 fr, mark_page (read_final fr ff), form_read fr ff) (go b)
  where
    go : (b : Bool) → fr / 64 % 2 * 64 + fr / 32 % 2 * 32 + cond b 0 (fr % 32) ≡ cleared b 32 fr
    go true = omega (arith, next_bit fr 32)
    go false = omega (arith, next_bit fr 32)

-- A flag and a number of six bits.
pub six_again : (b : Bool) (byte : ℕ) → flag 64 (bit 64 byte) + cond b 0 (byte % 64) ≡ cleared b 64 byte
six_again b byte = rw (flag_bit 64 byte) (go b)
  where
    go : (b : Bool) → byte / 64 % 2 * 64 + cond b 0 (byte % 64) ≡ cleared b 64 byte
    go true = omega arith
    go false = omega arith

pub hours_again : (b : Bool) (hr : ℕ) → bits_of (rate_at (hr / 32 % 4)) * 32 + cond b 0 (hr % 32) % 32 ≡ cleared b 32 hr
hours_again b hr = rw (bits_rate (hr / 32 % 4) (mod-lt (hr / 32) (lit< tt))) (go b)
  where
    go : (b : Bool) → hr / 32 % 4 * 32 + cond b 0 (hr % 32) % 32 ≡ cleared b 32 hr
    go true = omega arith
    go false = omega arith

pub short_again_lem : (fr ff : ℕ) → short_list (read_short fr ff) ≡ short_again fr ff
unfolding short_list read_short
short_again_lem fr ff = ap₂ ◌∷◌ (frames_again false fr ff) (ap (λ (n : ℕ). n ∷ []) (last_again fr ff))

pub standard_again_lem : (hr mn sc fr ff : ℕ) → standard_list (read_standard hr mn sc fr ff) ≡ standard_again hr mn sc fr ff
unfolding standard_list read_standard
standard_again_lem hr mn sc fr ff = go (bit 64 sc)
  where
    written : MtcTime → List ℕ
    written t =
        hours_byte t
        ∷ (flag 64 (bit 64 mn) + t.minutes)
        ∷ (flag 64 (bit 64 sc) + t.seconds)
        ∷ frames_byte (read_final fr ff) (bit 64 fr) t.frames
        ∷ final_value (read_final fr ff)
        ∷ []

    kept : Bool → List ℕ
    kept b = cleared b 32 hr ∷ cleared b 64 mn ∷ cleared b 64 sc ∷ cleared b 32 fr ∷ cleared (bit 32 fr) 8 ff ∷ []

    counts : Bool → MtcTime
    counts b = label (rate_at (hr / 32 % 4)) (cond b 0 (hr % 32)) (cond b 0 (mn % 64)) (cond b 0 (sc % 64)) (cond b 0 (fr % 32))

    each : (b : Bool) → written (counts b) ≡ kept b
    each b =
        ap₂ ◌∷◌ (hours_again b hr)
        (ap₂ ◌∷◌ (six_again b mn)
        (ap₂ ◌∷◌ (six_again b sc) (ap₂ ◌∷◌ (frames_again b fr ff) (ap (λ (n : ℕ). n ∷ []) (last_again fr ff)))))

    go : (b : Bool) → written (cond b (label (rate_at (hr / 32 % 4)) 0 0 0 0) (raw_time hr mn sc fr)) ≡ kept b
    go true = each true
    go false = each false
