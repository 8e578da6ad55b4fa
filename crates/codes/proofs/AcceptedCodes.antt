-- Codes that are accepted, and what they are written as: the bytes that their letters give, each below 80H; and the bytes of
-- a code that was read. Assumes nothing.
use Prim.Native.Nat.{ℕ, ◌+◌, ◌*◌, ◌%◌, ◌≤◌, ◌<◌}
use mathlib.Core.Path.{◌≡◌, refl, sym, ap, ap₂}
use mathlib.Core.Bool.{Bool, true}
use mathlib.Core.List.{[], ◌∷◌}
use native.Mathlib.Nat.{add-zero}
use native.Mathlib.Omega.{arith}
use borrow.Author.Tests.{leb-true}
use lib.Dec.{leb, lit<, lit≤}
use lib.ListN.{get_or}
use Rattle.codes.specs.declared.time_code.FinalByte.{FinalByte}
use Rattle.codes.specs.declared.time_code.FinalByte.TheVariants.{Subframes, Status}
use Rattle.codes.specs.declared.time_code.StandardTimeCode.{StandardTimeCode}
use Rattle.codes.specs.declared.time_code.ShortTimeCode.{ShortTimeCode}
use Rattle.codes.specs.Rp013Code as page
use Rattle.codes.specs.Rp013Code.{LastLetters, ShortLetters, Letters}
use Rattle.codes.specs.TimeCode.{final_fits, final_mark, final_value, frames_byte, written_label, zeroed, standard_fits, standard_list, short_fits, short_list}
use Rattle.labels.specs.St12.{one, is_valid}
use Rattle.labels.specs.Time.{hours_byte}
use Rattle.labels.specs.declared.time.MtcTime.{MtcTime}
use Rattle.labels.proofs.Laws.{Widths, valid_widths}
use Rattle.universal.specs.Message.{all_low}
use Rattle.universal.proofs.Laws.{all_low_none, all_low_cons}
use Rattle.universal.proofs.Tests.{and_parts, true_holds}
use Rattle.codes.proofs.Bits.{flag_one, flag_most, bits_most}
use Rattle.codes.proofs.ReadByPage.{yy_bits}

-- ---- accepted codes

pub label_accepted : (c : StandardTimeCode) → standard_fits c ≡ true → Widths (written_label c)
unfolding standard_fits
label_accepted c h = valid_widths (written_label c) (true_holds _ (and_parts (final_fits c.final_byte) _ h).1)

pub last_accepted : (c : StandardTimeCode) → standard_fits c ≡ true → final_fits c.final_byte ≡ true
unfolding standard_fits
last_accepted c h = (and_parts (final_fits c.final_byte) (is_valid (written_label c)) h).0

pub frames_accepted : (c : ShortTimeCode) → short_fits c ≡ true → c.frames ≤ 29
unfolding short_fits
frames_accepted c h = leb-true c.frames 29 (and_parts (leb c.frames 29) _ h).0

pub short_last_accepted : (c : ShortTimeCode) → short_fits c ≡ true → final_fits c.final_byte ≡ true
unfolding short_fits
short_last_accepted c h = (and_parts (leb c.frames 29) (final_fits c.final_byte) h).1

-- ---- the last byte

pub fits_page : (f : FinalByte) → final_fits f ≡ page.last_allowed f
fits_page (Subframes b) = refl
fits_page (Status s) = refl

pub mark_page : (f : FinalByte) → final_mark f ≡ page.i f * 32
mark_page (Subframes b) = refl
mark_page (Status s) = refl

pub value_page : (f : FinalByte) → final_value f ≡ page.last f
value_page (Subframes b) = refl
value_page (Status s) =
    rw (flag_one 64 s.estimated, flag_one 32 s.invalid, flag_one 16 s.video_field1, flag_one 8 s.no_time_code)
    (sym (add-zero _))

-- An accepted last byte is written as its letters.
pub last_written : (f : FinalByte) → final_fits f ≡ true → LastLetters f (page.last f)
last_written (Subframes b) h = (omega (arith, leb-true b 99 h), refl)
last_written (Status s) h = (0, lit< tt, refl)

pub mark_most : (f : FinalByte) → final_mark f ≤ 32
mark_most (Subframes b) = lit≤ tt
mark_most (Status s) = lit≤ tt

pub final_value_low : (f : FinalByte) → final_fits f ≡ true → final_value f ≤ 127
final_value_low (Subframes b) h = omega (arith, leb-true b 99 h)
final_value_low (Status s) h =
    omega (arith, flag_most 64 s.estimated, flag_most 32 s.invalid, flag_most 16 s.video_field1, flag_most 8 s.no_time_code)

-- ---- the bytes by the page

pub frames_page : (f : FinalByte) (g : Bool) (frames : ℕ) → frames_byte f g frames ≡ page.fr (one g) (page.i f) frames
frames_page f g frames = rw (flag_one 64 g, mark_page f)

pub hours_page : (t : MtcTime) → t.hours < 32 → hours_byte t ≡ page.hr (page.yy t.rate) t.hours
hours_page t h = let m : t.hours % 32 ≡ t.hours = omega arith in rw (m, yy_bits t.rate)

pub short_page : (c : ShortTimeCode) → short_list c ≡ page.short_written c
unfolding short_list
short_page c =
    ap₂ ◌∷◌ (frames_page c.final_byte c.negative c.frames) (ap (λ (n : ℕ). n ∷ []) (value_page c.final_byte))

pub standard_page : (c : StandardTimeCode) → standard_fits c ≡ true → standard_list c ≡ page.written (zeroed c)
unfolding standard_list
standard_page c h =
    ap₂ ◌∷◌ (hours_page (written_label c) (label_accepted c h).hours)
    (ap₂ ◌∷◌ (ap (λ (n : ℕ). n + (written_label c).minutes) (flag_one 64 c.color_frame))
    (ap₂ ◌∷◌ (ap (λ (n : ℕ). n + (written_label c).seconds) (flag_one 64 c.blank))
    (ap₂ ◌∷◌ (frames_page c.final_byte c.negative (written_label c).frames)
    (ap (λ (n : ℕ). n ∷ []) (value_page c.final_byte)))))

-- ---- the letters of what is written

-- Two bytes are the letters of the short code that they were written of.
pub short_letters_written : (c : ShortTimeCode) → c.frames < 32 → final_fits c.final_byte ≡ true
    → ShortLetters (get_or (page.short_written c) 0 0) (get_or (page.short_written c) 1 0) c
short_letters_written c h l =
    record { fffff = h; frames_byte_is = refl; last_byte = last_written c.final_byte l }

-- Five are those of their code.
pub letters_written : (c : StandardTimeCode) → Widths c.time → final_fits c.final_byte ≡ true
    → Letters (get_or (page.written c) 0 0) (get_or (page.written c) 1 0) (get_or (page.written c) 2 0) (get_or (page.written c) 3 0) (get_or (page.written c) 4 0) c
letters_written c w l =
    record {
      zzzzz = w.hours;
      mmmmmm = w.minutes;
      ssssss = w.seconds;
      hours_byte_is = refl;
      minutes_byte_is = refl;
      seconds_byte_is = refl;
      last_two = short_letters_written (page.short c) w.frames l;
    }

-- ---- below 80H

pub frames_low : (f : FinalByte) (g : Bool) (frames : ℕ) → frames < 32 → frames_byte f g frames ≤ 127
frames_low f g frames h = omega (arith, flag_most 64 g, mark_most f)

pub standard_low : (c : StandardTimeCode) → standard_fits c ≡ true → all_low (standard_list c) ≡ true
unfolding standard_list
standard_low c h =
    let w : Widths (written_label c) = label_accepted c h in
    all_low_cons _ _ (omega (arith, bits_most (written_label c).rate))
    (all_low_cons _ _ (omega (arith, flag_most 64 c.color_frame))
    (all_low_cons _ _ (omega (arith, flag_most 64 c.blank))
    (all_low_cons _ _ (frames_low c.final_byte c.negative (written_label c).frames w.frames)
    (all_low_cons _ _ (final_value_low c.final_byte (last_accepted c h)) all_low_none))))

pub short_low : (c : ShortTimeCode) → short_fits c ≡ true → all_low (short_list c) ≡ true
unfolding short_list
short_low c h =
    all_low_cons _ _ (frames_low c.final_byte c.negative c.frames (omega (arith, frames_accepted c h)))
    (all_low_cons _ _ (final_value_low c.final_byte (short_last_accepted c h)) all_low_none)
