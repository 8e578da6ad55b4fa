-- Bytes and the code read of them: bytes that a code's letters give read as that code, the letters of what is read give the
-- bytes back, and bit 7 is not read. Assumes nothing.
use Prim.Native.Nat.{ℕ, ◌+◌, ◌*◌, ◌/◌, ◌%◌, ◌≤◌, ◌<◌}
use mathlib.Core.Path.{◌≡◌, refl, sym, ap, ◌∙◌}
use mathlib.Core.Bool.{Bool, true, false, cond}
use mathlib.Core.List.{[], ◌∷◌}
use native.Mathlib.Nat.{mod-lt}
use native.Mathlib.Omega.{arith}
use lib.Dec.{eqb, lit<}
use Rattle.codes.specs.declared.time_code.TimeCodeStatus.{TimeCodeStatus}
use Rattle.codes.specs.declared.time_code.FinalByte.{FinalByte}
use Rattle.codes.specs.declared.time_code.FinalByte.TheVariants.{Subframes, Status}
use Rattle.codes.specs.declared.time_code.StandardTimeCode.{StandardTimeCode}
use Rattle.codes.specs.declared.time_code.ShortTimeCode.{ShortTimeCode}
use Rattle.codes.specs.Rp013Code as page
use Rattle.codes.specs.Rp013Code.{LastLetters, ShortLetters, Letters}
use Rattle.codes.specs.TimeCode.{bit, read_status, read_final, read_standard, read_short}
use Rattle.labels.specs.St12.{one}
use Rattle.labels.specs.Time.{bits_of, rate_at}
use Rattle.labels.specs.declared.time.TimeCodeType.{TimeCodeType}
use Rattle.labels.specs.declared.time.TimeCodeType.TheVariants.{Fps24, Fps25, Fps30Drop, Fps30}
use Rattle.universal.specs.Message.{all_low}
use Rattle.universal.proofs.Laws.{all_low_none, all_low_cons}
use Rattle.codes.proofs.Bits.{one_most, bit_told, bit_one, four_bits, bits_most, rate_bits, bits_rate}

pub yy_bits : (r : TimeCodeType) → page.yy r ≡ bits_of r
yy_bits Fps24 = refl
yy_bits Fps25 = refl
yy_bits Fps30Drop = refl
yy_bits Fps30 = refl

-- ---- from the letters

pub status_read : (s : TimeCodeStatus) (xxx byte : ℕ) → xxx < 8 → byte ≡ page.status s xxx → read_status byte ≡ s
status_read s xxx byte h p =
    let e : ℕ = one s.estimated in
    let v : ℕ = one s.invalid in
    let d : ℕ = one s.video_field1 in
    let n : ℕ = one s.no_time_code in
    let e₁ : e ≤ 1 = one_most s.estimated in
    let v₁ : v ≤ 1 = one_most s.invalid in
    let d₁ : d ≤ 1 = one_most s.video_field1 in
    let n₁ : n ≤ 1 = one_most s.no_time_code in
    rw (
      bit_told 64 byte 0 (v * 32 + d * 16 + n * 8 + xxx) s.estimated (omega arith) (omega arith),
      bit_told 32 byte e (d * 16 + n * 8 + xxx) s.invalid (omega arith) (omega arith),
      bit_told 16 byte (2 * e + v) (n * 8 + xxx) s.video_field1 (omega arith) (omega arith),
      bit_told 8 byte (2 * (2 * e + v) + d) xxx s.no_time_code (omega arith) (omega arith),
    )

pub final_read : (f : FinalByte) (g : Bool) (frames fr ff : ℕ) → frames < 32 → fr ≡ page.fr (one g) (page.i f) frames
    → LastLetters f ff → read_final fr ff ≡ f
final_read (Subframes b) g frames fr ff h p (l, e) =
    let m : ff % 128 ≡ b = omega arith in
    rw (bit_told 32 fr (one g) frames false h (omega arith), m)
final_read (Status s) g frames fr ff h p (xxx, l, e) =
    rw (bit_told 32 fr (one g) frames true h (omega arith)) (ap Status (status_read s xxx ff l e))

form_most : (f : FinalByte) → page.i f ≤ 1
form_most (Subframes b) = omega arith
form_most (Status s) = omega arith

pub short_read : (fr ff : ℕ) (c : ShortTimeCode) → ShortLetters fr ff c → read_short fr ff ≡ c
unfolding read_short
short_read fr ff c k =
    let m : fr % 32 ≡ c.frames = omega (arith, form_most c.final_byte) in
    rw (
      m,
      bit_told 64 fr 0 (page.i c.final_byte * 32 + c.frames) c.negative
          (omega (arith, form_most c.final_byte)) (omega arith),
      final_read c.final_byte c.negative c.frames fr ff k.fffff k.frames_byte_is k.last_byte,
    )

pub rate_read : (r : TimeCodeType) (hr hours : ℕ) → hours < 32 → hr ≡ page.hr (page.yy r) hours → rate_at (hr / 32 % 4) ≡ r
rate_read r hr hours h p =
    let m : hr / 32 % 4 ≡ bits_of r = omega (arith, yy_bits r, bits_most r) in
    ap rate_at m ∙ rate_bits r

-- Bytes that a code's letters give read as that code.
pub code_read : (hr mn sc fr ff : ℕ) (c : StandardTimeCode) → Letters hr mn sc fr ff c → read_standard hr mn sc fr ff ≡ c
unfolding read_standard read_short
code_read hr mn sc fr ff c k =
    let h : hr % 32 ≡ c.time.hours = omega arith in
    let m : mn % 64 ≡ c.time.minutes = omega arith in
    let s : sc % 64 ≡ c.time.seconds = omega arith in
    let l : read_short fr ff ≡ page.short c = short_read fr ff (page.short c) k.last_two in
    rw (
      rate_read c.time.rate hr c.time.hours k.zzzzz k.hours_byte_is,
      h,
      m,
      s,
      bit_told 64 mn 0 c.time.minutes c.color_frame k.mmmmmm (omega arith),
      bit_told 64 sc 0 c.time.seconds c.blank k.ssssss (omega arith),
      ap (λ (d : ShortTimeCode). d.frames) l,
      ap (λ (d : ShortTimeCode). d.negative) l,
      ap (λ (d : ShortTimeCode). d.final_byte) l,
    )

-- ---- to the letters

-- The form that the last byte is read in.
pub form_read : (fr ff : ℕ) → page.i (read_final fr ff) ≡ fr / 32 % 2
form_read fr ff = go (bit 32 fr) ∙ bit_one 32 fr
  where
    go : (b : Bool) → page.i (cond b (Status (read_status ff)) (Subframes (ff % 128))) ≡ one b
    go true = refl
    go false = refl

-- The letters of a status that is read: bits 3 to 6.
pub status_letters : (ff xxx : ℕ) → page.status (read_status ff) xxx ≡ ff % 128 / 8 * 8 + xxx
status_letters ff xxx =
    rw (bit_one 64 ff, bit_one 32 ff, bit_one 16 ff, bit_one 8 ff) (ap (λ (n : ℕ). n + xxx) (four_bits ff))

pub last_letters : (fr ff : ℕ) → ff ≤ 127 → LastLetters (read_final fr ff) ff
last_letters fr ff h = go (bit 32 fr)
  where
    go : (b : Bool) → LastLetters (cond b (Status (read_status ff)) (Subframes (ff % 128))) ff
    go true =
        let e : ff ≡ ff % 128 / 8 * 8 + ff % 8 = omega arith in
        (ff % 8, mod-lt ff (lit< tt), e ∙ sym (status_letters ff (ff % 8)))
    go false = (omega arith, omega arith)

pub short_letters : (fr ff : ℕ) → fr ≤ 127 → ff ≤ 127 → ShortLetters fr ff (read_short fr ff)
unfolding read_short
short_letters fr ff hf hl =
    record {
      fffff = mod-lt fr (lit< tt);
      frames_byte_is = omega (arith, bit_one 64 fr, form_read fr ff);
      last_byte = last_letters fr ff hl;
    }

-- The letters of what is read give the bytes.
pub code_letters : (hr mn sc fr ff : ℕ) → hr ≤ 127 → mn ≤ 127 → sc ≤ 127 → fr ≤ 127 → ff ≤ 127
    → Letters hr mn sc fr ff (read_standard hr mn sc fr ff)
unfolding read_standard read_short
code_letters hr mn sc fr ff hh hm hs hf hl =
    record {
      zzzzz = mod-lt hr (lit< tt);
      mmmmmm = mod-lt mn (lit< tt);
      ssssss = mod-lt sc (lit< tt);
      hours_byte_is = omega (arith, yy_bits (rate_at (hr / 32 % 4)), bits_rate (hr / 32 % 4) (mod-lt (hr / 32) (lit< tt)));
      minutes_byte_is = omega (arith, bit_one 64 mn);
      seconds_byte_is = omega (arith, bit_one 64 sc);
      last_two = short_letters fr ff hf hl;
    }

-- ---- bytes that letters give

pub last_letters_low : (f : FinalByte) (byte : ℕ) → LastLetters f byte → byte ≤ 127
last_letters_low (Subframes b) byte (l, e) = omega arith
last_letters_low (Status s) byte (xxx, l, e) =
    omega (arith, one_most s.estimated, one_most s.invalid, one_most s.video_field1, one_most s.no_time_code)

-- Two bytes that are letters are at most 7FH.
pub short_letters_low : (fr ff : ℕ) (c : ShortTimeCode) → ShortLetters fr ff c → all_low (fr ∷ ff ∷ []) ≡ true
short_letters_low fr ff c k =
    all_low_cons _ _ (omega (arith, one_most c.negative, form_most c.final_byte))
    (all_low_cons _ _ (last_letters_low c.final_byte ff k.last_byte) all_low_none)

-- Five are, likewise.
pub code_letters_low : (hr mn sc fr ff : ℕ) (c : StandardTimeCode) → Letters hr mn sc fr ff c
    → all_low (hr ∷ mn ∷ sc ∷ fr ∷ ff ∷ []) ≡ true
code_letters_low hr mn sc fr ff c k =
    all_low_cons _ _ (omega (arith, yy_bits c.time.rate, bits_most c.time.rate))
    (all_low_cons _ _ (omega (arith, one_most c.color_frame))
    (all_low_cons _ _ (omega (arith, one_most c.blank)) (short_letters_low fr ff (page.short c) k.last_two)))

-- ---- bit 7

-- A bit below it, with bit 7 and without.
module _ (byte : ℕ) where
  bit_6 : bit 64 (byte % 128) ≡ bit 64 byte
  bit_6 = let e : byte % 128 / 64 % 2 ≡ byte / 64 % 2 = omega arith in ap (λ (n : ℕ). eqb n 1) e

  bit_5 : bit 32 (byte % 128) ≡ bit 32 byte
  bit_5 = let e : byte % 128 / 32 % 2 ≡ byte / 32 % 2 = omega arith in ap (λ (n : ℕ). eqb n 1) e

  bit_4 : bit 16 (byte % 128) ≡ bit 16 byte
  bit_4 = let e : byte % 128 / 16 % 2 ≡ byte / 16 % 2 = omega arith in ap (λ (n : ℕ). eqb n 1) e

  bit_3 : bit 8 (byte % 128) ≡ bit 8 byte
  bit_3 = let e : byte % 128 / 8 % 2 ≡ byte / 8 % 2 = omega arith in ap (λ (n : ℕ). eqb n 1) e

final_bit_7 : (fr ff : ℕ) → read_final (fr % 128) (ff % 128) ≡ read_final fr ff
final_bit_7 fr ff =
    let m : ff % 128 % 128 ≡ ff % 128 = omega arith in
    rw (bit_5 fr, bit_6 ff, bit_5 ff, bit_4 ff, bit_3 ff, m)

pub short_bit_7 : (fr ff : ℕ) → read_short (fr % 128) (ff % 128) ≡ read_short fr ff
unfolding read_short
short_bit_7 fr ff =
    let f : fr % 128 % 32 ≡ fr % 32 = omega arith in
    rw (f, bit_6 fr, final_bit_7 fr ff)

pub code_bit_7 : (hr mn sc fr ff : ℕ)
    → read_standard (hr % 128) (mn % 128) (sc % 128) (fr % 128) (ff % 128) ≡ read_standard hr mn sc fr ff
unfolding read_standard
code_bit_7 hr mn sc fr ff =
    let r : hr % 128 / 32 % 4 ≡ hr / 32 % 4 = omega arith in
    let h : hr % 128 % 32 ≡ hr % 32 = omega arith in
    let m : mn % 128 % 64 ≡ mn % 64 = omega arith in
    let s : sc % 128 % 64 ≡ sc % 64 = omega arith in
    let f : fr % 128 % 32 ≡ fr % 32 = omega arith in
    rw (r, h, m, s, f, bit_6 mn, bit_6 sc, bit_6 fr, final_bit_7 fr ff)
