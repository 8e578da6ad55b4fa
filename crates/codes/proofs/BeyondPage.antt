-- The codes that the page has, and those beyond them that are read or accepted: what keeps each from being the page's. Assumes
-- nothing.
use Prim.Native.Nat.{ℕ, ◌%◌, ◌≤◌, ◌<◌}
use mathlib.Core.Path.{◌≡◌, refl, sym, ap, ◌∙◌}
use mathlib.Core.Bool.{Bool, true, false, cond, not, ◌&&◌, ◌||◌, and-true, true≢false}
use native.Mathlib.Omega.{arith}
use borrow.Author.Tests.{leb-false, lt-leb, le-leb, ltb-true, ltb-false, le-ltb, eqb-true}
use lib.Dec.{T, ltb, eqb, leb-suc-suc}
use Rattle.codes.specs.declared.time_code.FinalByte.{FinalByte}
use Rattle.codes.specs.declared.time_code.FinalByte.TheVariants.{Subframes, Status}
use Rattle.codes.specs.declared.time_code.StandardTimeCode.{StandardTimeCode}
use Rattle.codes.specs.declared.time_code.ShortTimeCode.{ShortTimeCode}
use Rattle.codes.specs.Beyond.{SubframesBeyond, ReadBeyond, last_byte, no_label, blank_counts, ShortReadBeyond, short_last_byte, short_frames, WrittenBeyond, ShortWrittenBeyond}
use Rattle.codes.specs.Rp013Code as page
use Rattle.codes.specs.TimeCode.{bit, read_status, read_final, read_standard, read_short, zeroed, standard_fits, short_fits}
use Rattle.labels.specs.St12.{label, frames_per_second, is_valid}
use Rattle.labels.specs.declared.time.MtcTime.{MtcTime}
use Rattle.labels.specs.declared.time.TimeCodeType.{TimeCodeType}
use Rattle.labels.specs.declared.time.TimeCodeType.TheVariants.{Fps30}
use Rattle.labels.proofs.Laws.{fps_small, zero_valid}
use Rattle.universal.proofs.Tests.{and_parts, and_first, and_second, and_all, true_holds}
use Rattle.codes.proofs.AcceptedCodes.{fits_page, last_accepted, frames_accepted, short_last_accepted}

-- ---- the last byte

-- Subframes of seven bits that the page does not have.
subframes_beyond : (f : FinalByte) → ((s : ℕ) → f ≡ Subframes s → s ≤ 127) → page.last_allowed f ≡ false → SubframesBeyond f
subframes_beyond (Subframes b) most h = record { subframes = b; form = refl; from = leb-false b 99 h; to = most b refl }
subframes_beyond (Status s) most h = absurd (true≢false h)

-- The page does not have them.
beyond_last : (f : FinalByte) → SubframesBeyond f → page.last_allowed f ≡ false
beyond_last f b = ap page.last_allowed b.form ∙ lt-leb b.subframes 99 b.from

-- Subframes that are read have seven bits.
read_most : (fr ff s : ℕ) → read_final fr ff ≡ Subframes s → s ≤ 127
read_most fr ff = go (bit 32 fr)
  where
    go : (b : Bool) (s : ℕ) → cond b (Status (read_status ff)) (Subframes (ff % 128)) ≡ Subframes s → s ≤ 127
    go true s e = let z : ◌≡◌ {A = ℕ} 0 1 = cc in omega arith
    go false s e = let m : ff % 128 ≡ s = cc in omega arith

-- ---- reading

-- What keeps a code with seven bits of subframes from being one that the page has.
code_beyond : (c : StandardTimeCode) → ((s : ℕ) → c.final_byte ≡ Subframes s → s ≤ 127) → page.allowed c ≡ false → ReadBeyond c
code_beyond c most = go (page.last_allowed c.final_byte) (is_valid c.time) c.blank (page.is_zero c.time) refl refl refl refl
  where
    go : (a b k z : Bool) → page.last_allowed c.final_byte ≡ a → is_valid c.time ≡ b → c.blank ≡ k
        → page.is_zero c.time ≡ z → a && (b && (not k || z)) ≡ false → ReadBeyond c
    go false b k z ea eb ek ez e = last_byte (subframes_beyond c.final_byte most ea)
    go true false k z ea eb ek ez e = no_label eb
    go true true true false ea eb ek ez e = blank_counts ek ez
    go true true true true ea eb ek ez e = absurd (true≢false e)
    go true true false z ea eb ek ez e = absurd (true≢false e)

-- Each of them does.
pub beyond_code : (c : StandardTimeCode) → ReadBeyond c → page.allowed c ≡ false
beyond_code c (last_byte b) = and_first _ (is_valid c.time && (not c.blank || page.is_zero c.time)) (beyond_last c.final_byte b)
beyond_code c (no_label e) =
    and_second (page.last_allowed c.final_byte) _ (and_first _ (not c.blank || page.is_zero c.time) e)
beyond_code c (blank_counts k z) =
    and_second (page.last_allowed c.final_byte) _ (and_second (is_valid c.time) _ (rw (k, z)))

-- A code that is read is kept from it by nothing else.
pub beyond_read : (hr mn sc fr ff : ℕ) → page.allowed (read_standard hr mn sc fr ff) ≡ false → ReadBeyond (read_standard hr mn sc fr ff)
unfolding read_standard
beyond_read hr mn sc fr ff = code_beyond (read_standard hr mn sc fr ff) (read_most fr ff)

module _ (r : TimeCodeType) where
  -- A short one likewise, at a rate.
  pub short_beyond_read : (fr ff : ℕ) → page.short_allowed r (read_short fr ff) ≡ false → ShortReadBeyond r (read_short fr ff)
  unfolding read_short
  short_beyond_read fr ff = go (ltb (fr % 32) (frames_per_second r)) refl
    where
      go : (a : Bool) → ltb (fr % 32) (frames_per_second r) ≡ a → a && page.last_allowed (read_final fr ff) ≡ false
          → ShortReadBeyond r (read_short fr ff)
      go true ea e = short_last_byte (subframes_beyond (read_final fr ff) (read_most fr ff) e)
      go false ea e = short_frames (ltb-false _ _ ea) (omega arith)

  -- Subframes 100 to 127 and frames from the rate on keep a short code from being one that the page has.
  pub beyond_short : (c : ShortTimeCode) → ShortReadBeyond r c → page.short_allowed r c ≡ false
  beyond_short c (short_last_byte b) = and_second (ltb c.frames (frames_per_second r)) _ (beyond_last c.final_byte b)
  beyond_short c (short_frames l m) = and_first _ (page.last_allowed c.final_byte) (le-ltb _ _ l)

-- ---- writing

-- A label whose counts are zeros is 00:00:00:00.
zero_label : (t : MtcTime) → page.is_zero t ≡ true → label t.rate 0 0 0 0 ≡ t
zero_label t h =
    let p = and_parts (eqb t.hours 0) _ h in
    let q = and_parts (eqb t.minutes 0) _ p.1 in
    let w = and_parts (eqb t.seconds 0) _ q.1 in
    rw (eqb-true t.hours 0 p.0, eqb-true t.minutes 0 q.0, eqb-true t.seconds 0 w.0, eqb-true t.frames 0 w.1)

module _ (c : StandardTimeCode) where
  -- A code that is blank only with zeros is written as it is.
  zeroed_by_zeros : not c.blank || page.is_zero c.time ≡ true → zeroed c ≡ c
  zeroed_by_zeros h =
      ap
      (λ (t : MtcTime). record {
        time = t;
        color_frame = c.color_frame;
        blank = c.blank;
        negative = c.negative;
        final_byte = c.final_byte;
      })
      (go c.blank h)
    where
      go : (b : Bool) → not b || page.is_zero c.time ≡ true → cond b (label c.time.rate 0 0 0 0) c.time ≡ c.time
      go true e = zero_label c.time e
      go false e = refl

  -- What holds of a code that the page has: its last byte, its label, and zeros where it is blank.
  allowed_parts : page.allowed c ≡ true
      → (page.last_allowed c.final_byte ≡ true) × (is_valid c.time ≡ true) × (not c.blank || page.is_zero c.time ≡ true)
  allowed_parts h =
      let p = and_parts (page.last_allowed c.final_byte) (is_valid c.time && (not c.blank || page.is_zero c.time)) h in
      let q = and_parts (is_valid c.time) (not c.blank || page.is_zero c.time) p.1 in
      (p.0, q.0, q.1)

  -- Each by itself.
  pub allowed_last : page.allowed c ≡ true → page.last_allowed c.final_byte ≡ true
  allowed_last h = (allowed_parts h).0

  pub allowed_label : page.allowed c ≡ true → T (is_valid c.time)
  allowed_label h = true_holds _ (allowed_parts h).1

  -- It is written as it is.
  pub allowed_same : page.allowed c ≡ true → zeroed c ≡ c
  allowed_same h = zeroed_by_zeros (allowed_parts h).2

  -- A code is accepted just where the page has it with zeros in its blank label.
  pub fits_zeroed : standard_fits c ≡ page.allowed (zeroed c)
  unfolding standard_fits
  fits_zeroed = rw (fits_page c.final_byte) (ap (λ (b : Bool). page.last_allowed c.final_byte && b) (go c.blank))
    where
      go : (b : Bool)
          → is_valid (cond b (label c.time.rate 0 0 0 0) c.time)
          ≡ is_valid (cond b (label c.time.rate 0 0 0 0) c.time)
          && (not b || page.is_zero (cond b (label c.time.rate 0 0 0 0) c.time))
      go true = sym (and-true _)
      go false = sym (and-true _)

  -- An accepted code that the page does not have.
  pub code_written_beyond : (standard_fits c ≡ true) × (page.allowed c ≡ false) → WrittenBeyond c
  code_written_beyond (f, n) = go c.blank (page.is_zero c.time) refl refl
    where
      has : not c.blank || page.is_zero c.time ≡ true → page.allowed c ≡ true
      has e = ap page.allowed (sym (zeroed_by_zeros e)) ∙ sym fits_zeroed ∙ f

      go : (k z : Bool) → c.blank ≡ k → page.is_zero c.time ≡ z → WrittenBeyond c
      go true false ek ez =
          record { blank = ek; counts = ez; last = sym (fits_page c.final_byte) ∙ last_accepted c f }
      go true true ek ez = absurd (true≢false (sym (has (rw (ek, ez))) ∙ n))
      go false z ek ez = absurd (true≢false (sym (has (rw ek)) ∙ n))

  -- Such a code is accepted, and the page does not have it.
  pub beyond_written : WrittenBeyond c → (standard_fits c ≡ true) × (page.allowed c ≡ false)
  unfolding standard_fits
  beyond_written b = (
    and_all _ _ (fits_page c.final_byte ∙ b.last) (rw b.blank (told _ (zero_valid c.time.rate))),
    beyond_code c (blank_counts b.blank b.counts),
  )
    where
      told : (b : Bool) → T b → b ≡ true
      told true h = refl
      told false h = absurd h

-- A short code is accepted just where the page has it at 30 frames.
pub short_fits_30 : (c : ShortTimeCode) → short_fits c ≡ page.short_allowed Fps30 c
unfolding short_fits
short_fits_30 c = rw (fits_page c.final_byte) (ap (λ (b : Bool). b && page.last_allowed c.final_byte) (sym (leb-suc-suc c.frames 29)))

module _ (r : TimeCodeType) (c : ShortTimeCode) where
  -- So it is where the page has it at any rate.
  pub short_fits_rate : page.short_allowed r c ≡ true → short_fits c ≡ true
  unfolding short_fits
  short_fits_rate h =
      let p = and_parts (ltb c.frames (frames_per_second r)) (page.last_allowed c.final_byte) h in
      let f : c.frames < frames_per_second r = ltb-true _ _ p.0 in
      and_all _ _ (le-leb c.frames 29 (omega (arith, fps_small r))) (fits_page c.final_byte ∙ p.1)

  -- An accepted short code that the page does not have at that rate.
  pub short_code_written_beyond : (short_fits c ≡ true) × (page.short_allowed r c ≡ false) → ShortWrittenBeyond r c
  short_code_written_beyond (f, n) = go (ltb c.frames (frames_per_second r)) refl n
    where
      final : page.last_allowed c.final_byte ≡ true
      final = sym (fits_page c.final_byte) ∙ short_last_accepted c f

      go : (a : Bool) → ltb c.frames (frames_per_second r) ≡ a → a && page.last_allowed c.final_byte ≡ false
          → ShortWrittenBeyond r c
      go true ea e = absurd (true≢false (sym final ∙ e))
      go false ea e = record { from = ltb-false _ _ ea; to = frames_accepted c f; last = final }

  -- Such a code is accepted, and the page does not have it at that rate.
  pub beyond_short_written : ShortWrittenBeyond r c → (short_fits c ≡ true) × (page.short_allowed r c ≡ false)
  unfolding short_fits
  beyond_short_written b = (
    and_all _ _ (le-leb c.frames 29 b.to) (fits_page c.final_byte ∙ b.last),
    and_first _ (page.last_allowed c.final_byte) (le-ltb _ _ b.from),
  )
