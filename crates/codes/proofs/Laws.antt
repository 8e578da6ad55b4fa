-- The laws of time code fields: reading and writing by the pages of RP-013, what is taken beyond them, the round trips, which
-- bits are lost, and what the strings need of the bytes. A law of five bytes has one of two beside it, with `short` before its
-- name. Assumes nothing.
use Rattle.std.specs.Prelude.{Some}
use Prim.Native.Nat.{ℕ, ◌+◌, ◌%◌, ◌≤◌, ◌<◌}
use mathlib.Core.Path.{◌≡◌, refl, ap, ◌∙◌}
use mathlib.Core.Bool.{Bool, true, false, cond, ◌&&◌}
use mathlib.Core.Logic.{◌↔◌}
use mathlib.Core.List.{[], ◌∷◌}
use native.Mathlib.Omega.{arith}
use borrow.Author.Tests.{lt-leb, lt-ltb, ltb-true}
use lib.Dec.{leb, ltb, lit<}
use lib.ListN.{length, get_or}
use Rattle.codes.specs.declared.time_code.FinalByte.{FinalByte}
use Rattle.codes.specs.declared.time_code.FinalByte.TheVariants.{Subframes, Status}
use Rattle.codes.specs.declared.time_code.StandardTimeCode.{StandardTimeCode}
use Rattle.codes.specs.declared.time_code.ShortTimeCode.{ShortTimeCode}
use Rattle.codes.specs.Rp013Code as page
use Rattle.codes.specs.Rp013Code.{Letters, ShortLetters, Reads, ReadsShort, ShortNamed}
use Rattle.codes.specs.Beyond.{ReadBeyond, ShortReadBeyond, WrittenBeyond, ShortWrittenBeyond}
use Rattle.codes.specs.TimeCode.{bit, flag, final_fits, final_value, frames_byte, final_subframes, final_status, read_final, read_standard, written_label, standard_fits, standard_list, standard_bytes, read_short, short_fits, short_list, short_bytes, short_form, with_short, read_five, read_two, zeroed, cleared, standard_again, short_again, short_name_of, full_name}
use Rattle.labels.proofs.Laws.{fps_small, valid_facts, valid_widths}
use Rattle.labels.specs.St12.{frames_per_second, is_valid}
use Rattle.labels.specs.Time.{raw_time, hours_byte}
use Rattle.labels.specs.declared.time.TimeCodeType.{TimeCodeType}
use Rattle.labels.specs.declared.time.TimeCodeType.TheVariants.{Fps30}
use Rattle.universal.proofs.Laws.{all_low_byte}
use Rattle.universal.specs.Message.{all_low}
use Rattle.universal.specs.Refusals.{gives, refused, refusal}
use Rattle.codes.proofs.WrittenAgain
-- A byte's fields, read and written again.
pub use Rattle.codes.proofs.WrittenAgain.{hours_again, six_again, frames_again}
use Rattle.universal.proofs.Tests.{and_parts, and_first, and_second, and_all}
use Rattle.codes.proofs.CodeAnswers.{answer_same}
use Rattle.codes.proofs.BeyondPage
use Rattle.codes.proofs.Names
use Rattle.codes.proofs.ReadByPage
use Rattle.codes.proofs.AcceptedCodes

-- ---- reading, by pp. 8 and 9

-- Five bytes are the letters of a code just where each is at most 7FH and they are read as that code.
pub letters_by_page : (hr mn sc fr ff : ℕ) (c : StandardTimeCode)
    → Letters hr mn sc fr ff c ↔ ((all_low (hr ∷ mn ∷ sc ∷ fr ∷ ff ∷ []) ≡ true) × (read_standard hr mn sc fr ff ≡ c))
letters_by_page hr mn sc fr ff c = (
  (λ k. (ReadByPage.code_letters_low hr mn sc fr ff c k, ReadByPage.code_read hr mn sc fr ff c k)),
  (λ (l, e). rw e at (of_low l)),
)
  where
    of_low : all_low (hr ∷ mn ∷ sc ∷ fr ∷ ff ∷ []) ≡ true → Letters hr mn sc fr ff (read_standard hr mn sc fr ff)
    of_low l =
        let b : (i : ℕ) → i < 5 → get_or (hr ∷ mn ∷ sc ∷ fr ∷ ff ∷ []) i 0 ≤ 127 = λ i k. all_low_byte _ i l k in
        ReadByPage.code_letters hr mn sc fr ff (b 0 (lit< tt)) (b 1 (lit< tt)) (b 2 (lit< tt)) (b 3 (lit< tt)) (b 4 (lit< tt))

-- The page reads them as a code just where it also has that code.
pub read_by_page : (hr mn sc fr ff : ℕ) (c : StandardTimeCode)
    → Reads hr mn sc fr ff c
    ↔ ((all_low (hr ∷ mn ∷ sc ∷ fr ∷ ff ∷ []) ≡ true) × (read_standard hr mn sc fr ff ≡ c) × (page.allowed c ≡ true))
read_by_page hr mn sc fr ff c = (
  (λ k. let p = (letters_by_page hr mn sc fr ff c).0 k.letters in (p.0, p.1, k.code)),
  (λ (l, e, a). record { letters = (letters_by_page hr mn sc fr ff c).1 (l, e); code = a }),
)

-- So what the page reads as a code is read as that code.
pub read_only : (hr mn sc fr ff : ℕ) (c : StandardTimeCode) → Reads hr mn sc fr ff c → read_standard hr mn sc fr ff ≡ c
read_only hr mn sc fr ff c k = ReadByPage.code_read hr mn sc fr ff c k.letters

-- What else is read: subframes 100 to 127, labels that ST 12-1 does not have, blank codes with counts; nothing more.
pub read_beyond : (hr mn sc fr ff : ℕ)
    → (page.allowed (read_standard hr mn sc fr ff) ≡ false) ↔ ReadBeyond (read_standard hr mn sc fr ff)
read_beyond hr mn sc fr ff = (BeyondPage.beyond_read hr mn sc fr ff, BeyondPage.beyond_code (read_standard hr mn sc fr ff))

-- Bytes above 7FH are read as the same without bit 7.
pub bit_7_unread : (hr mn sc fr ff : ℕ)
    → read_standard (hr % 128) (mn % 128) (sc % 128) (fr % 128) (ff % 128) ≡ read_standard hr mn sc fr ff
bit_7_unread = ReadByPage.code_bit_7

-- Two bytes are the letters of a short code just where each is at most 7FH and they are read as that code.
pub short_letters_by_page : (fr ff : ℕ) (c : ShortTimeCode)
    → ShortLetters fr ff c ↔ ((all_low (fr ∷ ff ∷ []) ≡ true) × (read_short fr ff ≡ c))
short_letters_by_page fr ff c = (
  (λ k. (ReadByPage.short_letters_low fr ff c k, ReadByPage.short_read fr ff c k)),
  (λ (l, e). rw e at (of_low l)),
)
  where
    of_low : all_low (fr ∷ ff ∷ []) ≡ true → ShortLetters fr ff (read_short fr ff)
    of_low l =
        let b : (i : ℕ) → i < 2 → get_or (fr ∷ ff ∷ []) i 0 ≤ 127 = λ i k. all_low_byte _ i l k in
        ReadByPage.short_letters fr ff (b 0 (lit< tt)) (b 1 (lit< tt))

module _ (r : TimeCodeType) where
  -- As the short form of a field the page reads them as a code just where it also has that code at the field's rate.
  pub short_read_by_page : (fr ff : ℕ) (c : ShortTimeCode)
      → ReadsShort r fr ff c
      ↔ ((all_low (fr ∷ ff ∷ []) ≡ true) × (read_short fr ff ≡ c) × (page.short_allowed r c ≡ true))
  short_read_by_page fr ff c = (
    (λ k. let p = (short_letters_by_page fr ff c).0 k.letters in (p.0, p.1, k.code)),
    (λ (l, e, a). record { letters = (short_letters_by_page fr ff c).1 (l, e); code = a }),
  )

  -- So what the page reads as a short code is read as that code.
  pub short_read_only : (fr ff : ℕ) (c : ShortTimeCode) → ReadsShort r fr ff c → read_short fr ff ≡ c
  short_read_only fr ff c k = ReadByPage.short_read fr ff c k.letters

  -- What else is read: subframes 100 to 127, and frames from the rate to 31; nothing more.
  pub short_read_beyond : (fr ff : ℕ) → (page.short_allowed r (read_short fr ff) ≡ false) ↔ ShortReadBeyond r (read_short fr ff)
  short_read_beyond fr ff = (BeyondPage.short_beyond_read r fr ff, BeyondPage.beyond_short r (read_short fr ff))

-- Bytes above 7FH are read as the same without bit 7.
pub short_bit_7_unread : (fr ff : ℕ) → read_short (fr % 128) (ff % 128) ≡ read_short fr ff
short_bit_7_unread = ReadByPage.short_bit_7

-- ---- writing, by pp. 8 and 9

-- A code is accepted just where the page has it with zeros for a blank label.
pub fits_by_page : (c : StandardTimeCode) → standard_fits c ≡ page.allowed (zeroed c)
fits_by_page = BeyondPage.fits_zeroed

-- It is answered with the bytes that the page gives to that, or with 3.
pub answer_by_page : (c : StandardTimeCode)
    → standard_bytes c ≡ cond (page.allowed (zeroed c)) (gives (page.written (zeroed c))) (refused (refusal 3))
answer_by_page c =
    answer_same (standard_fits c) (page.allowed (zeroed c)) _ _ (refusal 3) (fits_by_page c) (AcceptedCodes.standard_page c)

-- A code that the page has is the same with zeros for a blank label.
pub zeroed_same : (c : StandardTimeCode) → page.allowed c ≡ true → zeroed c ≡ c
zeroed_same = BeyondPage.allowed_same

-- So a code that the page has is answered with the page's bytes.
pub written_by_page : (c : StandardTimeCode) → page.allowed c ≡ true → standard_bytes c ≡ gives (page.written c)
written_by_page c h =
    answer_by_page c
    ∙ ap (λ (d : StandardTimeCode). cond (page.allowed d) (gives (page.written d)) (refused (refusal 3))) (BeyondPage.allowed_same c h)
    ∙ ap (λ (b : Bool). cond b (gives (page.written c)) (refused (refusal 3))) h

-- What else is accepted: a blank code with counts, whatever they are; nothing more.
pub written_beyond : (c : StandardTimeCode) → ((standard_fits c ≡ true) × (page.allowed c ≡ false)) ↔ WrittenBeyond c
written_beyond c = (BeyondPage.code_written_beyond c, BeyondPage.beyond_written c)

-- A short code is accepted just where the page has it at 30 frames.
pub short_fits_by_page : (c : ShortTimeCode) → short_fits c ≡ page.short_allowed Fps30 c
short_fits_by_page = BeyondPage.short_fits_30

-- It is answered with the page's bytes, or with 3.
pub short_answer_by_page : (c : ShortTimeCode)
    → short_bytes c ≡ cond (page.short_allowed Fps30 c) (gives (page.short_written c)) (refused (refusal 3))
short_answer_by_page c =
    answer_same (short_fits c) (page.short_allowed Fps30 c) _ _ (refusal 3) (short_fits_by_page c) (λ _. AcceptedCodes.short_page c)

module _ (r : TimeCodeType) (c : ShortTimeCode) where
  -- So a code that the page has at some rate is answered with the page's bytes.
  pub short_written_by_page : page.short_allowed r c ≡ true → short_bytes c ≡ gives (page.short_written c)
  short_written_by_page h = rw (BeyondPage.short_fits_rate r c h, AcceptedCodes.short_page c)

  -- What else is accepted: frames from the rate to 29, so 24 to 29 at 24 frames and 25 to 29 at 25; nothing more.
  pub short_written_beyond : ((short_fits c ≡ true) × (page.short_allowed r c ≡ false)) ↔ ShortWrittenBeyond r c
  short_written_beyond = (BeyondPage.short_code_written_beyond r c, BeyondPage.beyond_short_written r c)

-- ---- what is written reads back

-- The page reads the bytes that it gives to a code that it has as that code.
pub page_reads_back : (c : StandardTimeCode) → page.allowed c ≡ true
    → Reads (get_or (page.written c) 0 0) (get_or (page.written c) 1 0) (get_or (page.written c) 2 0) (get_or (page.written c) 3 0) (get_or (page.written c) 4 0) c
page_reads_back c h =
    record {
      letters =
          AcceptedCodes.letters_written c (valid_widths c.time (BeyondPage.allowed_label c h))
          (AcceptedCodes.fits_page c.final_byte ∙ BeyondPage.allowed_last c h);
      code = h;
    }

-- A short code likewise.
pub short_page_reads_back : (r : TimeCodeType) (c : ShortTimeCode) → page.short_allowed r c ≡ true
    → ReadsShort r (get_or (page.short_written c) 0 0) (get_or (page.short_written c) 1 0) c
short_page_reads_back r c h =
    let p = and_parts (ltb c.frames (frames_per_second r)) (page.last_allowed c.final_byte) h in
    let f : c.frames < frames_per_second r = ltb-true _ _ p.0 in
    record {
      letters = AcceptedCodes.short_letters_written c (omega (arith, fps_small r)) (AcceptedCodes.fits_page c.final_byte ∙ p.1);
      code = h;
    }

-- An accepted short code reads back as itself.
pub short_read_back : (c : ShortTimeCode) → short_fits c ≡ true → read_two (short_list c) ≡ c
short_read_back c h =
    ap read_two (AcceptedCodes.short_page c)
    ∙ ReadByPage.short_read _ _ c
    (AcceptedCodes.short_letters_written c (omega (arith, AcceptedCodes.frames_accepted c h)) (AcceptedCodes.short_last_accepted c h))

-- An accepted code reads back with its label as zeros where it is blank.
pub read_back : (c : StandardTimeCode) → standard_fits c ≡ true → read_five (standard_list c) ≡ zeroed c
read_back c h =
    ap read_five (AcceptedCodes.standard_page c h)
    ∙ ReadByPage.code_read _ _ _ _ _ (zeroed c)
    (AcceptedCodes.letters_written (zeroed c) (AcceptedCodes.label_accepted c h) (AcceptedCodes.last_accepted c h))

-- One that is not blank reads back as itself.
pub read_back_same : (c : StandardTimeCode) → standard_fits c ≡ true → c.blank ≡ false → read_five (standard_list c) ≡ c
read_back_same c h b = read_back c h ∙ rw b

-- ---- what is read and written again

-- The bytes of a code that was read are those bytes without bit 7; without the label's bits, where it is blank; and without
-- the reserved bits of a status.
pub written_again : (hr mn sc fr ff : ℕ) → standard_list (read_standard hr mn sc fr ff) ≡ standard_again hr mn sc fr ff
written_again = WrittenAgain.standard_again_lem

-- Two bytes, likewise.
pub short_written_again : (fr ff : ℕ) → short_list (read_short fr ff) ≡ short_again fr ff
short_written_again = WrittenAgain.short_again_lem

-- Bytes of at most 7FH come back whole where the code is not blank and a status has no reserved bits.
pub same_again : (hr mn sc fr ff : ℕ) → hr ≤ 127 → mn ≤ 127 → sc ≤ 127 → fr ≤ 127 → bit 64 sc ≡ false
    → cleared (bit 32 fr) 8 ff ≡ ff → standard_list (read_standard hr mn sc fr ff) ≡ hr ∷ mn ∷ sc ∷ fr ∷ ff ∷ []
same_again hr mn sc fr ff hh hm hs hf b l =
    let h : hr % 128 ≡ hr = omega arith in
    let m : mn % 128 ≡ mn = omega arith in
    let s : sc % 128 ≡ sc = omega arith in
    let f : fr % 128 ≡ fr = omega arith in
    written_again hr mn sc fr ff ∙ rw (b, l, h, m, s, f)

-- ---- the bytes

-- Every byte of an accepted code is below 80H.
pub bytes_low : (c : StandardTimeCode) → standard_fits c ≡ true → all_low (standard_list c) ≡ true
bytes_low = AcceptedCodes.standard_low

-- Every byte of an accepted short code is below 80H.
pub short_bytes_low : (c : ShortTimeCode) → short_fits c ≡ true → all_low (short_list c) ≡ true
short_bytes_low = AcceptedCodes.short_low

-- A code has five bytes.
pub standard_list_length : (c : StandardTimeCode) → length (standard_list c) ≡ 5
unfolding standard_list
standard_list_length c = refl

-- A short one has two.
pub short_list_length : (c : ShortTimeCode) → length (short_list c) ≡ 2
unfolding short_list
short_list_length c = refl

-- So they are these bytes one by one.
pub five_listed : (c : StandardTimeCode)
    → standard_list c
    ≡ get_or (standard_list c) 0 0
    ∷ get_or (standard_list c) 1 0
    ∷ get_or (standard_list c) 2 0
    ∷ get_or (standard_list c) 3 0
    ∷ get_or (standard_list c) 4 0
    ∷ []
unfolding standard_list
five_listed c = refl

pub two_listed : (c : ShortTimeCode) → short_list c ≡ get_or (short_list c) 0 0 ∷ get_or (short_list c) 1 0 ∷ []
unfolding short_list
two_listed c = refl

-- When a code may be written, and as which bytes, part by part.
pub fits_parts : (c : StandardTimeCode) → standard_fits c ≡ final_fits c.final_byte && is_valid (written_label c)
unfolding standard_fits
fits_parts c = refl

pub list_parts : (c : StandardTimeCode)
    → standard_list c
    ≡ hours_byte (written_label c)
    ∷ (flag 64 c.color_frame + (written_label c).minutes)
    ∷ (flag 64 c.blank + (written_label c).seconds)
    ∷ frames_byte c.final_byte c.negative (written_label c).frames
    ∷ final_value c.final_byte
    ∷ []
unfolding standard_list
list_parts c = refl

-- What five bytes are read as, part by part.
pub standard_parts : (hr mn sc fr ff : ℕ)
    → read_standard hr mn sc fr ff
    ≡ record {
      time = raw_time hr mn sc fr;
      color_frame = bit 64 mn;
      blank = bit 64 sc;
      negative = bit 64 fr;
      final_byte = read_final fr ff;
    }
unfolding read_standard
standard_parts hr mn sc fr ff = refl

-- ---- subframes above 99

-- Subframes to 127 are read as they are, those above 99 too.
pub subframes_read : (fr ff : ℕ) → bit 32 fr ≡ false → ff ≤ 127 → read_final fr ff ≡ Subframes ff
subframes_read fr ff e h = let m : ff % 128 ≡ ff = omega arith in rw (e, m)

-- Above 99 they are refused on writing.
pub subframes_refused : (c : StandardTimeCode) (s : ℕ) → c.final_byte ≡ Subframes s → 99 < s
    → standard_bytes c ≡ refused (refusal 3)
unfolding standard_fits
subframes_refused c s e h =
    rw (and_first (final_fits c.final_byte) (is_valid (written_label c)) (ap final_fits e ∙ lt-leb s 99 h))

-- A short code with such subframes is refused too.
pub short_subframes_refused : (c : ShortTimeCode) (s : ℕ) → c.final_byte ≡ Subframes s → 99 < s
    → short_bytes c ≡ refused (refusal 3)
unfolding short_fits
short_subframes_refused c s e h =
    rw (and_second (leb c.frames 29) (final_fits c.final_byte) (ap final_fits e ∙ lt-leb s 99 h))

-- ---- forms

-- The short form of a code is the page's.
pub short_by_page : (c : StandardTimeCode) → short_form c ≡ page.short c
short_by_page c = refl

-- That of a code that the page has is one that the page has at the code's rate.
pub short_of_allowed : (c : StandardTimeCode) → page.allowed c ≡ true → page.short_allowed c.time.rate (page.short c) ≡ true
short_of_allowed c h =
    and_all _ _ (lt-ltb _ _ (valid_facts c.time (BeyondPage.allowed_label c h)).frames) (BeyondPage.allowed_last c h)

-- A code with a short form is the page's too.
pub with_short_by_page : (c : StandardTimeCode) (s : ShortTimeCode) → with_short c s ≡ page.after_short c s
with_short_by_page c s = refl

-- A code with its own short form is the code itself.
pub with_own_short : (c : StandardTimeCode) → with_short c (short_form c) ≡ c
with_own_short c = refl

-- A code with a short form has that short form.
pub short_of_with : (c : StandardTimeCode) (s : ShortTimeCode) → short_form (with_short c s) ≡ s
short_of_with c s = refl

-- The last two bytes read as the short form of what the five read as.
pub short_of_read : (hr mn sc fr ff : ℕ) → short_form (read_standard hr mn sc fr ff) ≡ read_short fr ff
unfolding read_standard read_short
short_of_read hr mn sc fr ff = refl

-- The last byte goes from status to subframes by p. 32.
pub subframes_form_by_page : (f : FinalByte) → final_subframes f ≡ page.move_to_ff f
subframes_form_by_page (Subframes b) = refl
subframes_form_by_page (Status s) = refl

-- It goes from subframes to status by p. 32.
pub status_form_by_page : (d : Bool) (f : FinalByte) → final_status d f ≡ page.move_to_st d f
status_form_by_page d (Subframes b) = refl
status_form_by_page d (Status s) = refl

-- ---- names, by p. 9

-- The short name of a field is the page's, just where it has one.
pub short_name_by_page : (name short : ℕ) → (short_name_of name ≡ Some short) ↔ ShortNamed name short
short_name_by_page name short = (Names.of_short_name name short, Names.short_name_of_lem name short)

-- So is the field of a short name.
pub full_name_by_page : (name short : ℕ) → (full_name short ≡ Some name) ↔ ShortNamed name short
full_name_by_page name short = (Names.of_full_name name short, Names.full_name_of name short)
