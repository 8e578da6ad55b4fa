-- What goes out of a word: a name alone, a Locate to a usual time, a Locate to a register, and a Move. Assumes nothing.
use Prim.Native.Nat.{ℕ, zero, suc, ◌+◌, ◌*◌, ◌/◌, ◌%◌, ◌≤◌, ◌<◌}
use mathlib.Core.Path.{◌≡◌, refl, sym, ap, ◌∙◌}
use mathlib.Core.Bool.{Bool, true, false, true≢false}
use mathlib.Core.List.{[], ◌∷◌}
use mathlib.Core.Logic.{◌⊎◌}
use native.Mathlib.Omega.{arith}
use borrow.Author.Tests.{le-leb}
use lib.Dec.{T}
use Rattle.mmc.specs.declared.command.MmcCommand.TheVariants.{LocateField, LocateTarget, Move}
use Rattle.codes.specs.declared.time_code.StandardTimeCode.{StandardTimeCode}
use Rattle.mmc.specs.Item.{command_item}
use Rattle.mmc.specs.Rp013Commands.{LOCATE_FIELD, MOVE}
use Rattle.fast_mmc.specs.Code.{final_of, is_status}
use Rattle.fast_mmc.specs.Word.{four_marks, target_bytes, target_word, command_word, plain_command, byte_at, marked_code, word_code, word_item}
use Rattle.labels.specs.St12.{label, frames_per_second, is_drop_frame, is_valid}
use Rattle.labels.specs.Time.{type_of, bits_of}
use Rattle.universal.specs.Emission.{sent}
use Rattle.codes.proofs.Laws.{fits_parts, list_parts}
use Rattle.labels.proofs.Laws.{in_range_valid}
use Rattle.mmc.proofs.CommandLaws.{command_written_by_page}
use Rattle.mmc.proofs.WritingSteps.{names_sent, locate_sent}
use Rattle.fast_mmc.proofs.CommandWords.{said_field, said_target, said_move, is_word, item_of, plain_is}

-- ---- a name alone

-- The first seven names are one more than the case.
pub low_sent : (n : ℕ) → n < 7 → command_item [] (plain_command n) ≡ sent ((n + 1) ∷ [])
unfolding plain_command
low_sent zero h = (names_sent []).stop
low_sent (suc zero) h = (names_sent []).play
low_sent (suc (suc zero)) h = (names_sent []).deferred_play
low_sent (suc (suc (suc zero))) h = (names_sent []).fast_forward
low_sent (suc (suc (suc (suc zero)))) h = (names_sent []).rewind
low_sent (suc (suc (suc (suc (suc zero))))) h = (names_sent []).record_strobe
low_sent (suc (suc (suc (suc (suc (suc zero)))))) h = (names_sent []).record_exit
low_sent (suc (suc (suc (suc (suc (suc (suc n))))))) h = absurd (omega arith)

pub pause_sent : (n : ℕ) → n ≡ 7 → command_item [] (plain_command n) ≡ sent (9 ∷ [])
unfolding plain_command
pause_sent n e = rw e (names_sent []).pause

pub reset_sent : (n : ℕ) → n ≡ 8 → command_item [] (plain_command n) ≡ sent (13 ∷ [])
unfolding plain_command
reset_sent n e = rw e (names_sent []).reset

-- What goes out of a word that is a name alone.
pub word_name : (w k : ℕ) → w < 9 → command_item [] (plain_command w) ≡ sent (k ∷ []) → word_item w ≡ sent (k ∷ [])
word_name w k h e = sym (item_of w (plain_command w) (plain_is w h)) ∙ e

-- ---- a byte of marks that is a rate

four_cases : (P : ℕ → Type 0) → P 0 → P 1 → P 2 → P 3 → (b : ℕ) → b ≤ 3 → P b
four_cases P p q r s zero h = p
four_cases P p q r s (suc zero) h = q
four_cases P p q r s (suc (suc zero)) h = r
four_cases P p q r s (suc (suc (suc zero))) h = s
four_cases P p q r s (suc (suc (suc (suc n)))) h = absurd (omega arith)

true_of : (b : Bool) → T b → b ≡ true
true_of true h = refl
true_of false h = absurd h

-- At 24 and 25 no number is skipped.
pub slow_valid : (h m s f b : ℕ) → h ≤ 23 → m ≤ 59 → s ≤ 59 → b < 2 → f < 24 + b → is_valid (label (type_of b) h m s f) ≡ true
slow_valid h m s f b hh hm hs hb hf =
    true_of _
    (in_range_valid (type_of b) h m s f hh hm hs (omega (arith, fps b (omega arith) hb)) (λ d. absurd (true≢false (sym d ∙ drop b (omega arith) hb))))
  where
    fps : (b : ℕ) → b ≤ 3 → b < 2 → frames_per_second (type_of b) ≡ 24 + b
    fps = four_cases (λ b. b < 2 → frames_per_second (type_of b) ≡ 24 + b) (λ k. refl) (λ k. refl) (λ k. absurd (omega arith)) (λ k. absurd (omega arith))

    drop : (b : ℕ) → b ≤ 3 → b < 2 → is_drop_frame (type_of b) ≡ false
    drop = four_cases (λ b. b < 2 → is_drop_frame (type_of b) ≡ false) (λ k. refl) (λ k. refl) (λ k. absurd (omega arith)) (λ k. absurd (omega arith))

-- At 30 frames and drop-frame: where it is drop-frame, one that is kept.
pub fast_valid : (h m s f b : ℕ) → h ≤ 23 → m ≤ 59 → s ≤ 59 → 2 ≤ b → b ≤ 3 → f ≤ 29
    → ((b ≡ 3 → ⊥) → (m % 10 ≡ 0) ⊎ (2 ≤ s * 30 + f)) → is_valid (label (type_of b) h m s f) ≡ true
fast_valid h m s f b hh hm hs hl hb hf k =
    true_of _
    (in_range_valid (type_of b) h m s f hh hm hs (omega (arith, fps b hb hl)) (λ d. k (λ e. true≢false (sym d ∙ ap (λ (x : ℕ). is_drop_frame (type_of x)) e))))
  where
    fps : (b : ℕ) → b ≤ 3 → 2 ≤ b → frames_per_second (type_of b) ≡ 30
    fps = four_cases (λ b. 2 ≤ b → frames_per_second (type_of b) ≡ 30) (λ k. absurd (omega arith)) (λ k. absurd (omega arith)) (λ k. refl) (λ k. refl)

-- A time code that is written as its counts are: a valid label with subframes, and no mark but the rate.
pub record Usual (h m s f last marks : ℕ) : Type 0 where
  pub rate : marks ≤ 3
  pub hours : h ≤ 23
  pub subframes : last ≤ 99
  pub valid : is_valid (label (type_of marks) h m s f) ≡ true

module _ (h m s f last b : ℕ) (u : Usual h m s f last b) where
  rate_bits : bits_of (type_of b) ≡ b
  rate_bits = four_cases (λ b. bits_of (type_of b) ≡ b) refl refl refl refl b u.rate

  -- A usual time code goes out as its counts are, the rate above the hours.
  pub usual_item : command_item [] (LocateTarget (marked_code b h m s f last 0))
      ≡ sent (68 ∷ 6 ∷ 1 ∷ (h + b * 32) ∷ m ∷ s ∷ f ∷ last ∷ [])
  unfolding marked_code final_of
  usual_item =
      let hr : b * 32 + h % 32 ≡ h + b * 32 = omega (arith, u.hours) in
      let mn : 0 + m ≡ m = omega arith in
      let sc : 0 + s ≡ s = omega arith in
      let fr : 0 + 0 + f ≡ f = omega arith in
      locate_sent [] (marked_code b h m s f last 0)
      ∙ rw (fits_parts, list_parts, le-leb last 99 u.subframes, u.valid, rate_bits, hr, mn, sc, fr)

  -- And its word is made of these bytes.
  pub usual_word : target_word (marked_code b h m s f last 0) ≡ target_bytes h m s f last b
  unfolding marked_code final_of target_word four_marks is_status
  usual_word =
      let k : b + 0 * 8 ≡ b = omega arith in
      rw (rate_bits, k)

-- A number is the bytes that are told of it.
word_bytes : (w : ℕ) → w % 256 ≡ 11 → w / 1125899906842624 ≡ 0
    → target_bytes (byte_at 256 w) (byte_at 65536 w) (byte_at 16777216 w) (byte_at 4294967296 w) (byte_at 1099511627776 w)
    (byte_at 281474976710656 w)
    ≡ w
word_bytes w e z =
    let q1 : w / 65536 ≡ w / 256 / 256 = omega arith in
    let q2 : w / 16777216 ≡ w / 65536 / 256 = omega arith in
    let q3 : w / 4294967296 ≡ w / 16777216 / 256 = omega arith in
    let q4 : w / 1099511627776 ≡ w / 4294967296 / 256 = omega arith in
    let q5 : w / 281474976710656 ≡ w / 1099511627776 / 256 = omega arith in
    let q6 : w / 281474976710656 ≤ 255 = omega (arith, z) in
    go w (w / 256) (w / 65536) (w / 16777216) (w / 4294967296) (w / 1099511627776) (w / 281474976710656) e refl q1 q2 q3 q4 q5 q6
  where
    go : (w a b c d f g : ℕ) → w % 256 ≡ 11 → a ≡ w / 256 → b ≡ a / 256 → c ≡ b / 256 → d ≡ c / 256 → f ≡ d / 256 → g ≡ f / 256 → g ≤ 255
        → target_bytes (a % 256) (b % 256) (c % 256) (d % 256) (f % 256) (g % 256) ≡ w
    go w a b c d f g e p q r s t u v = omega (arith, e, p, q, r, s, t, u, v)

-- A number whose bytes are usual is the word of a Locate, and goes out as these.
pub usual_sent : (w : ℕ) → w % 256 ≡ 11 → w / 1125899906842624 ≡ 0
    → Usual (byte_at 256 w) (byte_at 65536 w) (byte_at 16777216 w) (byte_at 4294967296 w) (byte_at 1099511627776 w)
    (byte_at 281474976710656 w)
    → word_item w
    ≡ sent
    (68
    ∷ 6
    ∷ 1
    ∷ (byte_at 256 w + byte_at 281474976710656 w * 32)
    ∷ byte_at 65536 w
    ∷ byte_at 16777216 w
    ∷ byte_at 4294967296 w
    ∷ byte_at 1099511627776 w
    ∷ [])
unfolding command_word
usual_sent w e z u =
    let q : w / 2251799813685248 ≡ 0 = omega (arith, z) in
    let c : word_code w
    ≡ marked_code (byte_at 281474976710656 w) (byte_at 256 w) (byte_at 65536 w) (byte_at 16777216 w) (byte_at 4294967296 w) (byte_at 1099511627776 w) 0 =
    ap (marked_code (byte_at 281474976710656 w) (byte_at 256 w) (byte_at 65536 w) (byte_at 16777216 w) (byte_at 4294967296 w) (byte_at 1099511627776 w)) q in
    sym
    (item_of w (LocateTarget (word_code w))
    (is_word w (LocateTarget (word_code w)) (said_target w (omega (arith, e)) e)
    (ap target_word c ∙ usual_word _ _ _ _ _ _ u ∙ word_bytes w e z)))
    ∙ ap (λ (x : StandardTimeCode). command_item [] (LocateTarget x)) c
    ∙ usual_item _ _ _ _ _ _ u

-- ---- a Locate to a register, and a Move

pub field_sent : (w : ℕ) → w % 256 ≡ 10 → w / 65536 ≡ 0 → 8 ≤ byte_at 256 w → byte_at 256 w ≤ 15
    → word_item w ≡ sent (68 ∷ 2 ∷ 0 ∷ byte_at 256 w ∷ [])
unfolding command_word
field_sent w e z l h =
    sym
    (item_of w (LocateField (byte_at 256 w))
    (is_word w (LocateField (byte_at 256 w)) (said_field w (omega (arith, e)) e) (omega (arith, e, z))))
    ∙ command_written_by_page (LOCATE_FIELD (byte_at 256 w)) [] (LocateField (byte_at 256 w)) (l, h) refl

pub word_move_sent : (w : ℕ) → w % 256 ≡ 12 → w / 16777216 ≡ 0 → 1 ≤ byte_at 256 w → byte_at 256 w ≤ 31 → 1 ≤ byte_at 65536 w
    → byte_at 65536 w ≤ 31 → word_item w ≡ sent (76 ∷ 2 ∷ byte_at 256 w ∷ byte_at 65536 w ∷ [])
unfolding command_word
word_move_sent w e z a b c d =
    sym
    (item_of w (Move (byte_at 256 w) (byte_at 65536 w))
    (is_word w (Move (byte_at 256 w) (byte_at 65536 w)) (said_move w (omega (arith, e)) e) (omega (arith, e, z))))
    ∙ command_written_by_page (MOVE (byte_at 256 w) (byte_at 65536 w)) [] (Move (byte_at 256 w) (byte_at 65536 w)) (a, b, c, d) refl
