-- Every call of a reader from fresh on leaves a sound record, so that it is taken as it is. Assumes nothing.
use Rattle.std.specs.Prelude.{Some}
use Prim.Native.Nat.{ℕ, ◌≤◌}
use mathlib.Core.Bool.{Bool, true, false, cond}
use mathlib.Core.Path.{◌≡◌, refl, sym, ◌∙◌}
use native.Mathlib.Omega.{arith}
use lib.Dec.{eqb, le→leb}
use lib.ListN.{length, length-set}
use Rattle.mtc.specs.QuarterFrame.{piece_of, value_of, is_heard}
use Rattle.mtc.specs.Reader.{Standing, is_sound, Sound, or_fresh, control, order_of, number_of, passed, stored, completed, informed, after_piece, report_of, after_heard, event_heard, after_byte, after_full_message}
use Rattle.labels.specs.declared.time.MtcTime.{MtcTime}
use Rattle.mtc.specs.declared.reader.MtcReader.{MtcReader}
use Rattle.universal.proofs.Tests.{holds_true}
use Rattle.mtc.proofs.ReaderCalls.{fit_set, sound, sound_first, sound_nibbles, or_fresh_sound}

-- Of two things, whichever a test picks.
picked : {A : Type 0} (P : A → Type 0) (b : Bool) {x y : A} → P x → P y → P (cond b x y)
picked P true p q = p
picked P false p q = q

module _ (r : MtcReader) (h : Sound r) where
  passed_sound : (o : Standing) (p : ℕ) → p ≤ 7 → Sound (passed r o p)
  passed_sound o p e =
      record {
        is_sound_record = sound (passed r o p) (omega arith) (sound_first r h.is_sound_record) (le→leb p 7 e) (sound_nibbles r h.is_sound_record);
        eight = h.eight;
      }

  stored_sound : (o : Standing) (n p v : ℕ) → p ≤ 7 → v ≤ 15 → Sound (stored r o n p v)
  stored_sound o n p v e f =
      record {
        is_sound_record =
            sound (stored r o n p v) (omega arith)
            (picked (λ x. x ≤ 7) (eqb n 1) e (sound_first r h.is_sound_record)) (le→leb p 7 e)
            (fit_set 8 r.nibbles p v (sound_nibbles r h.is_sound_record) f);
        eight = length-set r.nibbles p v ∙ h.eight;
      }

  informed_sound : (t : MtcTime) → Sound (informed r t)
  informed_sound t =
      record {
        is_sound_record = sound (informed r t) (omega arith) (sound_first r h.is_sound_record) tt (sound_nibbles r h.is_sound_record);
        eight = h.eight;
      }

-- A piece keeps the number of nibbles.
pub same_length : (r : MtcReader) (p v : ℕ) → length (after_piece r p v).nibbles ≡ length r.nibbles
unfolding after_piece
same_length r p v =
    let o = order_of (control r) p in
    let n = number_of (control r) o p in
    let s = length-set r.nibbles p v in
    picked (λ (x : MtcReader). length x.nibbles ≡ length r.nibbles) (eqb n 0) refl
    (picked (λ (x : MtcReader). length x.nibbles ≡ length r.nibbles) (eqb n 8) s s)

-- A piece is the last one after it came.
pub last_is : (r : MtcReader) (p v : ℕ) → (after_piece r p v).last ≡ Some p
unfolding after_piece
last_is r p v =
    let n = number_of (control r) (order_of (control r) p) p in
    picked (λ (x : MtcReader). x.last ≡ Some p) (eqb n 0) refl (picked (λ (x : MtcReader). x.last ≡ Some p) (eqb n 8) refl refl)

completed_sound : (r : MtcReader) → Sound r → Sound (completed r)
unfolding is_sound
completed_sound r h = record { is_sound_record = h.is_sound_record; eight = h.eight }

module _ (r : MtcReader) (h : Sound r) where
  pub piece_sound : (p v : ℕ) → p ≤ 7 → v ≤ 15 → Sound (after_piece r p v)
  unfolding after_piece
  piece_sound p v e f =
      let o = order_of (control r) p in
      let n = number_of (control r) o p in
      let s = stored_sound r h o n p v e f in
      picked Sound (eqb n 0) (passed_sound r h o p e) (picked Sound (eqb n 8) (completed_sound (stored r o n p v) s) s)

  pub as_is : or_fresh r ≡ r
  as_is = sym (or_fresh_sound r (sym (holds_true (is_sound r) h.is_sound_record))).0

  -- A sound reader takes a byte that is heard and a full message as it is.
  pub by_piece : (b : ℕ) → after_heard r b ≡ after_piece r (piece_of b) (value_of b)
  by_piece b = rw as_is

  pub report_by_piece : (b : ℕ) → (event_heard r b).sequence ≡ report_of r (piece_of b) (value_of b)
  report_by_piece b = rw as_is

  pub heard_sound : (b : ℕ) → Sound (after_heard r b)
  heard_sound b = rw (by_piece b) (piece_sound (piece_of b) (value_of b) (omega arith) (omega arith))

  pub byte_sound : (b : ℕ) → Sound (after_byte r b)
  byte_sound b = picked Sound (is_heard b) (heard_sound b) h

  pub full_sound : (t : MtcTime) → Sound (after_full_message r t)
  full_sound t = rw as_is (informed_sound r h t)
