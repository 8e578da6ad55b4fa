-- Lemmas on a whole message put into a buffer: refused in the opening, refused for its data, or closed. Assumes nothing.
use Rattle.universal.specs.declared.error.SysexError.{SysexError}
use Rattle.std.specs.Prelude.{Some, Result}
use mathlib.Core.Path.{◌≡◌, refl, sym, ap, ◌∙◌}
use Prim.Native.Nat.{ℕ, ◌+◌, ◌≤◌, ◌<◌}
use native.Mathlib.Omega.{arith}
use mathlib.Core.Bool.{true, false}
use mathlib.Core.List.{List, [], ◌∷◌, ◌++◌}
use lib.ListN.{length, length-append}
use Rattle.universal.specs.Refusals.{Refusal, refusal, Answer, gives, refused, answer_of}
use Rattle.universal.specs.Overlay.{overlay}
use Rattle.universal.specs.Emission.{Emission, sent, answer}
use Rattle.universal.specs.Message.{all_low, opening, message, closing}
use Rattle.universal.specs.declared.message.Universal.{Universal}
use Rattle.universal.proofs.Laws.{length_overlay, overlay_then, answer_refused, reached_gives, reached_refused, opening_length, message_refused, message_high, message_whole, closing_answer}
use Rattle.universal.proofs.Openings.{EmissionPut}

-- What a call owes that put a whole message at the buffer's start: its answer, and the buffer.
abbrev pub Written : Emission → Answer ℕ → List ℕ → List ℕ → Type 0
Written e r before after = record { result_value : r ≡ answer e (length before); out_after : after ≡ overlay before 0 e.bytes }

-- An answer that is the same owes the same.
pub written_as : {q r : Result ℕ SysexError} (e : Emission) (before : List ℕ) {after : List ℕ} → q ≡ r → Written e (answer_of r) before after
    → Written e (answer_of q) before after
written_as e before p h = record { result_value = ap answer_of p ∙ h.result_value; out_after = h.out_after }

-- An opening whose answer is known.
pub put_opened : {q r : Result ℕ SysexError} {after : List ℕ} (e : Emission) (before : List ℕ) → q ≡ r → EmissionPut e (answer_of q) before after
    → EmissionPut e (answer_of r) before after
put_opened e before p h = record { result_value = sym (ap answer_of p) ∙ h.result_value; out_after = h.out_after }

-- A message that was refused.
written_refused : (e d : Emission) (r : Refusal) (before after : List ℕ) → e ≡ d → d.stop ≡ Some r → after ≡ overlay before 0 d.bytes
    → Written e (refused r) before after
written_refused e d r before after p s h = record {
  result_value = sym (answer_refused e (length before) r (ap (λ (k : Emission). k.stop) p ∙ s));
  out_after = h ∙ ap (λ (k : Emission). overlay before 0 k.bytes) (sym p);
}

-- The position after an opening.
pub at_most_five : (u : Universal) (out opened : List ℕ) (at : ℕ) → EmissionPut (opening u) (gives at) out opened → at ≤ 5
at_most_five u out opened at h =
    let r = reached_gives (opening u) at (sym h.result_value) in
    rw r.1 at (opening_length u r.0)

module _ (u : Universal) (bs out opened : List ℕ) where
  -- The opening was refused.
  pub message_stops : (r : Refusal) → EmissionPut (opening u) (refused r) out opened → Written (message u bs) (refused r) out opened
  message_stops r h =
      let s : (opening u).stop ≡ Some r = reached_refused (opening u) r (sym h.result_value) in
      written_refused (message u bs) (opening u) r out opened (message_refused u bs r s) s h.out_after

  module _ (at : ℕ) (h : EmissionPut (opening u) (gives at) out opened) where
    -- The data was refused.
    pub data_stops : all_low bs ≡ false → Written (message u bs) (refused (refusal 1)) out opened
    data_stops l =
        written_refused (message u bs) _ (refusal 1) out opened
        (message_high u bs (reached_gives (opening u) at (sym h.result_value)).0 l) refl h.out_after

    -- The data was put, and the message closed.
    pub message_ends : (filled after : List ℕ) (r : Answer ℕ) → all_low bs ≡ true → filled ≡ overlay opened at bs
        → r ≡ closing (at + length bs) (length filled) → after ≡ overlay filled (at + length bs) (247 ∷ [])
        → length bs < 9223372036854775808 → Written (message u bs) r out after
    message_ends filled after r l f c a most =
        let o = reached_gives (opening u) at (sym h.result_value) in
        let start : List ℕ = (opening u).bytes in
        let whole : message u bs ≡ sent (start ++ bs ++ 247 ∷ []) = message_whole u bs o.0 l in
        let n : length (start ++ bs) ≡ at + length bs = length-append start bs ∙ ap (λ (k : ℕ). k + length bs) o.1 in
        let size : length filled ≡ length out =
        ap length f ∙ length_overlay opened at bs ∙ ap length h.out_after ∙ length_overlay out 0 start in
        let long : length (message u bs).bytes ≡ at + length bs + 1 =
        ap (λ (e : Emission). length e.bytes) whole ∙ length-append (start ++ bs) (247 ∷ []) ∙ ap (λ (k : ℕ). k + 1) n in
        let held : filled ≡ overlay out 0 (start ++ bs) =
        overlay_then out opened filled 0 at start bs h.out_after f (omega arith) in record {
          result_value =
              c
              ∙ ap (closing (at + length bs)) size
              ∙ closing_answer (message u bs) (at + length bs) (length out) (ap (λ (e : Emission). e.stop) whole) long
              (omega (arith, at_most_five u out opened at h));
          out_after =
              overlay_then out filled after 0 (at + length bs) (start ++ bs) (247 ∷ []) held a (omega arith)
              ∙ ap (λ (e : Emission). overlay out 0 e.bytes) (sym whole);
        }
