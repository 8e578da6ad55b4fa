-- A message of one kind put into a buffer: refused for its device, refused for its values, or handed to the message writer.
-- Assumes nothing.
use Prim.Native.Nat.{ℕ, ◌≤◌, ◌<◌}
use mathlib.Core.Path.{◌≡◌, sym, ap, ◌∙◌}
use mathlib.Core.Bool.{Bool, true, false, ◌&&◌}
use mathlib.Core.List.{List, [], ◌∷◌, ◌++◌}
use lib.Dec.{leb}
use lib.ListN.{length}
use borrow.Author.Tests.{le-leb, lt-leb}
use Rattle.universal.specs.Emission.{Emission, refusing, answer}
use Rattle.universal.specs.Message.{message}
use Rattle.universal.specs.Overlay.{overlay}
use Rattle.universal.specs.Refusals.{refusal, Answer, refused}
use Rattle.universal.proofs.Laws.{overlay_none, answer_refused}
use Rattle.labels.specs.St12.{is_valid}
use Rattle.mtc.specs.Kind.{time_code, write_kind}
use Rattle.mtc.specs.FullMessage.{full_data, full_message_written}
use Rattle.mtc.specs.UserBits.{all_nibbles, user_bits_written}
use Rattle.mtc.specs.declared.full_message.FullMessage.{FullMessage}
use Rattle.mtc.specs.declared.user_bits.UserBits.{UserBits}

-- What a call owes that put an emission at the buffer's start: its answer, and the buffer.
abbrev pub OwesMessage : Emission → Answer ℕ → List ℕ → List ℕ → Type 0
OwesMessage e r before after = (r ≡ answer e (length before)) × (after ≡ overlay before 0 e.bytes)

-- A refusal with nothing emitted leaves the buffer as found.
nothing_goes : (e : Emission) (n : ℕ) (out : List ℕ) → e ≡ refusing n → OwesMessage e (refused (refusal n)) out out
nothing_goes e n out p = (
  sym (answer_refused e (length out) (refusal n) (ap (λ (k : Emission). k.stop) p)),
  sym (ap (λ (k : Emission). overlay out 0 k.bytes) p ∙ overlay_none out 0),
)

-- The device is checked first, and then the values.
pub device_refusing : (device : ℕ) (in_range : Bool) (sub_id2 : ℕ) (bs : List ℕ) → 127 < device → write_kind device in_range sub_id2 bs ≡ refusing 5
device_refusing device in_range sub_id2 bs h = rw (lt-leb device 127 h)

pub value_refusing : (device : ℕ) (in_range : Bool) (sub_id2 : ℕ) (bs : List ℕ) → device ≤ 127 → in_range ≡ false
    → write_kind device in_range sub_id2 bs ≡ refusing 3
value_refusing device in_range sub_id2 bs h v = rw (le-leb device 127 h, v)

module _ (device : ℕ) (in_range : Bool) (sub_id2 : ℕ) (bs out : List ℕ) where
  pub device_refused : 127 < device → OwesMessage (write_kind device in_range sub_id2 bs) (refused (refusal 5)) out out
  device_refused h = nothing_goes (write_kind device in_range sub_id2 bs) 5 out (device_refusing device in_range sub_id2 bs h)

  pub value_refused : device ≤ 127 → in_range ≡ false → OwesMessage (write_kind device in_range sub_id2 bs) (refused (refusal 3)) out out
  value_refused h v = nothing_goes (write_kind device in_range sub_id2 bs) 3 out (value_refusing device in_range sub_id2 bs h v)

-- Past both checks it is the message.
pub checks_passed : (device : ℕ) (in_range : Bool) (sub_id2 : ℕ) (bs : List ℕ) → device ≤ 127 → in_range ≡ true
    → write_kind device in_range sub_id2 bs ≡ message (time_code device sub_id2) bs
checks_passed device in_range sub_id2 bs h v = rw (le-leb device 127 h, v)

-- ---- full messages

module _ (m : FullMessage) (out : List ℕ) where
  pub full_device : 127 < m.device_id → OwesMessage (full_message_written m) (refused (refusal 5)) out out
  unfolding full_message_written
  full_device h = device_refused m.device_id (is_valid m.time) 1 (full_data m.time) out h

  module _ (low : m.device_id ≤ 127) where
    pub full_label : is_valid m.time ≡ false → OwesMessage (full_message_written m) (refused (refusal 3)) out out
    unfolding full_message_written
    full_label v = value_refused m.device_id (is_valid m.time) 1 (full_data m.time) out low v

-- ---- user bits

module _ (b : UserBits) (out : List ℕ) where
  abbrev in_range : Bool
  in_range = all_nibbles b.groups && leb b.flags 3

  pub bits_device : 127 < b.device_id → OwesMessage (user_bits_written b) (refused (refusal 5)) out out
  unfolding user_bits_written
  bits_device h = device_refused b.device_id in_range 2 (b.groups ++ b.flags ∷ []) out h

  module _ (low : b.device_id ≤ 127) where
    pub bits_groups : all_nibbles b.groups ≡ false → OwesMessage (user_bits_written b) (refused (refusal 3)) out out
    unfolding user_bits_written
    bits_groups v = value_refused b.device_id in_range 2 (b.groups ++ b.flags ∷ []) out low (rw v)

    pub bits_flags : all_nibbles b.groups ≡ true → 3 < b.flags → OwesMessage (user_bits_written b) (refused (refusal 3)) out out
    unfolding user_bits_written
    bits_flags v f = value_refused b.device_id in_range 2 (b.groups ++ b.flags ∷ []) out low (rw (v, lt-leb b.flags 3 f))
