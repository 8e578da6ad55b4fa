-- The laws of full messages and user bits: what is written is RP-004/008's message, what is refused, reading it gives it back,
-- and reading accepts the practice's layouts and no other. Assumes nothing.
use Rattle.std.specs.Prelude.{Some}
use Prim.Native.Nat.{ℕ, ◌+◌, ◌*◌, ◌/◌, ◌%◌, ◌≤◌, ◌<◌}
use mathlib.Core.Path.{◌≡◌, refl, sym, ap, ap₂, ◌∙◌}
use mathlib.Core.Bool.{true, false, ◌&&◌}
use mathlib.Core.List.{List, [], ◌∷◌, ◌++◌}
use native.Mathlib.Nat.{mod-eq_of_lt}
use native.Mathlib.Omega.{arith}
use lib.Dec.{T, leb, lit≤}
use lib.ListN.{length, get_or}
use borrow.Author.Tests.{le-leb}
use Rattle.universal.specs.Emission.{Emission, sent, refusing, answer}
use Rattle.universal.specs.Message.{all_low, message}
use Rattle.universal.specs.Refusals.{too_small, gives, refused}
use Rattle.universal.proofs.Laws.{answer_fits, answer_short, all_low_cons, all_low_none, opening_with_sub_id2, message_whole}
use Rattle.labels.specs.St12.{is_valid}
use Rattle.labels.specs.Time.{type_of, raw_time, hours_byte}
use Rattle.mtc.specs.Rp004.{type_code, InWidths, hours_count}
use Rattle.mtc.specs.Rp004Messages.{Groups, full_message_bytes, user_bits_bytes, four_bytes}
use Rattle.mtc.specs.Kind.{time_code, is_time_code, message_header, message_data, ReadsOnly}
use Rattle.mtc.specs.FullMessage.{full_message, received_full, full_message_from, full_data, full_message_written}
use Rattle.mtc.specs.UserBits.{user_bits, received_bits, user_bits_from, all_nibbles, user_bits_written, group_bytes, groups_of}
use Rattle.mtc.specs.declared.full_message.FullMessage.{FullMessage}
use Rattle.labels.specs.declared.time.MtcTime.{MtcTime}
use Rattle.labels.specs.declared.time.TimeCodeType.{TimeCodeType}
use Rattle.labels.specs.declared.time.TimeCodeType.TheVariants.{Fps24, Fps25, Fps30Drop, Fps30}
use Rattle.mtc.specs.declared.user_bits.UserBits.{UserBits}
use Rattle.universal.proofs.Tests.{holds_true}
use Rattle.mtc.proofs.Messages.UserBitGroups.{eight_spelled, nibble_below, data_low}
use Rattle.mtc.proofs.Sequences.LabelNibbles.{bits_code}
use Rattle.mtc.proofs.Messages.MessageReading.{reads_only}
use Rattle.mtc.proofs.Widths.{valid_in_widths}
use Rattle.mtc.proofs.Messages.MessageWriting.{device_refusing, value_refusing, checks_passed}

-- ---- a message of a kind, byte by byte

-- F0 7F <device ID> 01 <sub-ID 2>, the data, F7.
time_code_bytes : (device sub_id2 : ℕ) (bs : List ℕ) → device ≤ 127 → sub_id2 ≤ 127 → all_low bs ≡ true
    → message (time_code device sub_id2) bs ≡ sent ((0xF0 ∷ 0x7F ∷ device ∷ 0x01 ∷ sub_id2 ∷ bs) ++ 0xF7 ∷ [])
time_code_bytes device sub_id2 bs low low₂ l =
    let opened = opening_with_sub_id2 true device 1 low sub_id2 refl (lit≤ tt) low₂ in
    message_whole (time_code device sub_id2) bs (ap (λ (e : Emission). e.stop) opened) l
    ∙ ap (λ (e : Emission). sent (e.bytes ++ bs ++ 0xF7 ∷ [])) opened

-- ---- the full message

type_small : (r : TimeCodeType) → type_code r ≤ 3
type_small Fps24 = lit≤ tt
type_small Fps25 = lit≤ tt
type_small Fps30Drop = lit≤ tt
type_small Fps30 = lit≤ tt

type_back : (r : TimeCodeType) → type_of (type_code r) ≡ r
type_back Fps24 = refl
type_back Fps25 = refl
type_back Fps30Drop = refl
type_back Fps30 = refl

module _ (t : MtcTime) (w : InWidths t) where
  hours_with_type : hours_byte t ≡ hours_count t
  hours_with_type = rw (bits_code t.rate, mod-eq_of_lt w.hours)

  full_data_low : all_low (full_data t) ≡ true
  full_data_low =
      all_low_cons (hours_byte t) _ (omega (arith, hours_with_type, type_small t.rate, w.hours))
      (all_low_cons t.minutes _ (omega (arith, w.minutes))
      (all_low_cons t.seconds _ (omega (arith, w.seconds))
      (all_low_cons t.frames _ (omega (arith, w.frames)) all_low_none)))

  -- The four bytes of a label, read again.
  raw_back : raw_time (hours_count t) t.minutes t.seconds t.frames ≡ t
  raw_back =
      let type : hours_count t / 32 ≡ type_code t.rate = omega (arith, w.hours) in
      let hours : hours_count t % 32 ≡ t.hours = omega (arith, w.hours) in
      rw (type, type_back t.rate, hours, mod-eq_of_lt w.minutes, mod-eq_of_lt w.seconds, mod-eq_of_lt w.frames)

-- RP-004/008's full message of any device and any label in its widths, valid or not, is read as these.
pub full_message_read : (device : ℕ) (t : MtcTime) → InWidths t
    → full_message_from (message_header (full_message_bytes device t)) (message_data (full_message_bytes device t)) ≡ gives (Some (full_message device t))
unfolding full_message_from is_time_code full_message_bytes
full_message_read device t w = ap (λ (u : MtcTime). gives (Some (full_message device u))) (raw_back t w)

-- A device above 127 is refused with 5, whatever the label is; a label that is not valid with 3. Nothing goes out.
pub full_message_device : (m : FullMessage) → 127 < m.device_id → full_message_written m ≡ refusing 5
unfolding full_message_written
full_message_device m h = device_refusing m.device_id (is_valid m.time) 1 (full_data m.time) h

pub full_message_invalid : (m : FullMessage) → m.device_id ≤ 127 → is_valid m.time ≡ false → full_message_written m ≡ refusing 3
unfolding full_message_written
full_message_invalid m h v = value_refusing m.device_id (is_valid m.time) 1 (full_data m.time) h v

module _ (m : FullMessage) (low : m.device_id ≤ 127) (valid : T (is_valid m.time)) where
  -- A valid label and a device of at most 127 go out as RP-004/008's full message.
  pub full_message_bytes_lem : full_message_written m ≡ sent (full_message_bytes m.device_id m.time)
  unfolding full_message_written full_message_bytes
  full_message_bytes_lem =
      let w : InWidths m.time = valid_in_widths m.time valid in
      checks_passed m.device_id (is_valid m.time) 1 (full_data m.time) low (holds_true (is_valid m.time) valid)
      ∙ time_code_bytes m.device_id 1 (full_data m.time) low (lit≤ tt) (full_data_low m.time w)
      ∙ rw (hours_with_type m.time w)

  -- A buffer of 10 bytes or more holds it; a shorter one is refused with 4 and 10.
  pub full_message_fits : (room : ℕ) → 10 ≤ room → answer (full_message_written m) room ≡ gives 10
  unfolding full_message_bytes
  full_message_fits room h = rw full_message_bytes_lem (answer_fits (sent (full_message_bytes m.device_id m.time)) room refl h)

  pub full_message_short : (room : ℕ) → room < 10 → answer (full_message_written m) room ≡ refused (too_small 10)
  unfolding full_message_bytes
  full_message_short room h = rw full_message_bytes_lem (answer_short (sent (full_message_bytes m.device_id m.time)) room refl h)

  -- Reading what was written gives it back.
  pub full_message_back : full_message_from (message_header (full_message_written m).bytes) (message_data (full_message_written m).bytes) ≡ gives (Some m)
  full_message_back = rw full_message_bytes_lem (full_message_read m.device_id m.time (valid_in_widths m.time valid))

-- The split parts of the practice's message: Real Time, 01, 01, and four data bytes.
pub full_message_layout : (device : ℕ) (t : MtcTime)
    → (message_header (full_message_bytes device t) ≡ time_code device 1) × (length (message_data (full_message_bytes device t)) ≡ 4)
unfolding full_message_bytes
full_message_layout device t = (refl, refl)

-- Reading accepts that layout, and no other.
pub full_message_reads : ReadsOnly 1 4 received_full full_message_from
unfolding full_message_from
full_message_reads = reads_only 1 4 received_full

-- ---- user bits

nibble_same : (gs : List ℕ) (i : ℕ) → all_nibbles gs ≡ true → get_or gs i 0 % 16 ≡ get_or gs i 0
nibble_same gs i h = mod-eq_of_lt (nibble_below gs i h)

module _ (b : UserBits) (nibbles : T (all_nibbles b.groups)) where
  same : (i : ℕ) → get_or b.groups i 0 % 16 ≡ get_or b.groups i 0
  same i = nibble_same b.groups i (holds_true (all_nibbles b.groups) nibbles)

  -- Groups of 4 bits make the practice's four bytes.
  pub are_group_bytes : group_bytes b.groups ≡ four_bytes (groups_of b)
  unfolding group_bytes four_bytes
  are_group_bytes = rw (same 0, same 1, same 2, same 3, same 4, same 5, same 6, same 7)

  module _ (size : length b.groups ≡ 8) (flags : b.flags < 4) where
    bits_back : user_bits_from (message_header (user_bits_bytes b.device_id (groups_of b))) (message_data (user_bits_bytes b.device_id (groups_of b)))
        ≡ gives (Some b)
    unfolding user_bits_from is_time_code user_bits_bytes
    bits_back =
        let same_flags : (b.flags / 2 * 2 + b.flags % 2) % 4 ≡ b.flags = omega arith in
        rw (same 0, same 1, same 2, same 3, same 4, same 5, same 6, same 7, same_flags)
        (ap (λ (gs : List ℕ). gives (Some (user_bits b.device_id gs b.flags))) (sym (eight_spelled b.groups size)))

    module _ (low : b.device_id ≤ 127) where
      -- Eight groups below 16, flags below 4 and a device of at most 127 go out as RP-004/008's user bits.
      pub user_bits_bytes_lem : user_bits_written b ≡ sent (user_bits_bytes b.device_id (groups_of b))
      unfolding user_bits_written user_bits_bytes
      user_bits_bytes_lem =
          let groups : all_nibbles b.groups ≡ true = holds_true (all_nibbles b.groups) nibbles in
          let two : b.flags ≡ b.flags / 2 * 2 + b.flags % 2 = omega arith in
          let in_range : all_nibbles b.groups && leb b.flags 3 ≡ true = rw (groups, le-leb b.flags 3 (omega arith)) in
          checks_passed b.device_id _ 2 (b.groups ++ b.flags ∷ []) low in_range
          ∙ time_code_bytes b.device_id 2 (b.groups ++ b.flags ∷ []) low (lit≤ tt) (data_low b.groups b.flags groups flags)
          ∙ ap₂ (λ (gs : List ℕ) (f : ℕ). sent ((0xF0 ∷ 0x7F ∷ b.device_id ∷ 0x01 ∷ 0x02 ∷ gs ++ f ∷ []) ++ 0xF7 ∷ []))
          (eight_spelled b.groups size) two

      -- A buffer of 15 bytes or more holds it; a shorter one is refused with 4 and 15.
      pub user_bits_fits : (room : ℕ) → 15 ≤ room → answer (user_bits_written b) room ≡ gives 15
      unfolding user_bits_bytes
      user_bits_fits room h = rw user_bits_bytes_lem (answer_fits (sent (user_bits_bytes b.device_id (groups_of b))) room refl h)

      pub user_bits_short : (room : ℕ) → room < 15 → answer (user_bits_written b) room ≡ refused (too_small 15)
      unfolding user_bits_bytes
      user_bits_short room h = rw user_bits_bytes_lem (answer_short (sent (user_bits_bytes b.device_id (groups_of b))) room refl h)

      -- Reading what was written gives it back.
      pub user_bits_back : user_bits_from (message_header (user_bits_written b).bytes) (message_data (user_bits_written b).bytes) ≡ gives (Some b)
      user_bits_back = rw user_bits_bytes_lem bits_back

-- The split parts of the practice's message: Real Time, 01, 02, and nine data bytes.
pub user_bits_layout : (device : ℕ) (u : Groups)
    → (message_header (user_bits_bytes device u) ≡ time_code device 2) × (length (message_data (user_bits_bytes device u)) ≡ 9)
unfolding user_bits_bytes
user_bits_layout device u = (refl, refl)

-- Reading accepts that layout, and no other.
pub user_bits_reads : ReadsOnly 2 9 received_bits user_bits_from
unfolding user_bits_from
user_bits_reads = reads_only 2 9 received_bits
