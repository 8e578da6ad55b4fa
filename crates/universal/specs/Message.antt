-- What universal.rs does with Universal System Exclusive messages: the opening bytes, the data and the close, each with its check and
-- its refusal. Which messages there are is said in Midi1.antt. Assumes nothing.
use Rattle.std.specs.Prelude.{ℕ, ◌+◌, min, Bool, List, [], ◌∷◌, leb, Option, Some, None}
use Rattle.std.specs.Bool.{beq}
use Rattle.std.specs.List.{list_all}
use Rattle.universal.specs.Refusals.{Answer}
use Rattle.universal.specs.Emission.{Emission, sent, check, ◌then◌, fitted}
-- The parts that MIDI 1.0 names.
pub use Rattle.universal.specs.Midi1.{is_addressed, has_sub_id2, sub_id2_given, class_id}
use Rattle.universal.specs.declared.message.Universal.{Universal}

-- ---- the parts of a message

-- A 7-bit field value: 3 above 7FH.
abbrev pub value : ℕ → Emission
value v = check (leb v 127) 3 then sent (v ∷ [])

-- A sub-ID 2, where there is one.
abbrev pub sub_id2_value : Option ℕ → Emission
sub_id2_value None = sent []
sub_id2_value (Some s) = value s

-- Each byte is at most 7FH.
unfoldable pub all_low : List ℕ → Bool
all_low bs = list_all (λ b. leb b 127) bs

-- Data bytes: 1 for one above 7FH, before any goes out.
unfoldable pub data_emission : List ℕ → Emission
data_emission bs = check (all_low bs) 1 then sent bs

-- ---- a message

abbrev pub header : Bool → ℕ → ℕ → Option ℕ → Universal
header real_time device sub_id1 sub_id2 =
    record { real_time = real_time; device_id = device; sub_id1 = sub_id1; sub_id2 = sub_id2 }

-- The opening bytes, F0H to the last sub-ID: 5 first, then a sub-ID 2 just where the family has one, then the fields.
unfoldable pub opening : Universal → Emission
opening u =
    check (leb u.device_id 127) 5
    then check (beq (sub_id2_given u.sub_id2) (has_sub_id2 u.real_time u.sub_id1)) 3
    then sent (240 ∷ class_id u.real_time ∷ u.device_id ∷ [])
    then value u.sub_id1
    then sub_id2_value u.sub_id2

-- The whole message: opening, data, F7H.
unfoldable pub message : Universal → List ℕ → Emission
message u bs = opening u then data_emission bs then sent (247 ∷ [])

-- The length of a message whose F7H stands at a position, or the largest number where it has none.
abbrev pub length_at : ℕ → ℕ
length_at at = min (at + 1) 18446744073709551615

-- The answer of a close at a position, in a buffer of a given length.
unfoldable pub closing : ℕ → ℕ → Answer ℕ
closing at room = fitted (leb (length_at at) room) (length_at at)
