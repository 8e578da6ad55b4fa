-- The kinds of MIDI Time Code messages among Universal messages, and what reading and writing one answers (document 01, "Full
-- message and user bits" and "Turned back by the input"). Assumes nothing.
use Rattle.std.specs.Prelude.{ℕ, ◌-◌, ◌≡◌, Bool, true, false, cond, ◌&&◌, List, leb, eqb, length, take, drop, get_or, Option, Some, None}
use Rattle.universal.specs.Emission.{Emission, check, ◌then◌}
use Rattle.universal.specs.Message.{header, message}
use Rattle.universal.specs.Refusals.{Answer, gives, refused, refusal}
use Rattle.universal.specs.declared.message.Universal.{Universal}

-- The header of a MIDI Time Code message: Real Time, a device, sub-ID 1 01H, and a sub-ID 2.
abbrev pub time_code : ℕ → ℕ → Universal
time_code device sub_id2 = header true device 1 (Some sub_id2)

-- A sub-ID 2 stands there, and is this one.
abbrev pub is_sub_id2 : Option ℕ → ℕ → Bool
is_sub_id2 None n = false
is_sub_id2 (Some s) n = eqb s n

-- Real Time, sub-ID 1 01H, and this sub-ID 2.
unfoldable pub is_time_code : Universal → ℕ → Bool
is_time_code u n = u.real_time && (eqb u.sub_id1 1 && is_sub_id2 u.sub_id2 n)

-- Reading one kind: another kind is "not this" (none), which is no refusal, and another data length is 2.
abbrev pub read_kind : {A : Type 0} → Bool → Bool → A → Answer (Option A)
read_kind right whole m = cond right (cond whole (gives (Some m)) (refused (refusal 2))) (gives None)

-- Writing one kind: 5 for the device, then 3 for a value outside its field, then the message.
abbrev pub write_kind : ℕ → Bool → ℕ → List ℕ → Emission
write_kind device in_range sub_id2 bs =
    check (leb device 127) 5 then check in_range 3 then message (time_code device sub_id2) bs

-- Reading one kind, of a sub-ID 2 and a data length, accepts that layout and no other.
pub record ReadsOnly {A : Type 0} (sub_id2 size : ℕ) (made : ℕ → List ℕ → A) (read : Universal → List ℕ → Answer (Option A)) : Type 0 where
  pub accepts : (device : ℕ) (bs : List ℕ) → length bs ≡ size → read (time_code device sub_id2) bs ≡ gives (Some (made device bs))
  pub only : (u : Universal) (bs : List ℕ) (m : A) → read u bs ≡ gives (Some m)
      → (u ≡ time_code u.device_id sub_id2) × (length bs ≡ size)
  pub other_kind : (u : Universal) (bs : List ℕ) → (u ≡ time_code u.device_id sub_id2 → ⊥) → read u bs ≡ gives None
  pub other_length : (device : ℕ) (bs : List ℕ) → (length bs ≡ size → ⊥) → read (time_code device sub_id2) bs ≡ refused (refusal 2)

-- ---- the five split parts of a whole message that carries a sub-ID 2

-- Real Time or not, the device, sub-ID 1 and sub-ID 2: the second to the fifth byte.
abbrev pub message_header : List ℕ → Universal
message_header bs = header (eqb (get_or bs 1 0) 127) (get_or bs 2 0) (get_or bs 3 0) (Some (get_or bs 4 0))

-- The data: the bytes after these, up to the closing F7H.
abbrev pub message_data : List ℕ → List ℕ
message_data bs = take (length bs - 6) (drop 5 bs)
