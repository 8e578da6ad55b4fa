-- MIDI 1.0 detailed specification v4.2.1, System Exclusive: the bytes of a Universal message (pp. 34, 35; Table VII, p. T-8),
-- which families carry a sub-ID 2 (Table VIIa, pp. T-9, T-10), which messages there are, and whom a device ID addresses
-- (p. 35). Left out: manufacturers' messages, and what the data of each says. Assumes nothing.
use Rattle.std.specs.Prelude.{ℕ, ◌≤◌, ◌<◌, ◌≡◌, Bool, true, false, ◌&&◌, ◌||◌, List, [], ◌∷◌, ◌++◌, leb, eqb, length, get_or, Option, Some, None}
use Rattle.universal.specs.declared.message.Universal.{Universal}

-- ---- the device ID

-- A received device ID addresses a device: 7FH, all call, or its own (p. 35).
abbrev pub is_addressed : ℕ → ℕ → Bool
is_addressed device own = eqb device 127 || eqb device own

-- ---- the sub-ID 2

-- The families that carry a sub-ID 2 (Table VIIa): Real Time 01H, 03H, 04H, 05H and 08H, Non-Real Time 04H to 09H.
abbrev pub has_sub_id2 : Bool → ℕ → Bool
has_sub_id2 true n = eqb n 1 || (eqb n 3 || (eqb n 4 || (eqb n 5 || eqb n 8)))
has_sub_id2 false n = leb 4 n && leb n 9

-- A message has a sub-ID 2, or has none.
abbrev pub sub_id2_given : Option ℕ → Bool
sub_id2_given None = false
sub_id2_given (Some s) = true

-- Its byte, where there is one.
abbrev pub sub_id2_bytes : Option ℕ → List ℕ
sub_id2_bytes None = []
sub_id2_bytes (Some s) = s ∷ []

-- ---- the message

-- The class: 7FH for Real Time, 7EH for Non-Real Time (Table VII).
abbrev pub class_id : Bool → ℕ
class_id true = 127
class_id false = 126

-- The bytes between F0H and F7H: the class, the device ID, the sub-ID 1, the sub-ID 2 if there is one, the data (p. 35).
abbrev pub inside : Universal → List ℕ → List ℕ
inside u bs = class_id u.real_time ∷ u.device_id ∷ u.sub_id1 ∷ (sub_id2_bytes u.sub_id2 ++ bs)

-- The whole message, F0H to F7H (Table VII).
abbrev pub universal_bytes : Universal → List ℕ → List ℕ
universal_bytes u bs = 240 ∷ (inside u bs ++ 247 ∷ [])

-- The families that there are (Table VIIa): Real Time 01H to 08H, Non-Real Time 01H to 09H and 7BH to 7FH.
abbrev pub is_defined : Bool → ℕ → Bool
is_defined true n = leb 1 n && leb n 8
is_defined false n = (leb 1 n && leb n 9) || (leb 123 n && leb n 127)

-- The layout of a message: each byte inside is at most 7FH, and a sub-ID 2 stands just where the family carries one.
pub record InLayout (u : Universal) (bs : List ℕ) : Type 0 where
  pub low : (i : ℕ) → i < length (inside u bs) → get_or (inside u bs) i 0 ≤ 127
  pub family : sub_id2_given u.sub_id2 ≡ has_sub_id2 u.real_time u.sub_id1

-- Which messages there are: those in this layout, of a family that there is.
pub record Allowed (u : Universal) (bs : List ℕ) : Type 0 where
  pub layout : InLayout u bs
  pub defined : is_defined u.real_time u.sub_id1 ≡ true
