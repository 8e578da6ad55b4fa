-- What mtc.rs does with user bits, on every input: one definition for each public call of src/user_bits.rt. Assumes nothing.
use Rattle.std.specs.Prelude.{ℕ, ◌+◌, ◌*◌, ◌/◌, ◌%◌, Bool, ◌&&◌, List, [], ◌∷◌, ◌++◌, leb, eqb, length, get_or, Option}
use Rattle.std.specs.List.{list_all}
use Rattle.universal.specs.Emission.{Emission}
use Rattle.universal.specs.Refusals.{Answer}
use Rattle.universal.specs.declared.message.Universal.{Universal}
use Rattle.mtc.specs.Rp004Messages.{Groups}
use Rattle.mtc.specs.Kind.{is_time_code, read_kind, write_kind}
use Rattle.mtc.specs.declared.user_bits.UserBits.{UserBits}

-- User bits of a device, eight groups and the flags.
abbrev pub user_bits : ℕ → List ℕ → ℕ → UserBits
user_bits device gs f = record { device_id = device; groups = gs; flags = f }

-- ---- reading

-- The 4 bits of the data byte at a place.
abbrev pub nibble_at : List ℕ → ℕ → ℕ
nibble_at bs i = get_or bs i 0 % 16

-- The message of a device and of nine data bytes: the 4 low bits of each of eight, the 2 low bits of the ninth.
abbrev pub received_bits : ℕ → List ℕ → UserBits
received_bits device bs =
    user_bits device
    (nibble_at bs 0 ∷ nibble_at bs 1 ∷ nibble_at bs 2 ∷ nibble_at bs 3 ∷ nibble_at bs 4 ∷ nibble_at bs 5 ∷ nibble_at bs 6 ∷ nibble_at bs 7 ∷ [])
    (get_or bs 8 0 % 4)

-- What reading a message and its data answers: user bits have sub-ID 2 02H and nine data bytes.
unfoldable pub user_bits_from : Universal → List ℕ → Answer (Option UserBits)
user_bits_from u bs = read_kind (is_time_code u 2) (eqb (length bs) 9) (received_bits u.device_id bs)

-- ---- writing

-- Each value is at most 0FH.
unfoldable pub all_nibbles : List ℕ → Bool
all_nibbles gs = list_all (λ g. leb g 15) gs

-- What writing user bits emits: 5 for the device, 3 for a group above 0FH or flags above 03H, then sub-ID 2 02H, the groups and
-- the flags.
unfoldable pub user_bits_written : UserBits → Emission
user_bits_written b =
    write_kind b.device_id (all_nibbles b.groups && leb b.flags 3) 2 (b.groups ++ b.flags ∷ [])

-- ---- four bytes

-- The first of two groups above the second, 4 bits each.
abbrev pub two_groups : List ℕ → ℕ → ℕ → ℕ
two_groups gs high low = nibble_at gs high * 16 + nibble_at gs low

-- The groups as four bytes: 8 and 7, 6 and 5, 4 and 3, 2 and 1.
unfoldable pub group_bytes : List ℕ → List ℕ
group_bytes gs = two_groups gs 7 6 ∷ two_groups gs 5 4 ∷ two_groups gs 3 2 ∷ two_groups gs 1 0 ∷ []

-- ---- as RP-004/008 names them

-- Groups 1 to 8 are a to h; bit 0 of the flags is i and bit 1 is j.
abbrev pub groups_of : UserBits → Groups
groups_of u =
    record {
      a = get_or u.groups 0 0;
      b = get_or u.groups 1 0;
      c = get_or u.groups 2 0;
      d = get_or u.groups 3 0;
      e = get_or u.groups 4 0;
      f = get_or u.groups 5 0;
      g = get_or u.groups 6 0;
      h = get_or u.groups 7 0;
      i = u.flags % 2;
      j = u.flags / 2;
    }
