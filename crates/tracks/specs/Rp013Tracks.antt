-- RP-013's standard track bitmap: which bit of which data byte says that a track is meant. In the words of document 02, #104, since no page
-- of it was at hand. Assumes nothing.
use Rattle.std.specs.Prelude.{ℕ, ◌+◌, ◌/◌, ◌%◌, Bool, ◌&&◌, List, eqb, leb, get_or}
use Rattle.std.specs.Int.{bit_at}

-- Bit i of a number is 1.
abbrev pub has_bit : ℕ → ℕ → Bool
has_bit n i = eqb (bit_at n i) 1

-- Position p is bit p modulo 7 of byte p divided by 7, counted from 0; "missing bytes read as zeros". Bit 7 of a byte is no position's.
unfoldable pub position_in_data : List ℕ → ℕ → Bool
position_in_data bytes p = has_bit (get_or bytes (p / 7) 0) (p % 7)

-- "The five lower positions are video, reserved, time code and two auxiliaries".
abbrev pub VIDEO : ℕ
VIDEO = 0

abbrev pub RESERVED : ℕ
RESERVED = 1

abbrev pub TIME-CODE : ℕ
TIME-CODE = 2

abbrev pub AUX-A : ℕ
AUX-A = 3

abbrev pub AUX-B : ℕ
AUX-B = 4

-- "Tracks 1 to 58".
abbrev pub is_track : ℕ → Bool
is_track n = leb 1 n && leb n 58

-- "Track n is bit (n + 4) modulo 7 of byte (n + 4) divided by 7".
abbrev pub track_in_data : List ℕ → ℕ → Bool
track_in_data bytes n = position_in_data bytes (n + 4)
