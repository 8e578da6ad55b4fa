-- RP-004/008, MIDI Time Code: the full message (p. 5) and the user bits message (p. 6), byte by byte. The hours with the time code
-- type are those of a quarter frame (Rp004.antt). Left out: quarter frames, and the MTC cueing messages. Assumes nothing.
use Rattle.std.specs.Prelude.{ℕ, ◌+◌, ◌*◌, List, [], ◌∷◌}
use Rattle.labels.specs.declared.time.MtcTime.{MtcTime}
use Rattle.mtc.specs.Rp004.{hours_count}

-- ---- the full message, p. 5

-- F0 7F <device ID> 01 01 hr mn sc fr F7, with hr = 0 yy zzzzz: the type in bits 5 and 6, the hours in bits 0 to 4.
unfoldable pub full_message_bytes : ℕ → MtcTime → List ℕ
full_message_bytes device t =
    0xF0 ∷ 0x7F ∷ device ∷ 0x01 ∷ 0x01 ∷ hours_count t ∷ t.minutes ∷ t.seconds ∷ t.frames ∷ 0xF7 ∷ []

-- ---- user bits, p. 6

-- The binary groups a to h of 4 bits each, and the binary group flag bits i and j.
pub record Groups : Type 0 where
  pub a : ℕ
  pub b : ℕ
  pub c : ℕ
  pub d : ℕ
  pub e : ℕ
  pub f : ℕ
  pub g : ℕ
  pub h : ℕ
  pub i : ℕ
  pub j : ℕ

-- F0 7F <device ID> 01 02 u1 u2 u3 u4 u5 u6 u7 u8 u9 F7, with u1 = 0000aaaa up to u8 = 0000hhhh and u9 = 000000ji.
unfoldable pub user_bits_bytes : ℕ → Groups → List ℕ
user_bits_bytes device u =
    0xF0
    ∷ 0x7F
    ∷ device
    ∷ 0x01
    ∷ 0x02
    ∷ u.a
    ∷ u.b
    ∷ u.c
    ∷ u.d
    ∷ u.e
    ∷ u.f
    ∷ u.g
    ∷ u.h
    ∷ (u.j * 2 + u.i)
    ∷ 0xF7
    ∷ []

-- The groups as four bytes: hhhhgggg ffffeeee ddddcccc bbbbaaaa.
unfoldable pub four_bytes : Groups → List ℕ
four_bytes u = (u.h * 16 + u.g) ∷ (u.f * 16 + u.e) ∷ (u.d * 16 + u.c) ∷ (u.b * 16 + u.a) ∷ []
