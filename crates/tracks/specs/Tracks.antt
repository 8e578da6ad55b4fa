-- Sets of record-ready tracks (document 02, #104): what each call answers. Assumes nothing.
use Rattle.std.specs.Prelude.{ℕ, zero, suc, ◌+◌, ◌-◌, ◌*◌, ◌^◌, ◌≤◌, ◌<◌, ◌≡◌, ◌≢◌, Bool, true, false, cond, ◌&&◌, List, [], ◌∷◌, map, filter, fold, take, eqb, leb, ltb, length, get_or, None}
use Rattle.std.specs.List.{range_with_len, suffix_len}
use Rattle.tracks.specs.Rp013Tracks.{has_bit, position_in_data, is_track}
use Rattle.tracks.specs.declared.set.TrackSet.{TrackSet}
use Rattle.universal.specs.Emission.{answer_in}
use Rattle.universal.specs.Overlay.{overlay}
use Rattle.universal.specs.Refusals.{Answer, gives, refused, refusal}

-- ---- a set

-- Which positions of the bitmap are set.
abbrev pub Positions : Type 0
Positions = ℕ → Bool

-- "An empty set".
abbrev pub no_positions : Positions
no_positions p = false

-- The number whose first k bits are these, and which has no other.
unfoldable pub as_number : Positions → ℕ → ℕ
as_number s zero = 0
as_number s (suc k) = cond (s k) 1 0 * 2 ^ k + as_number s k

-- A set as its record: positions 0 to 62, position p at bit p.
abbrev pub set_of : Positions → TrackSet
set_of s = record { positions = as_number s 63 }

-- The set of a record. Bit 63 is no position: it counts as clear.
unfoldable pub positions_in : TrackSet → Positions
positions_in t p = ltb p 63 && has_bit t.positions p

-- ---- reading

-- "Refused: 12, more than nine data bytes".
unfoldable pub read_tracks : List ℕ → Answer TrackSet
read_tracks bytes = cond (leb (length bytes) 9) (gives (set_of (position_in_data bytes))) (refused (refusal 12))

-- ---- arming

-- An answer about a track: "12 .. a track outside 1 to 58, checked before anything is changed".
abbrev pub if_track : {A : Type 0} → ℕ → A → Answer A
if_track n a = cond (is_track n) (gives a) (refused (refusal 12))

-- A set with one position set or clear, and all others as they were.
abbrev pub with_position : ℕ → Bool → Positions → Positions
with_position k b s p = cond (eqb p k) b (s p)

-- To arm a track (true), or to disarm it (false).
unfoldable pub change_track : TrackSet → ℕ → Bool → Answer TrackSet
change_track t n b = if_track n (set_of (with_position (n + 4) b (positions_in t)))

-- Whether a track is armed.
unfoldable pub track_is_armed : TrackSet → ℕ → Answer Bool
track_is_armed t n = if_track n (positions_in t (n + 4))

-- ---- which tracks are armed

-- The armed tracks of 1 to 58, the lowest first.
unfoldable pub armed_tracks : Positions → List ℕ
armed_tracks s = filter (λ (n : ℕ). s (n + 4)) (range_with_len 1 58)

-- "Lowest of none armed is also 12".
abbrev pub first_of_tracks : List ℕ → Answer ℕ
first_of_tracks [] = refused (refusal 12)
first_of_tracks (n ∷ ns) = gives n

-- "Which armed track is lowest": one that is armed, and none below it is.
pub record IsLowest (s : Positions) (n : ℕ) : Type 0 where
  pub one_of_58 : is_track n ≡ true
  pub armed : s (n + 4) ≡ true
  pub none_below : (m : ℕ) → is_track m ≡ true → m < n → s (m + 4) ≡ false

-- No track is armed.
abbrev pub NoneArmed : Positions → Type 0
NoneArmed s = (n : ℕ) → is_track n ≡ true → s (n + 4) ≡ false

-- ---- writing

-- The byte at a place: its seven positions, the lowest first.
unfoldable pub track_byte : Positions → ℕ → ℕ
track_byte s i = as_number (λ (k : ℕ). s (7 * i + k)) 7

-- All nine bytes.
unfoldable pub nine_bytes : Positions → List ℕ
nine_bytes s = map (track_byte s) (range_with_len 0 9)

-- "Writing leaves out zero bytes at the end".
unfoldable pub without_end_zeros : List ℕ → List ℕ
without_end_zeros bs = take (length bs - suffix_len (λ (b : ℕ). eqb b 0) bs) bs

-- What that means: the first n bytes stay, where from n on all are zeros, and the one before is none.
pub record StaysTo (bs : List ℕ) (n : ℕ) : Type 0 where
  pub inside : n ≤ length bs
  pub zeros : (i : ℕ) → n ≤ i → get_or bs i 0 ≡ 0
  pub last : 0 < n → get_or bs (n - 1) 0 ≢ 0

-- The written bytes.
unfoldable pub data_of : TrackSet → List ℕ
data_of t = without_end_zeros (nine_bytes (positions_in t))

-- Their number, or 4 with it where the buffer is shorter.
unfoldable pub data_answer : List ℕ → ℕ → Answer ℕ
data_answer bytes room = answer_in None (length bytes) room

-- The buffer with them at its start; "a buffer too short .. stays as found".
unfoldable pub data_in : List ℕ → List ℕ → List ℕ
data_in bytes out = cond (leb (length bytes) (length out)) (overlay out 0 bytes) out

-- ---- any list of changes

-- A call to arm a track (true), or to disarm it (false).
pub record Change : Type 0 where
  pub track : ℕ
  pub armed : Bool

-- The set that a call gives; where it is refused, the set as it was.
abbrev pub given_or : TrackSet → Answer TrackSet → TrackSet
given_or t (gives u) = u
given_or t (refused r) = t

unfoldable pub after_change : TrackSet → Change → TrackSet
after_change t c = given_or t (change_track t c.track c.armed)

-- The set after calls, one after another, refused ones included.
abbrev pub after_changes : TrackSet → List Change → TrackSet
after_changes t cs = fold after_change t cs

-- What calls say of a track: the last one that names it, else what was before.
unfoldable pub said_of : ℕ → Bool → Change → Bool
said_of n before c = cond (eqb c.track n) c.armed before

abbrev pub last_said : ℕ → Bool → List Change → Bool
last_said n before cs = fold (said_of n) before cs
