-- The laws of sets of tracks: what is read and written, what arming and disarming change, how many tracks are armed, and which is the
-- lowest. Assumes nothing.
use Rattle.std.specs.List.{range_with_len, filter}
use Rattle.std.specs.Int.{bit_at}
use Rattle.std.proofs.lemmas.Bool.Decides.{eqb_tells, leb_tells}
use Rattle.std.proofs.lemmas.Bool.{cases_lt}
use Rattle.std.proofs.lemmas.Nat.{mod_below}
use Rattle.std.proofs.lemmas.Nat.Bits.{bit_at-zero}
use Rattle.std.proofs.lemmas.List.{get_or_past}
use Rattle.std.proofs.lemmas.List.FromFn.{get_or-map-range_with_len, length-map-range_with_len}
use Prim.Native.Nat.{ℕ, ◌+◌, ◌*◌, ◌/◌, ◌%◌, ◌^◌, ◌<◌, ◌≤◌}
use native.Mathlib.Omega.{arith}
use mathlib.Core.Bool.{Bool, true, false, cond, ◌&&◌, true≢false}
use mathlib.Core.List.{List, [], ◌∷◌, ◌++◌, map}
use mathlib.Core.Logic.{inl, inr, ◌⊎◌, ◌≢◌, ◌↔◌}
use mathlib.Core.Path.{◌≡◌, refl, sym, ap, ◌∙◌, fun_ext}
use lib.ListN.{length, get_or, get_or-map, take, drop}
use lib.Dec.{eqb, ltb, leb}
use borrow.Author.Tests.{lt-ltb, le-ltb, lt-leb, le-leb, leb-true, eq-eqb, ne_eqb}
use Rattle.tracks.proofs.Armed.{lowest_is, none_is, lowest_or_none, kept_same, rest_armed}
use Rattle.tracks.proofs.Bytes.{no_position}
use Rattle.tracks.proofs.EndZeros.{end_of, first_stay, byte_stays, fewer_stay, same_stay}
use Rattle.tracks.proofs.Numbers.{number_below, bit_of_number, number_by_bits, bit_of_low}
use Rattle.tracks.proofs.Positions.{test_of_digit, bit_by_test, known_lem}
use Rattle.tracks.specs.Rp013Tracks.{has_bit, position_in_data, is_track, track_in_data}
use Rattle.tracks.specs.Tracks.{Positions, track_byte, nine_bytes, without_end_zeros, data_of, data_answer, data_in, as_number, set_of, positions_in, read_tracks, with_position, change_track, armed_tracks, first_of_tracks, IsLowest, NoneArmed, StaysTo, Change, given_or, after_change, after_changes, said_of, last_said}
use Rattle.tracks.specs.declared.set.TrackSet.{TrackSet}
use Rattle.universal.proofs.Laws.{gives_refused, overlay_fits}
use Rattle.universal.proofs.Tests.{and_parts, and_all}
use Rattle.universal.specs.Refusals.{gives, refused, refusal, too_small}

-- ---- bit 63

-- No set that a call gives has it.
pub no_bit_63 : (s : Positions) → (set_of s).positions < 2 ^ 63
no_bit_63 s = number_below s 63

-- Every call takes it as clear: each of them goes by `positions_in`.
pub bit_63_unread : (t : TrackSet) → positions_in (record { positions = t.positions % 2 ^ 63 }) ≡ positions_in t
unfolding positions_in
bit_63_unread t = fun_ext each
  where
    each : (p : ℕ) → (ltb p 63 && has_bit (t.positions % 2 ^ 63) p) ≡ (ltb p 63 && has_bit t.positions p)
    each p = go (cases_lt p 63)
      where
        go : (p < 63) ⊎ (63 ≤ p) → (ltb p 63 && has_bit (t.positions % 2 ^ 63) p) ≡ (ltb p 63 && has_bit t.positions p)
        go (inl l) = rw (bit_of_low t.positions 63 p l)
        go (inr g) = rw (le-ltb p 63 g)

-- ---- a set and its record

-- The record of a set has its positions, and no other.
pub positions_of_set : (s : Positions) (p : ℕ) → positions_in (set_of s) p ≡ (ltb p 63 && s p)
unfolding positions_in
positions_of_set s p = go (cases_lt p 63)
  where
    go : (p < 63) ⊎ (63 ≤ p) → (ltb p 63 && has_bit (as_number s 63) p) ≡ (ltb p 63 && s p)
    go (inl l) = rw (bit_of_number s 63 p l) (ap (λ (b : Bool). ltb p 63 && b) (test_of_digit (s p)))
    go (inr g) = rw (le-ltb p 63 g)

-- A record without bit 63 is that of its set.
pub set_back : (t : TrackSet) → t.positions < 2 ^ 63 → set_of (positions_in t) ≡ t
set_back t h =
    let same : t.positions % 2 ^ 63 ≡ t.positions = omega (arith, h) in
    ap (λ (n : ℕ). record { positions = n }) (sym (known_lem t) ∙ same)

-- A set that has no position from 63 on is that of its record.
positions_back : (s : Positions) → ((p : ℕ) → 63 ≤ p → s p ≡ false) → positions_in (set_of s) ≡ s
positions_back s none = fun_ext each
  where
    each : (p : ℕ) → positions_in (set_of s) p ≡ s p
    each p = positions_of_set s p ∙ go (cases_lt p 63)
      where
        go : (p < 63) ⊎ (63 ≤ p) → (ltb p 63 && s p) ≡ s p
        go (inl l) = rw (lt-ltb p 63 l)
        go (inr g) = rw (le-ltb p 63 g, none p g)

-- Nor has a record.
positions_end : (t : TrackSet) (p : ℕ) → 63 ≤ p → positions_in t p ≡ false
unfolding positions_in
positions_end t p g = rw (le-ltb p 63 g)

-- ---- arming and disarming

-- A track's position is one of the bitmap's, above the lower five.
track_position : (n : ℕ) → is_track n ≡ true → (5 ≤ n + 4) × (n + 4 < 63)
track_position n h =
    let parts = and_parts (leb 1 n) (leb n 58) h in
    (omega (arith, leb-true 1 n parts.0), omega (arith, leb-true n 58 parts.1))

-- What a call leaves where its track is one: the track as the call says, every other position as it was.
pub changed : (t : TrackSet) (c : Change) (p : ℕ) → is_track c.track ≡ true
    → positions_in (after_change t c) p ≡ cond (eqb p (c.track + 4)) c.armed (positions_in t p)
unfolding after_change change_track
changed t c p h =
    rw h (positions_of_set (with_position (c.track + 4) c.armed (positions_in t)) p ∙ go (cases_lt p 63))
  where
    go : (p < 63) ⊎ (63 ≤ p) → (ltb p 63 && cond (eqb p (c.track + 4)) c.armed (positions_in t p))
        ≡ cond (eqb p (c.track + 4)) c.armed (positions_in t p)
    go (inl l) = rw (lt-ltb p 63 l)
    go (inr g) =
        rw (le-ltb p 63 g, ne_eqb p (c.track + 4) (λ e. omega (arith, e, g, (track_position c.track h).1)), positions_end t p g)

-- Where it is none, the call is refused by 12, and the set stays.
pub change_refused : (t : TrackSet) (c : Change) → is_track c.track ≡ false
    → (change_track t c.track c.armed ≡ refused (refusal 12)) × (after_change t c ≡ t)
unfolding after_change change_track
change_refused t c h = (rw h, rw h)

-- The lower five positions stay.
lower_kept_by_one : (t : TrackSet) (c : Change) (p : ℕ) → p < 5 → positions_in (after_change t c) p ≡ positions_in t p
lower_kept_by_one t c p l = go (is_track c.track) refl
  where
    go : (b : Bool) → is_track c.track ≡ b → positions_in (after_change t c) p ≡ positions_in t p
    go true h =
        changed t c p h
        ∙ rw (ne_eqb p (c.track + 4) (λ e. omega (arith, e, l, (track_position c.track h).0)))
    go false h = ap (λ (u : TrackSet). positions_in u p) (change_refused t c h).1

-- A track is as the call says of it.
said_by_one : (t : TrackSet) (c : Change) (n : ℕ) → is_track n ≡ true
    → positions_in (after_change t c) (n + 4) ≡ said_of n (positions_in t (n + 4)) c
unfolding said_of
said_by_one t c n one = go (is_track c.track) refl (eqb_tells c.track n)
  where
    go : (b : Bool) → is_track c.track ≡ b → ((eqb c.track n ≡ true) × (c.track ≡ n)) ⊎ ((eqb c.track n ≡ false) × (c.track ≢ n))
        → positions_in (after_change t c) (n + 4) ≡ cond (eqb c.track n) c.armed (positions_in t (n + 4))
    go true h (inl same) =
        changed t c (n + 4) h ∙ rw (same.0, eq-eqb (n + 4) (c.track + 4) (ap (λ (m : ℕ). m + 4) (sym same.1)))
    go true h (inr other) =
        changed t c (n + 4) h ∙ rw (other.0, ne_eqb (n + 4) (c.track + 4) (λ e. other.1 (omega (arith, e))))
    go false h (inl same) = absurd (true≢false (sym one ∙ ap is_track (sym same.1) ∙ h))
    go false h (inr other) = rw other.0 (ap (λ (u : TrackSet). positions_in u (n + 4)) (change_refused t c h).1)

-- So it is after any calls: the last one that names a track says whether it is armed; where none does, it is as it was.
pub changes_say : (t : TrackSet) (cs : List Change) (n : ℕ) → is_track n ≡ true
    → positions_in (after_changes t cs) (n + 4) ≡ last_said n (positions_in t (n + 4)) cs
changes_say t [] n h = refl
changes_say t (c ∷ cs) n h =
    changes_say (after_change t c) cs n h ∙ ap (λ (b : Bool). last_said n b cs) (said_by_one t c n h)

-- After any calls the lower five positions are as they were.
pub lower_kept : (t : TrackSet) (cs : List Change) (p : ℕ) → p < 5 → positions_in (after_changes t cs) p ≡ positions_in t p
lower_kept t [] p l = refl
lower_kept t (c ∷ cs) p l = lower_kept (after_change t c) cs p l ∙ lower_kept_by_one t c p l

-- A call gives no set with bit 63 to one that has it not.
below_by_one : (t : TrackSet) (c : Change) → t.positions < 2 ^ 63 → (after_change t c).positions < 2 ^ 63
unfolding after_change change_track
below_by_one t c h = go (is_track c.track)
  where
    go : (b : Bool) → (given_or t (cond b (gives (set_of (with_position (c.track + 4) c.armed (positions_in t)))) (refused (refusal 12)))).positions < 2 ^ 63
    go true = no_bit_63 (with_position (c.track + 4) c.armed (positions_in t))
    go false = h

pub changes_below : (t : TrackSet) (cs : List Change) → t.positions < 2 ^ 63 → (after_changes t cs).positions < 2 ^ 63
changes_below t [] h = h
changes_below t (c ∷ cs) h = changes_below (after_change t c) cs (below_by_one t c h)

-- ---- reading and writing

-- At most nine bytes are read as the set of their positions; more are refused by 12.
pub read_by_bits : (bs : List ℕ) → length bs ≤ 9 → read_tracks bs ≡ gives (set_of (position_in_data bs))
unfolding read_tracks
read_by_bits bs h = rw (le-leb (length bs) 9 h)

pub read_too_many : (bs : List ℕ) → 9 < length bs → read_tracks bs ≡ refused (refusal 12)
unfolding read_tracks
read_too_many bs h = rw (lt-leb (length bs) 9 h)

-- At most nine bytes have no position from 63 on.
past_data : (bs : List ℕ) → length bs ≤ 9 → (p : ℕ) → 63 ≤ p → position_in_data bs p ≡ false
unfolding position_in_data
past_data bs h p g =
    let past : 9 ≤ p / 7 = omega (arith, g) in
    rw (get_or_past bs (p / 7) 0 (omega (arith, h, past)), bit_at-zero (p % 7))

-- The set that is read has the positions of the data.
positions_read : (bs : List ℕ) → length bs ≤ 9 → positions_in (set_of (position_in_data bs)) ≡ position_in_data bs
positions_read bs h = positions_back (position_in_data bs) (past_data bs h)

-- Data that is read has at most nine bytes, and its set has the data's positions.
pub read_positions : (bs : List ℕ) (t : TrackSet) → read_tracks bs ≡ gives t
    → (length bs ≤ 9) × (positions_in t ≡ position_in_data bs)
read_positions bs t h = go (leb_tells (length bs) 9)
  where
    go : ((leb (length bs) 9 ≡ true) × (length bs ≤ 9)) ⊎ ((leb (length bs) 9 ≡ false) × (9 < length bs))
        → (length bs ≤ 9) × (positions_in t ≡ position_in_data bs)
    go (inl few) =
        let both : gives (set_of (position_in_data bs)) ≡ gives t = sym (read_by_bits bs few.1) ∙ h in
        let same : set_of (position_in_data bs) ≡ t = cc in
        (few.1, ap positions_in (sym same) ∙ positions_read bs few.1)
    go (inr many) = absurd (gives_refused t (refusal 12) (sym (read_too_many bs many.1) ∙ h))

-- The nine bytes of a set, and none behind them.
nine_long : (s : Positions) → length (nine_bytes s) ≡ 9
unfolding nine_bytes
nine_long s = length-map-range_with_len (track_byte s) 0 9

byte_of_nine : (s : Positions) (i : ℕ) → i < 9 → get_or (nine_bytes s) i 0 ≡ track_byte s i
unfolding nine_bytes
byte_of_nine s i l = get_or-map-range_with_len (track_byte s) 0 9 i i 0 l (omega arith)

past_nine : (s : Positions) (i : ℕ) → 9 ≤ i → get_or (nine_bytes s) i 0 ≡ 0
past_nine s i g = get_or_past (nine_bytes s) i 0 (omega (arith, g, nine_long s))

-- They have its positions.
nine_by_bits : (s : Positions) (p : ℕ) → p < 63 → position_in_data (nine_bytes s) p ≡ s p
unfolding position_in_data track_byte
nine_by_bits s p l =
    let byte : p / 7 < 9 = omega (arith, l) in
    let bit : p % 7 < 7 = omega arith in
    let whole : 7 * (p / 7) + p % 7 ≡ p = omega arith in
    rw (byte_of_nine s (p / 7) byte, bit_of_number (λ (k : ℕ). s (7 * (p / 7) + k)) 7 (p % 7) bit, whole) (test_of_digit (s p))

-- The number of a set goes by its positions below 63.
same_number : (s t : Positions) → ((p : ℕ) → p < 63 → s p ≡ t p) → as_number s 63 ≡ as_number t 63
same_number s t same =
    number_by_bits t 63 (as_number s 63) (number_below s 63)
    (λ i l. bit_of_number s 63 i l ∙ ap (λ (b : Bool). cond b 1 0) (same i l))

-- The written bytes are at most nine, each at most 7FH, so that they may stand as data.
pub written_few : (t : TrackSet) → length (data_of t) ≤ 9
unfolding data_of
written_few t = omega (arith, fewer_stay (nine_bytes (positions_in t)), nine_long (positions_in t))

pub written_low : (t : TrackSet) (i : ℕ) → get_or (data_of t) i 0 < 128
unfolding data_of track_byte
written_low t i = rw (byte_stays (nine_bytes (positions_in t)) i) (at (cases_lt i 9))
  where
    at : (i < 9) ⊎ (9 ≤ i) → get_or (nine_bytes (positions_in t)) i 0 < 128
    at (inl l) = rw (byte_of_nine (positions_in t) i l) (number_below (λ (k : ℕ). positions_in t (7 * i + k)) 7)
    at (inr g) = rw (past_nine (positions_in t) i g) (omega arith)

-- The written bytes have the set's positions.
pub positions_written : (t : TrackSet) (p : ℕ) → p < 63 → position_in_data (data_of t) p ≡ positions_in t p
unfolding data_of position_in_data
positions_written t p l =
    rw (byte_stays (nine_bytes (positions_in t)) (p / 7)) (nine_by_bits (positions_in t) p l)

-- The bytes that stay are the first so many: behind them stand zeros alone, and the last of them is none.
pub end_zeros : (bs : List ℕ) → (n : ℕ) × StaysTo bs n × (without_end_zeros bs ≡ take n bs)
end_zeros bs = let e = end_of bs in (e.0, e.1, first_stay bs e.0 e.1)

-- An empty set has no written bytes, and no other set has none.
pub empty_exactly : (t : TrackSet) → (data_of t ≡ []) ↔ ((p : ℕ) → positions_in t p ≡ false)
unfolding data_of track_byte without_end_zeros
empty_exactly t = (λ h p. to h p (cases_lt p 63), λ none. same_stay (nine_bytes (positions_in t)) [] (λ i. from none i (cases_lt i 9)))
  where
    to : data_of t ≡ [] → (p : ℕ) → (p < 63) ⊎ (63 ≤ p) → positions_in t p ≡ false
    to h p (inl l) = sym (positions_written t p l) ∙ ap (λ (bs : List ℕ). position_in_data bs p) h ∙ no_position p
    to h p (inr g) = positions_end t p g

    from : ((p : ℕ) → positions_in t p ≡ false) → (i : ℕ) → (i < 9) ⊎ (9 ≤ i) → get_or (nine_bytes (positions_in t)) i 0 ≡ 0
    from none i (inl l) =
        byte_of_nine (positions_in t) i l
        ∙ sym
        (number_by_bits (λ (k : ℕ). positions_in t (7 * i + k)) 7 0 (omega arith)
        (λ k h. bit_at-zero k ∙ ap (λ (b : Bool). cond b 1 0) (sym (none (7 * i + k)))))
    from none i (inr g) = past_nine (positions_in t) i g

-- What was written reads as the set, without bit 63.
pub set_reads_back : (t : TrackSet) → read_tracks (data_of t) ≡ gives (set_of (positions_in t))
set_reads_back t =
    read_by_bits (data_of t) (written_few t)
    ∙ ap (λ (n : ℕ). gives (record { positions = n }))
    (same_number (position_in_data (data_of t)) (positions_in t) (positions_written t))

-- A byte of the set of data is the data's byte without bit 7.
track_byte_read : (bs : List ℕ) (i : ℕ) → track_byte (position_in_data bs) i ≡ get_or bs i 0 % 128
unfolding track_byte position_in_data
track_byte_read bs i =
    sym
    (number_by_bits (λ (k : ℕ). has_bit (get_or bs ((7 * i + k) / 7) 0) ((7 * i + k) % 7)) 7 (get_or bs i 0 % 128)
    (mod_below (get_or bs i 0) 128 (omega arith)) bits)
  where
    bits : (k : ℕ) → k < 7
        → bit_at (get_or bs i 0 % 128) k ≡ cond (has_bit (get_or bs ((7 * i + k) / 7) 0) ((7 * i + k) % 7)) 1 0
    bits k l =
        let byte : (7 * i + k) / 7 ≡ i = omega (arith, l) in
        let bit : (7 * i + k) % 7 ≡ k = omega (arith, l) in
        rw (byte, bit) (bit_of_low (get_or bs i 0) 7 k l ∙ bit_by_test (get_or bs i 0) k)

-- What is written of a set that was read is the data with bit 7 cleared, without the zeros at its end.
pub data_writes_back : (bs : List ℕ) → length bs ≤ 9
    → data_of (set_of (position_in_data bs)) ≡ without_end_zeros (map (λ (b : ℕ). b % 128) bs)
unfolding data_of
data_writes_back bs h =
    rw (positions_read bs h)
    (same_stay (nine_bytes (position_in_data bs)) (map (λ (b : ℕ). b % 128) bs)
    (λ i. go i (cases_lt i 9) ∙ sym (get_or-map (λ (b : ℕ). b % 128) bs i 0)))
  where
    go : (i : ℕ) → (i < 9) ⊎ (9 ≤ i) → get_or (nine_bytes (position_in_data bs)) i 0 ≡ get_or bs i 0 % 128
    go i (inl l) = byte_of_nine (position_in_data bs) i l ∙ track_byte_read bs i
    go i (inr g) = rw (get_or_past bs i 0 (omega (arith, h, g))) (past_nine (position_in_data bs) i g)

-- ---- how many, and the lowest

-- The lowest is answered just where it is armed and none below it is.
pub lowest_exactly : (s : Positions) (n : ℕ) → (first_of_tracks (armed_tracks s) ≡ gives n) ↔ IsLowest s n
lowest_exactly s n = (λ h. to (lowest_or_none s) h, λ low. lowest_is s n low)
  where
    to : ((m : ℕ) × IsLowest s m) ⊎ NoneArmed s → first_of_tracks (armed_tracks s) ≡ gives n → IsLowest s n
    to (inl some) h =
        let both : gives some.0 ≡ gives n = sym (lowest_is s some.0 some.1) ∙ h in
        let same : some.0 ≡ n = cc in
        rw (sym same) some.1
    to (inr none) h = absurd (gives_refused n (refusal 12) (sym (none_is s none) ∙ h))

-- It is 12 just where none is armed.
pub none_exactly : (s : Positions) → (first_of_tracks (armed_tracks s) ≡ refused (refusal 12)) ↔ NoneArmed s
none_exactly s = (λ h. to (lowest_or_none s) h, λ none. none_is s none)
  where
    to : ((m : ℕ) × IsLowest s m) ⊎ NoneArmed s → first_of_tracks (armed_tracks s) ≡ refused (refusal 12) → NoneArmed s
    to (inl some) h = absurd (gives_refused some.0 (refusal 12) (sym h ∙ lowest_is s some.0 some.1))
    to (inr none) h = none

-- Taken one after another, each time the lowest disarmed, they are all the armed tracks, the lowest first.
pub lowest_then_rest : (t : TrackSet) (n : ℕ) (ns : List ℕ) → armed_tracks (positions_in t) ≡ n ∷ ns
    → (first_of_tracks (armed_tracks (positions_in t)) ≡ gives n)
    × (armed_tracks (positions_in (after_change t (record { track = n; armed = false }))) ≡ ns)
lowest_then_rest t n ns h =
    let first : first_of_tracks (armed_tracks (positions_in t)) ≡ gives n = ap first_of_tracks h in
    let low = (lowest_exactly (positions_in t) n).0 first in
    let left : positions_in (after_change t (record { track = n; armed = false })) ≡ with_position (n + 4) false (positions_in t)
    = fun_ext (λ p. changed t (record { track = n; armed = false }) p low.one_of_58)
    in
    (first, ap armed_tracks left ∙ rest_armed (positions_in t) n ns h)

-- ---- data that is read, and any calls behind it

-- After any calls to arm and to disarm, refused ones included, the armed tracks are those of 1 to 58 of which the last call that names the
-- track says so, or, where none does, the data's bit. Their number is the count, and the first of them the lowest.
pub tracks_after : (bs : List ℕ) (t : TrackSet) (cs : List Change) → read_tracks bs ≡ gives t
    → armed_tracks (positions_in (after_changes t cs)) ≡ filter (λ (n : ℕ). last_said n (track_in_data bs n) cs) (range_with_len 1 58)
unfolding armed_tracks
tracks_after bs t cs h =
    kept_same (λ (n : ℕ). positions_in (after_changes t cs) (n + 4)) (λ (n : ℕ). last_said n (track_in_data bs n) cs) 1 58
    (λ n l g.
    let one : is_track n ≡ true = and_all (leb 1 n) (leb n 58) (le-leb 1 n l) (le-leb n 58 (omega (arith, g))) in
    changes_say t cs n one ∙ ap (λ (s : Positions). last_said n (s (n + 4)) cs) (read_positions bs t h).1)

-- The lower five positions are the data's.
pub lower_after : (bs : List ℕ) (t : TrackSet) (cs : List Change) → read_tracks bs ≡ gives t → (p : ℕ) → p < 5
    → positions_in (after_changes t cs) p ≡ position_in_data bs p
lower_after bs t cs h p l = lower_kept t cs p l ∙ ap (λ (s : Positions). s p) (read_positions bs t h).1

-- ---- buffers

-- A buffer that is too short is 4, with the number of the written bytes, and stays as found.
pub short_stays : (bytes out : List ℕ) → length out < length bytes
    → (data_answer bytes (length out) ≡ refused (too_small (length bytes))) × (data_in bytes out ≡ out)
unfolding data_answer data_in
short_stays bytes out h = (rw (lt-leb (length bytes) (length out) h), rw (lt-leb (length bytes) (length out) h))

-- Any other gets them at its start, and keeps what stands behind them.
pub enough_written : (bytes out : List ℕ) → length bytes ≤ length out
    → (data_answer bytes (length out) ≡ gives (length bytes)) × (data_in bytes out ≡ bytes ++ drop (length bytes) out)
unfolding data_answer data_in
enough_written bytes out h =
    let none : 0 + length bytes ≡ length bytes = omega arith in
    let put = rw none at (overlay_fits out 0 bytes (rw none h)) in
    (rw (le-leb (length bytes) (length out) h), rw (le-leb (length bytes) (length out) h) put)
