-- Worked instances of document 02, #104, as computed tables: data that is read and then changed by calls, with what each call answers of
-- it, and buffers that it is written into. Assumes nothing.
use Rattle.std.specs.Prelude.{ℕ, ◌+◌, ◌^◌, ◌≡◌, Bool, true, false, List, [], ◌∷◌, ◌++◌, map, length, replicate}
use Rattle.std.specs.List.{range_with_len}
use mathlib.Core.Path.{refl}
use Rattle.tracks.specs.Rp013Tracks.{position_in_data, VIDEO, RESERVED, TIME-CODE, AUX-A, AUX-B}
use Rattle.tracks.specs.Tracks.{as_number, positions_in, read_tracks, change_track, track_is_armed, Change, after_change, after_changes, armed_tracks, first_of_tracks, track_byte, nine_bytes, without_end_zeros, data_of, data_answer, data_in}
use Rattle.tracks.specs.declared.set.TrackSet.{TrackSet}
use Rattle.universal.specs.Overlay.{overlay}
use Rattle.universal.specs.Refusals.{Answer, gives, refused, refusal, too_small}

-- What the calls say of a set: the armed tracks, how many they are, the lowest, the lower five positions, and the written bytes.
pub record TracksSaid : Type 0 where
  pub armed : List ℕ
  pub count : ℕ
  pub lowest : Answer ℕ
  pub lower : List Bool
  pub written : List ℕ

abbrev said_of_set : TrackSet → TracksSaid
said_of_set t =
    record {
      armed = armed_tracks (positions_in t);
      count = length (armed_tracks (positions_in t));
      lowest = first_of_tracks (armed_tracks (positions_in t));
      lower = map (positions_in t) (VIDEO ∷ RESERVED ∷ TIME-CODE ∷ AUX-A ∷ AUX-B ∷ []);
      written = data_of t;
    }

-- Data and the calls behind it, and what they should answer.
pub record TracksRow : Type 0 where
  pub given : List ℕ
  pub calls : List Change
  pub stated : Answer TracksSaid

abbrev tracks_row : List ℕ → List Change → List ℕ → ℕ → Answer ℕ → List Bool → List ℕ → TracksRow
tracks_row bytes calls armed count lowest lower written =
    record {
      given = bytes;
      calls = calls;
      stated = gives (record { armed = armed; count = count; lowest = lowest; lower = lower; written = written });
    }

-- Data that is refused by 12.
abbrev refused_row : List ℕ → TracksRow
refused_row bytes = record { given = bytes; calls = []; stated = refused (refusal 12) }

abbrev after_read : Answer TrackSet → List Change → Answer TracksSaid
after_read (gives t) calls = gives (said_of_set (after_changes t calls))
after_read (refused r) calls = refused r

abbrev row_answer : TracksRow → Answer TracksSaid
row_answer r = after_read (read_tracks r.given) r.calls

abbrev arm : ℕ → Change
arm n = record { track = n; armed = true }

abbrev disarm : ℕ → Change
disarm n = record { track = n; armed = false }

-- The armed tracks of the set that a call gives.
abbrev answer_tracks : Answer TrackSet → Answer (List ℕ)
answer_tracks (gives t) = gives (armed_tracks (positions_in t))
answer_tracks (refused r) = refused r

-- No track armed, and none of the lower five positions set.
abbrev no_track : Answer ℕ
no_track = refused (refusal 12)

abbrev none_of_five : List Bool
none_of_five = false ∷ false ∷ false ∷ false ∷ false ∷ []

abbrev all_five : List Bool
all_five = true ∷ true ∷ true ∷ true ∷ true ∷ []

pub tracks_table : List TracksRow
tracks_table =
    -- no data is an empty set, and writes none
    tracks_row [] [] [] 0 no_track none_of_five []
    -- track 1 is bit 5 of byte 0, track 2 bit 6, track 3 bit 0 of byte 1, track 58 bit 6 of byte 8
    ∷ tracks_row (0x20 ∷ []) [] (1 ∷ []) 1 (gives 1) none_of_five (0x20 ∷ [])
    ∷ tracks_row (0x40 ∷ []) [] (2 ∷ []) 1 (gives 2) none_of_five (0x40 ∷ [])
    ∷ tracks_row (0x00 ∷ 0x01 ∷ []) [] (3 ∷ []) 1 (gives 3) none_of_five (0x00 ∷ 0x01 ∷ [])
    ∷ tracks_row (0x00 ∷ 0x40 ∷ []) [] (9 ∷ []) 1 (gives 9) none_of_five (0x00 ∷ 0x40 ∷ [])
    ∷ tracks_row (replicate 8 0x00 ++ 0x40 ∷ []) [] (58 ∷ []) 1 (gives 58) none_of_five (replicate 8 0x00 ++ 0x40 ∷ [])
    -- video, reserved, time code and two auxiliaries are no tracks
    ∷ tracks_row (0x01 ∷ []) [] [] 0 no_track (true ∷ false ∷ false ∷ false ∷ false ∷ []) (0x01 ∷ [])
    ∷ tracks_row (0x02 ∷ []) [] [] 0 no_track (false ∷ true ∷ false ∷ false ∷ false ∷ []) (0x02 ∷ [])
    ∷ tracks_row (0x04 ∷ []) [] [] 0 no_track (false ∷ false ∷ true ∷ false ∷ false ∷ []) (0x04 ∷ [])
    ∷ tracks_row (0x08 ∷ []) [] [] 0 no_track (false ∷ false ∷ false ∷ true ∷ false ∷ []) (0x08 ∷ [])
    ∷ tracks_row (0x10 ∷ []) [] [] 0 no_track (false ∷ false ∷ false ∷ false ∷ true ∷ []) (0x10 ∷ [])
    -- time code and the tracks 1, 2 and 17
    ∷ tracks_row (0x64 ∷ 0x00 ∷ 0x00 ∷ 0x01 ∷ []) [] (1 ∷ 2 ∷ 17 ∷ []) 3 (gives 1) (false ∷ false ∷ true ∷ false ∷ false ∷ [])
    (0x64 ∷ 0x00 ∷ 0x00 ∷ 0x01 ∷ [])
    -- all
    ∷ tracks_row (replicate 9 0x7F) [] (range_with_len 1 58) 58 (gives 1) all_five (replicate 9 0x7F)
    -- bit 7 of each byte is ignored, and not written
    ∷ tracks_row (0x80 ∷ 0x81 ∷ 0x80 ∷ []) [] (3 ∷ []) 1 (gives 3) none_of_five (0x00 ∷ 0x01 ∷ [])
    ∷ tracks_row (replicate 9 0xFF) [] (range_with_len 1 58) 58 (gives 1) all_five (replicate 9 0x7F)
    -- zero bytes at the end are left out, those before another byte are not
    ∷ tracks_row (0x20 ∷ 0x00 ∷ 0x01 ∷ 0x00 ∷ 0x00 ∷ []) [] (1 ∷ 10 ∷ []) 2 (gives 1) none_of_five (0x20 ∷ 0x00 ∷ 0x01 ∷ [])
    ∷ tracks_row (replicate 9 0x00) [] [] 0 no_track none_of_five []
    -- ten bytes are too many, also where the last is zero
    ∷ refused_row (0x20 ∷ replicate 9 0x00)
    ∷ refused_row (replicate 10 0x00)
    ∷ refused_row (replicate 45 0x00)
    -- arming adds a track, and disarming takes it away; the lower five positions stay
    ∷ tracks_row (0x1F ∷ []) (arm 1 ∷ []) (1 ∷ []) 1 (gives 1) all_five (0x3F ∷ [])
    ∷ tracks_row (0x1F ∷ []) (arm 58 ∷ arm 3 ∷ []) (3 ∷ 58 ∷ []) 2 (gives 3) all_five (0x1F ∷ 0x01 ∷ replicate 6 0x00 ++ 0x40 ∷ [])
    ∷ tracks_row (0x64 ∷ 0x00 ∷ 0x00 ∷ 0x01 ∷ []) (disarm 17 ∷ disarm 1 ∷ []) (2 ∷ []) 1 (gives 2)
    (false ∷ false ∷ true ∷ false ∷ false ∷ []) (0x44 ∷ [])
    -- twice is once, and the last call that names a track counts
    ∷ tracks_row [] (arm 4 ∷ arm 4 ∷ []) (4 ∷ []) 1 (gives 4) none_of_five (0x00 ∷ 0x02 ∷ [])
    ∷ tracks_row (0x20 ∷ []) (disarm 4 ∷ []) (1 ∷ []) 1 (gives 1) none_of_five (0x20 ∷ [])
    ∷ tracks_row [] (arm 58 ∷ arm 2 ∷ disarm 58 ∷ []) (2 ∷ []) 1 (gives 2) none_of_five (0x40 ∷ [])
    -- a call for a track outside 1 to 58 changes nothing
    ∷ tracks_row (0x20 ∷ []) (arm 0 ∷ []) (1 ∷ []) 1 (gives 1) none_of_five (0x20 ∷ [])
    ∷ tracks_row (0x20 ∷ []) (arm 59 ∷ arm 255 ∷ []) (1 ∷ []) 1 (gives 1) none_of_five (0x20 ∷ [])
    ∷ tracks_row (0x3F ∷ []) (disarm 0 ∷ disarm 59 ∷ []) (1 ∷ []) 1 (gives 1) all_five (0x3F ∷ [])
    ∷ []

pub tracks_instances : map row_answer tracks_table ≡ map (λ (r : TracksRow). r.stated) tracks_table
unfolding tracks_table read_tracks change_track after_change armed_tracks data_of nine_bytes track_byte without_end_zeros as_number positions_in position_in_data
tracks_instances = refl

-- Numbers that no track has.
abbrev no_such_tracks : List ℕ
no_such_tracks = 0 ∷ 59 ∷ 60 ∷ 255 ∷ []

-- What a call answers of a set with track 1: a number that no track has is refused by 12.
abbrev armed_after : ℕ → Bool → Answer (List ℕ)
armed_after n b = answer_tracks (change_track (record { positions = 32 }) n b)

pub outside_refused : map (track_is_armed (record { positions = 2 ^ 63 + 32 })) (1 ∷ 2 ∷ 58 ∷ no_such_tracks)
    ≡ gives true ∷ gives false ∷ gives false ∷ map (λ (n : ℕ). refused (refusal 12)) no_such_tracks
unfolding track_is_armed positions_in
outside_refused = refl

pub changes_answered : (armed_after 2 true ≡ gives (1 ∷ 2 ∷ []))
    × (armed_after 1 false ≡ gives [])
    × (map (λ (n : ℕ). armed_after n true) no_such_tracks ≡ map (λ (n : ℕ). refused (refusal 12)) no_such_tracks)
    × (map (λ (n : ℕ). armed_after n false) no_such_tracks ≡ map (λ (n : ℕ). refused (refusal 12)) no_such_tracks)
unfolding change_track armed_tracks as_number positions_in
changes_answered = (refl, refl, refl, refl)

-- Bit 63 of a record is no position.
pub bit_63_clear : said_of_set (record { positions = 2 ^ 63 + 32 }) ≡ said_of_set (record { positions = 32 })
unfolding armed_tracks data_of nine_bytes track_byte without_end_zeros as_number positions_in
bit_63_clear = refl

-- ---- buffers

-- A set of three bytes, with a zero byte in the middle.
abbrev three_bytes : TrackSet
three_bytes = record { positions = 16416 }

abbrev written_into : List ℕ → Answer ℕ
written_into out = data_answer (data_of three_bytes) (length out)

-- Two bytes of room are too few, and stay as found; three are enough, and what stands behind them stays.
pub buffer_instances : (written_into (0xAA ∷ 0xAA ∷ []) ≡ refused (too_small 3))
    × (data_in (data_of three_bytes) (0xAA ∷ 0xAA ∷ []) ≡ 0xAA ∷ 0xAA ∷ [])
    × (written_into (0xAA ∷ 0xAA ∷ 0xAA ∷ []) ≡ gives 3)
    × (data_in (data_of three_bytes) (0xAA ∷ 0xAA ∷ 0xAA ∷ []) ≡ 0x20 ∷ 0x00 ∷ 0x01 ∷ [])
    × (written_into (0xAA ∷ 0xAA ∷ 0xAA ∷ 0xAA ∷ []) ≡ gives 3)
    × (data_in (data_of three_bytes) (0xAA ∷ 0xAA ∷ 0xAA ∷ 0xAA ∷ []) ≡ 0x20 ∷ 0x00 ∷ 0x01 ∷ 0xAA ∷ [])
    × (data_answer [] 0 ≡ gives 0)
unfolding data_answer data_in data_of nine_bytes track_byte without_end_zeros as_number positions_in overlay
buffer_instances = (refl, refl, refl, refl, refl, refl, refl)
