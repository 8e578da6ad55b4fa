-- Sets of tracks and what their calls answer, in numbers. Assumes nothing.
use Rattle.std.specs.Prelude.{ℕ, Bool, false, Option, Some, None}
use Rattle.fimbrast.specs.declared.track_set.FlatTrackSet.{FlatTrackSet}
use Rattle.fimbrast.specs.declared.track_set.FlatTrackSetAnswer.{FlatTrackSetAnswer}
use Rattle.fimbrast.specs.declared.track_set.FlatTrackArmed.{FlatTrackArmed}
use Rattle.fimbrast.specs.declared.track_set.FlatLowestTrack.{FlatLowestTrack}
use Rattle.tracks.specs.Tracks.{no_positions, set_of, positions_in}
use Rattle.tracks.specs.declared.set.TrackSet.{TrackSet}
use Rattle.universal.specs.Refusals.{Answer, gives, refused}

-- The set of a record, without bit 63, and the record of a set.
unfoldable pub track_set_of : FlatTrackSet → TrackSet
track_set_of f = set_of (positions_in (record { positions = f.positions }))

unfoldable pub flat_track_set : TrackSet → FlatTrackSet
flat_track_set t = record { positions = t.positions }

-- Answer 0 and the set; or a refusal, and the set beside it.
unfoldable pub flat_set_answer : TrackSet → Answer TrackSet → FlatTrackSetAnswer
flat_set_answer before (gives t) = record { answer = 0; set = flat_track_set t }
flat_set_answer before (refused r) = record { answer = r.number; set = flat_track_set before }

-- Of a field: 255 where it has no view, and an empty set beside that and beside a refusal.
unfoldable pub flat_view : Option (Answer TrackSet) → FlatTrackSetAnswer
flat_view None = record { answer = 255; set = flat_track_set (set_of no_positions) }
flat_view (Some a) = flat_set_answer (set_of no_positions) a

-- Whether a track is armed, with refusal 0; or a refusal, and no.
unfoldable pub flat_track_armed : Answer Bool → FlatTrackArmed
flat_track_armed (gives b) = record { refusal = 0; armed = b }
flat_track_armed (refused r) = record { refusal = r.number; armed = false }

-- A track with refusal 0; or a refusal, and track 0.
unfoldable pub flat_lowest_track : Answer ℕ → FlatLowestTrack
flat_lowest_track (gives n) = record { refusal = 0; track = n }
flat_lowest_track (refused r) = record { refusal = r.number; track = 0 }
