-- The source's reader, which hears every byte and does not look at bit 7: lists of calls, as `Stream` folds those of this library's reader.
-- On bytes below 80H both are one (`as_the_source`, `left_as_the_source`). Assumes nothing.
use Rattle.std.specs.Prelude.{ℕ, Bool, true, List, [], ◌∷◌, filter}
use Rattle.mtc.specs.QuarterFrame.{is_heard}
use Rattle.mtc.specs.Reader.{after_heard, event_heard, after_full_message}
use Rattle.mtc.specs.Stream.{Call, byte, full}
use Rattle.mtc.specs.declared.reader.MtcEvent.{MtcEvent}
use Rattle.mtc.specs.declared.reader.MtcReader.{MtcReader}

-- The reader that a call leaves.
abbrev pub after_source_call : MtcReader → Call → MtcReader
after_source_call r (byte b) = after_heard r b
after_source_call r (full t) = after_full_message r t

-- The reader that a list of calls leaves.
unfoldable pub after_source_calls : MtcReader → List Call → MtcReader
after_source_calls r [] = r
after_source_calls r (c ∷ cs) = after_source_calls (after_source_call r c) cs

-- What a list of bytes gives.
unfoldable pub source_events : MtcReader → List ℕ → List MtcEvent
source_events r [] = []
source_events r (b ∷ bs) = event_heard r b ∷ source_events (after_heard r b) bs

-- The calls of a list that are heard: all but those of `receive` with a byte of 80H or more.
abbrev pub is_heard_call : Call → Bool
is_heard_call (byte b) = is_heard b
is_heard_call (full t) = true

abbrev pub heard_calls : List Call → List Call
heard_calls cs = filter is_heard_call cs
