-- The laws that readers and upper crates cite: quarter frames, the full message and user bits, and what they mean by RP-004/008;
-- the stream law. Assumes nothing.
use Rattle.std.specs.Prelude.{Option}
use Prim.Native.Nat.{ℕ, ◌+◌, ◌*◌, ◌/◌, ◌%◌, ◌≤◌, ◌<◌}
use mathlib.Core.Path.{◌≡◌, refl}
use mathlib.Core.Bool.{not}
use mathlib.Core.List.{List, [], ◌∷◌, map}
use lib.Dec.{T}
use Rattle.labels.specs.St12.{is_valid, label_before}
use Rattle.labels.specs.Time.{add_frames, bits_of}
use Rattle.labels.specs.declared.time.MtcTime.{MtcTime}
use Rattle.mtc.specs.declared.generator.Direction.{Direction}
use Rattle.mtc.specs.declared.generator.Direction.TheVariants.{Forward, Reverse}
use Rattle.mtc.specs.declared.generator.MtcGenerator.{MtcGenerator}
use Rattle.mtc.specs.declared.reader.MtcReader.{MtcReader}
use Rattle.mtc.specs.Generator.{final, sequence_frames, started, GeneratorCall, after_generator_calls}
use Rattle.mtc.specs.QuarterFrame.{piece_of, quarter_frame, is_heard, heard, from_byte, to_byte, masked, pieces}
use Rattle.mtc.specs.declared.quarter_frame.QuarterFrame.{QuarterFrame}
use Rattle.mtc.specs.Reader.{fresh, piece_fits, is_sound, raw_of, sequence_of_label, after_heard, event_heard, after_byte, after_full_message}
use Rattle.mtc.specs.Ready.{Ready, NotAgainst, eight_pieces, label_of_bytes, ReadsLabel}
use Rattle.mtc.specs.Rp004.{data_byte, InWidths, data_bytes, sequence, next_label, sequences_from, is_boundary, current_time}
use Rattle.mtc.specs.SourceReader.{after_source_calls, source_events, is_heard_call, heard_calls}
use Rattle.mtc.specs.Stream.{Call, after_call, after_calls, byte_answers, events_among, events, bytes_sent, run_from, Answered, Answers, StreamLaw, SentLaw}
use Rattle.std.specs.List.{list_all}
use Rattle.universal.specs.Refusals.{gives, refused, refusal}
use Rattle.mtc.proofs.GeneratorCalls
-- A generator's next byte, running and stopped.
pub use Rattle.mtc.proofs.GeneratorCalls.{sends, stopped_refuses}
-- A sound reader's bounds, what keeps it sound, what it does with a piece by how that stands to those before it, and where the labels of
-- a report stay.
pub use Rattle.mtc.proofs.Sequences.SoundReaders.{sound_by, Bounds, bounds, piece_stands, sequence_of_lem, report_labels}
pub use Rattle.mtc.specs.Reader.{Sound}
pub use Rattle.mtc.proofs.Sequences.SoundCalls.{as_is, byte_sound}
-- Full messages and user bits: written bytes are RP-004/008's, or refused; a buffer that fits or is short; the practice's full
-- message of any label is read as it, what is written reads back, and reading accepts the practice's layouts and no other.
pub use Rattle.mtc.proofs.Messages.MessageBytes.{full_message_bytes_lem, full_message_device, full_message_invalid, full_message_fits, full_message_short, full_message_read, full_message_back, full_message_layout, full_message_reads, are_group_bytes, user_bits_bytes_lem, user_bits_fits, user_bits_short, user_bits_back, user_bits_layout, user_bits_reads}
use Rattle.mtc.proofs.QuarterFrames
use Rattle.mtc.proofs.Sequences.HeardBytes
-- A byte that is not heard is 13, and leaves any reader as it was, also one that no calls leave. A heard one gives an event.
pub use Rattle.mtc.proofs.Sequences.HeardBytes.{refused_byte, heard_byte}
use Rattle.mtc.proofs.Sequences.Sending
use Rattle.mtc.proofs.Sequences.Streams
-- A valid label's numbers fit their widths.
pub use Rattle.mtc.proofs.Widths.{valid_in_widths}

-- ---- quarter frames, by RP-004/008

-- A piece and its value go out as RP-004/008's data byte, and come back from it.
pub byte_written : (n d : ℕ) → n < 8 → d < 16 → to_byte (quarter_frame n d) ≡ data_byte n d
byte_written = QuarterFrames.byte_written

pub byte_read : (n d : ℕ) → n < 8 → d < 16 → from_byte (data_byte n d) ≡ gives (quarter_frame n d)
byte_read = QuarterFrames.byte_read

-- No other byte is read: one that is read is below 80H, and is the data byte of what it is read as.
pub byte_again : (b : ℕ) (q : QuarterFrame) → from_byte b ≡ gives q → (data_byte q.piece q.value ≡ b) × (b < 128)
byte_again = QuarterFrames.byte_again

-- A byte of 80H or more is 13.
pub status_refused : (b : ℕ) → 128 ≤ b → from_byte b ≡ refused (refusal 13)
status_refused = QuarterFrames.status_refused

-- A byte below 80H is heard, and one of 80H or more is not.
pub below_heard : (b : ℕ) → b < 128 → T (is_heard b)
below_heard = QuarterFrames.below_heard

pub status_unheard : (b : ℕ) → 128 ≤ b → T (not (is_heard b))
status_unheard = QuarterFrames.status_unheard

-- A label's data bytes one by one.
pub pieces_each : (t : MtcTime) → pieces t
    ≡ (t.frames % 16)
    ∷ (0x10 + t.frames / 16 % 2)
    ∷ (0x20 + t.seconds % 16)
    ∷ (0x30 + t.seconds / 16 % 4)
    ∷ (0x40 + t.minutes % 16)
    ∷ (0x50 + t.minutes / 16 % 4)
    ∷ (0x60 + t.hours % 16)
    ∷ (0x70 + bits_of t.rate * 2 + t.hours / 16 % 2)
    ∷ []
unfolding pieces
pieces_each t = refl

-- A label's data bytes are RP-004/008's, where its numbers fit their widths.
pub pieces_practice : (t : MtcTime) → InWidths t → pieces t ≡ data_bytes t
pieces_practice = QuarterFrames.pieces_practice

-- More is sent than the page has: a label outside them goes out as the one with each count masked to its width.
pub pieces_masked : (t : MtcTime) → pieces t ≡ data_bytes (masked t)
pieces_masked = QuarterFrames.pieces_masked

-- The generator's and the reader's move of two frames is RP-004/008's.
pub moves_practice : (t : MtcTime) (d : Direction) → T (is_valid t) → add_frames t (sequence_frames d) ≡ next_label d t
moves_practice = QuarterFrames.moves_practice

-- A generator located at a valid time and set running sends RP-004/008's sequences from that time on, any number of them,
-- whatever its record was.
pub sends_practice : (g : MtcGenerator) (t : MtcTime) (d : Direction) (n : ℕ) → T (is_valid t)
    → bytes_sent (n * 8) (run_from g t d) ≡ sequences_from d t n
sends_practice = QuarterFrames.sends_practice

-- The event of a data byte has its piece.
pub event_piece : (r : MtcReader) (n d : ℕ) → n < 8 → d < 16 → (event_heard r (data_byte n d)).piece ≡ n
event_piece = QuarterFrames.event_piece

-- Every event has RP-004/008's boundary mark of its piece.
pub event_boundary : (r : MtcReader) (b : ℕ) → (event_heard r b).boundary ≡ is_boundary (event_heard r b).piece
event_boundary = QuarterFrames.event_boundary

-- Forward the current time that a report of a valid label has is RP-004/008's.
pub current_forward : (t : MtcTime) (p : Option MtcTime) → T (is_valid t) → (sequence_of_label t Forward p).current ≡ current_time t
current_forward = QuarterFrames.current_forward

-- In reverse, where the page does not say, it is the label before.
pub current_reverse : (t : MtcTime) (p : Option MtcTime) → T (is_valid t) → (sequence_of_label t Reverse p).current ≡ label_before t
current_reverse = QuarterFrames.current_reverse

-- A reader that is ready for a sequence reads it, of every label whose numbers fit their widths, and is ready for the next one; also
-- where status bytes slip in among the sequence's own.
pub sequence_read : (r : MtcReader) (d : Direction) (t : MtcTime) (bs : List ℕ) → Ready d r → InWidths t → heard bs ≡ sequence d t
    → ReadsLabel d bs t r
sequence_read = QuarterFrames.sequence_read

-- The page's bytes are all heard, so that it reads them alone too.
pub sequence_heard : (d : Direction) (t : MtcTime) → InWidths t → heard (sequence d t) ≡ sequence d t
sequence_heard = QuarterFrames.sequence_heard

-- More is taken than the page has: it reads eight pieces in the direction's order, whatever their nibbles are, as the label that
-- these make.
pub any_nibbles_read : (r : MtcReader) (d : Direction) (bs : List ℕ) → Ready d r → map piece_of (heard bs) ≡ eight_pieces d
    → ReadsLabel d bs (label_of_bytes d (heard bs)) r
any_nibbles_read = QuarterFrames.any_nibbles_read

-- In that label the reserved bits of pieces 1, 3, 5 and 7 do not count: 1FH for piece 1 is taken as 11H.
pub reserved_ignored : (a b c d e f g h : ℕ)
    → raw_of (a ∷ b ∷ c ∷ d ∷ e ∷ f ∷ g ∷ h ∷ []) ≡ raw_of (a ∷ b % 2 ∷ c ∷ d % 4 ∷ e ∷ f % 4 ∷ g ∷ h % 8 ∷ [])
reserved_ignored = QuarterFrames.reserved_ignored

-- A fresh reader is ready for either direction.
pub fresh_ready : (d : Direction) → Ready d fresh
fresh_ready = QuarterFrames.fresh_ready

-- So is a reader that just got a full message, unless it was going the other way.
pub full_ready : (r : MtcReader) (d : Direction) (t : MtcTime) → Sound r → NotAgainst d r.direction → Ready d (after_full_message r t)
full_ready = QuarterFrames.full_ready

-- So is one that just heard the direction's last piece, whatever calls came before it since it was fresh. It is ready for forward
-- after 76H alone, and right after piece 7 in reverse.
pub last_piece_ready : (cs : List Call) (b : ℕ) (d : Direction) → T (is_heard b) → piece_of b ≡ final d
    → Ready d (after_byte (after_calls fresh cs) b)
last_piece_ready = QuarterFrames.last_piece_ready

-- ---- bytes that are heard, and those that are not (document 02, #105)

-- In a list each byte that is not heard is answered 13, and each other one by its event.
pub each_answered : (r : MtcReader) (bs : List ℕ) → Answered bs (events r bs) (byte_answers r bs)
each_answered = HeardBytes.each_answered

-- The events are what the source's reader gives of the bytes that are heard, and the reader that calls leave is the one that the source's
-- reader leaves on those that are heard: so the others count nowhere.
pub events_of_heard : (r : MtcReader) (bs : List ℕ) → events r bs ≡ source_events r (heard bs)
events_of_heard = HeardBytes.events_of_heard

pub left_by_heard : (r : MtcReader) (cs : List Call) → after_calls r cs ≡ after_source_calls r (heard_calls cs)
left_by_heard = HeardBytes.left_by_heard

-- The source's reader takes a byte of 80H or more as the same byte without bit 7.
pub high_bit_ignored : (r : MtcReader) (b : ℕ) → (event_heard r (b + 128) ≡ event_heard r b) × (after_heard r (b + 128) ≡ after_heard r b)
high_bit_ignored = HeardBytes.high_bit_ignored

-- On bytes below 80H both readers are one: as before.
pub as_the_source : (r : MtcReader) (bs : List ℕ) → T (list_all is_heard bs) → byte_answers r bs ≡ map gives (source_events r bs)
as_the_source = HeardBytes.as_the_source

pub left_as_the_source : (r : MtcReader) (cs : List Call) → T (list_all is_heard_call cs) → after_calls r cs ≡ after_source_calls r cs
left_as_the_source = HeardBytes.left_as_the_source

-- Every generator's bytes are heard, whatever its record is.
pub sent_heard : (g : MtcGenerator) (n : ℕ) → T (list_all is_heard (bytes_sent n g))
sent_heard = HeardBytes.sent_heard

-- Where all are heard, none is left out.
pub all_heard : (bs : List ℕ) → T (list_all is_heard bs) → heard bs ≡ bs
all_heard = HeardBytes.all_heard

-- ---- streams

-- A generator located at any T and set running sends exactly the pieces of T, of T plus 2 and of T plus 4 (reverse: minus 2,
-- minus 4).
pub sent_law : SentLaw
sent_law = Sending.sent_law

-- The answers of a reader to these twenty-four bytes, after any list of calls from fresh on, with any bytes that are not heard among them.
pub stream_law : StreamLaw
stream_law = Streams.stream_law

-- The same of the twenty-four alone.
pub stream_alone : (calls : List Call) (g : MtcGenerator) (t : MtcTime) (d : Direction) → T (is_valid t)
    → Answers calls d t (events (after_calls fresh calls) (bytes_sent 24 (run_from g t d)))
stream_alone = Streams.stream_alone

-- No list of calls leaves a generator's last piece above 7 where it was not above 7 before, and so none after it was started.
pub generator_calls : (g : MtcGenerator) → T (piece_fits g.last) → (cs : List GeneratorCall)
    → T (piece_fits (after_generator_calls g cs).last)
generator_calls g h cs = GeneratorCalls.calls_fit cs g h

pub started_calls : (t : MtcTime) (d : Direction) (cs : List GeneratorCall) → T (piece_fits (after_generator_calls (started t d) cs).last)
started_calls t d cs = GeneratorCalls.calls_fit cs (started t d) tt

-- No list of calls on a fresh reader leaves a record that is taken as fresh.
pub calls_sound : (cs : List Call) → T (is_sound (after_calls fresh cs))
calls_sound = Streams.calls_sound

-- ---- the definitions' equations, for crates above

-- The reader that one more call leaves.
pub calls_more : (r : MtcReader) (c : Call) (cs : List Call) → after_calls r (c ∷ cs) ≡ after_calls (after_call r c) cs
unfolding after_calls
calls_more r c cs = refl

-- No call leaves the reader as it was, and no byte gives an event.
pub calls_none : (r : MtcReader) → (after_calls r [] ≡ r) × (events r [] ≡ [])
unfolding after_calls byte_answers events_among
calls_none r = (refl, refl)

-- The event of one more byte stands before those of the bytes after it; one that is not heard gives none.
pub events_more : (r : MtcReader) (b : ℕ) (bs : List ℕ) → T (is_heard b) → events r (b ∷ bs) ≡ event_heard r b ∷ events (after_heard r b) bs
unfolding byte_answers events_among
events_more r b bs h = let x = heard_byte r b h in rw (x.0, x.1)

pub events_same : (r : MtcReader) (b : ℕ) (bs : List ℕ) → T (not (is_heard b)) → events r (b ∷ bs) ≡ events r bs
unfolding byte_answers events_among
events_same r b bs h = let x = refused_byte r b h in rw (x.0, x.1)
