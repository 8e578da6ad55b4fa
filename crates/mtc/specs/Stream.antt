-- Demand 3's claim on quarter frames, as document 01 reads it ("Sequence"): a reader that got any list of calls from fresh on,
-- then the twenty-four bytes of a generator that was located at a valid time and set running in a direction. Bytes that are not heard may
-- stand anywhere among both (document 02, #105). The lists are folded with the definitions in the contracts of the calls. Assumes nothing.
use Rattle.mtc.specs.declared.reader.MtcSequence.{MtcSequence}
use Rattle.std.specs.Prelude.{ℕ, zero, suc, Bool, true, false, not, cond, List, [], ◌∷◌, ◌++◌, map, reverse, ◌⊎◌, ◌≢◌, ◌≡◌, T, ℤ, pos, neg_ℤ, length, take, get_or, replicate, Option, Some, None}
use Rattle.mtc.specs.Generator.{next_byte, after_next_byte, located, with_direction, with_running}
use Rattle.mtc.specs.QuarterFrame.{piece_of, pieces, is_heard, heard}
use Rattle.mtc.specs.Reader.{fresh, after_byte, event_of, after_full_message}
use Rattle.labels.specs.St12.{is_valid}
use Rattle.labels.specs.Time.{add_frames}
use Rattle.labels.specs.declared.time.MtcTime.{MtcTime}
use Rattle.mtc.specs.declared.generator.Direction.{Direction}
use Rattle.mtc.specs.declared.generator.Direction.TheVariants.{Forward, Reverse}
use Rattle.mtc.specs.declared.generator.MtcGenerator.{MtcGenerator}
use Rattle.mtc.specs.declared.reader.MtcEvent.{MtcEvent}
use Rattle.mtc.specs.declared.reader.MtcReader.{MtcReader}
use Rattle.universal.specs.Refusals.{Answer, gives, refused, refusal}

-- ---- the generator's bytes

-- A generator located at a time and set running in a direction, whatever its record was.
abbrev pub run_from : MtcGenerator → MtcTime → Direction → MtcGenerator
run_from g t d = with_running (with_direction (located g t) d) true

-- The byte of an answer; a refusal sends none.
abbrev pub byte_answered : Answer ℕ → List ℕ
byte_answered (gives b) = b ∷ []
byte_answered (refused e) = []

-- The bytes of so many calls.
unfoldable pub bytes_sent : ℕ → MtcGenerator → List ℕ
bytes_sent zero g = []
bytes_sent (suc n) g = byte_answered (next_byte g) ++ bytes_sent n (after_next_byte g)

-- ---- the reader's calls

-- A call of `receive` with any byte, or of `full_message` with a label, whatever the device.
pub data Call : Type 0 where
  byte : ℕ → Call
  full : MtcTime → Call

-- The reader that a call leaves.
abbrev pub after_call : MtcReader → Call → MtcReader
after_call r (byte b) = after_byte r b
after_call r (full t) = after_full_message r t

-- The reader that a list of calls leaves.
unfoldable pub after_calls : MtcReader → List Call → MtcReader
after_calls r [] = r
after_calls r (c ∷ cs) = after_calls (after_call r c) cs

-- What each of a list of bytes is answered.
unfoldable pub byte_answers : MtcReader → List ℕ → List (Answer MtcEvent)
byte_answers r [] = []
byte_answers r (b ∷ bs) = event_of r b ∷ byte_answers (after_byte r b) bs

-- The events among answers.
unfoldable pub events_among : List (Answer MtcEvent) → List MtcEvent
events_among [] = []
events_among (gives e ∷ rest) = e ∷ events_among rest
events_among (refused r ∷ rest) = events_among rest

-- What a list of bytes gives.
abbrev pub events : MtcReader → List ℕ → List MtcEvent
events r bs = events_among (byte_answers r bs)

-- The bytes heard since the last full message, the newest first, on top of those before.
unfoldable pub newest : List ℕ → List Call → List ℕ
newest bs [] = bs
newest bs (byte b ∷ cs) = newest (cond (is_heard b) (b ∷ bs) bs) cs
newest bs (full t ∷ cs) = newest [] cs

-- The last seven bytes that were heard, in the order in which they came. They are fewer where a full message stands after the first of
-- them.
abbrev pub last_seven : List Call → List ℕ
last_seven cs = reverse (take 7 (newest [] cs))

-- Answers without a report.
abbrev pub silent : ℕ → List (Option MtcSequence)
silent n = replicate n None

-- ---- the claim

-- What the n-th byte reports; the first is number 1.
abbrev pub nth_report : ℕ → List MtcEvent → Option MtcSequence
nth_report zero es = None
nth_report (suc n) es = get_or (map (λ e. e.sequence) es) n None

-- So many frames on forward, so many back in reverse.
abbrev pub frames : Direction → ℕ → ℕ → ℤ
frames Forward on back = pos on
frames Reverse on back = neg_ℤ (pos back)

-- The label so many frames on from T, or back in reverse.
abbrev pub shifted : MtcTime → Direction → ℕ → ℕ → MtcTime
shifted t d on back = add_frames t (frames d on back)

-- A report of a raw and a current time.
abbrev pub report_with : Direction → MtcTime → MtcTime → Bool → Option MtcSequence
report_with d raw current jump =
    Some (record { raw = raw; current = current; direction = d; discontinuity = jump })

-- The seven pieces after which a direction's first piece ends a sequence of the other direction.
abbrev pub seven_before : Direction → List ℕ
seven_before Forward = 7 ∷ 6 ∷ 5 ∷ 4 ∷ 3 ∷ 2 ∷ 1 ∷ []
seven_before Reverse = 0 ∷ 1 ∷ 2 ∷ 3 ∷ 4 ∷ 5 ∷ 6 ∷ []

-- The answers to the twenty-four bytes from T on, after these calls.
pub record Answers (calls : List Call) (d : Direction) (t : MtcTime) (es : List MtcEvent) : Type 0 where
  -- there are twenty-four
  pub count : length es ≡ 24
  -- the first reports nothing, unless the last seven bytes were pieces 7 down to 1 (reverse: 0 up to 6)
  pub first : (nth_report 1 es ≡ None) ⊎ (map piece_of (last_seven calls) ≡ seven_before d)
  -- the eighth reports nothing or T, with T plus 2 as the current time (reverse: minus 1)
  pub eighth :
      (nth_report 8 es ≡ None)
      ⊎ ((jump : Bool) × (nth_report 8 es ≡ report_with d t (shifted t d 2 1) jump))
  -- the sixteenth reports T plus 2 and T plus 4 (reverse: minus 2, minus 3)
  pub sixteenth :
      (jump : Bool)
      × (nth_report 16 es ≡ report_with d (shifted t d 2 2) (shifted t d 4 3) jump)
  -- the twenty-fourth reports T plus 4 and T plus 6 (reverse: minus 4, minus 5), without a discontinuity
  pub twenty_fourth : nth_report 24 es ≡ report_with d (shifted t d 4 4) (shifted t d 6 5) false
  -- no other byte reports
  pub others : (n : ℕ) → n ≢ 1 → n ≢ 8 → n ≢ 16 → n ≢ 24 → nth_report n es ≡ None

-- Bytes with their answers, where those that are heard give these events in their order: any other byte is answered 13.
pub data Answered : List ℕ → List MtcEvent → List (Answer MtcEvent) → Type 0 where
  no_byte : Answered [] [] []
  by_event : (b : ℕ) (e : MtcEvent) (bs : List ℕ) (es : List MtcEvent) (rest : List (Answer MtcEvent))
      → T (is_heard b) → Answered bs es rest → Answered (b ∷ bs) (e ∷ es) (gives e ∷ rest)
  by_13 : (b : ℕ) (bs : List ℕ) (es : List MtcEvent) (rest : List (Answer MtcEvent))
      → T (not (is_heard b)) → Answered bs es rest → Answered (b ∷ bs) es (refused (refusal 13) ∷ rest)

-- A reader that got these calls is given bytes. Where the heard ones among them are the twenty-four from T on, this holds.
pub record AnswersAmong (calls : List Call) (d : Direction) (t : MtcTime) (bs : List ℕ) : Type 0 where
  -- every byte that is not heard is answered 13, and every other one gives its event
  pub each : Answered bs (events (after_calls fresh calls) bs) (byte_answers (after_calls fresh calls) bs)
  -- the events are those of the twenty-four, which alone count
  pub answers : Answers calls d t (events (after_calls fresh calls) bs)

-- The stream law: after any list of calls from fresh on, whatever the generator's record was, for every valid T and each direction, and
-- for any bytes of which those that are heard are the generator's twenty-four.
abbrev pub StreamLaw : Type 0
StreamLaw =
    (calls : List Call) (g : MtcGenerator) (t : MtcTime) (d : Direction) (bs : List ℕ) → T (is_valid t)
    → heard bs ≡ bytes_sent 24 (run_from g t d) → AnswersAmong calls d t bs

-- A label's eight data bytes in a direction's order.
abbrev pub in_order : Direction → List ℕ → List ℕ
in_order Forward ps = ps
in_order Reverse ps = reverse ps

-- The generator sends the pieces of T, of T plus 2 and of T plus 4 (reverse: minus 2, minus 4).
abbrev pub SentLaw : Type 0
SentLaw =
    (g : MtcGenerator) (t : MtcTime) (d : Direction)
    → bytes_sent 24 (run_from g t d)
    ≡ in_order d (pieces t)
    ++ (in_order d (pieces (shifted t d 2 2)) ++ in_order d (pieces (shifted t d 4 4)))
