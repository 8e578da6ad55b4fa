-- What mtc.rs's generator does, on every record: one definition for each public call of src/generator.rt. Assumes nothing.
use Rattle.std.specs.Prelude.{ℕ, ◌+◌, ◌%◌, Bool, true, cond, List, [], ◌∷◌, leb, eqb, ℤ, pos, negsuc, get_or, Option, Some, None}
use Rattle.mtc.specs.QuarterFrame.{pieces}
use Rattle.labels.specs.Time.{add_frames}
use Rattle.labels.specs.declared.time.MtcTime.{MtcTime}
use Rattle.mtc.specs.declared.generator.Direction.{Direction}
use Rattle.mtc.specs.declared.generator.Direction.TheVariants.{Forward, Reverse}
use Rattle.mtc.specs.declared.generator.MtcGenerator.{MtcGenerator}
use Rattle.universal.specs.Refusals.{Answer, gives, refused, refusal}

-- ---- the order of pieces

-- The first piece of a sequence.
abbrev pub first : Direction → ℕ
first Forward = 0
first Reverse = 7

-- The piece after a piece.
abbrev pub after : Direction → ℕ → ℕ
after Forward last = (last + 1) % 8
after Reverse last = (last + 7) % 8

-- The last piece of a sequence.
abbrev pub final : Direction → ℕ
final Forward = 7
final Reverse = 0

-- The other direction.
abbrev pub opposite : Direction → Direction
opposite Forward = Reverse
opposite Reverse = Forward

-- The frames from a sequence's time to the next one's: a sequence takes two.
abbrev pub sequence_frames : Direction → ℤ
sequence_frames Forward = pos 2
sequence_frames Reverse = negsuc 1

-- The time of the sequence that the piece after a piece belongs to.
abbrev pub moved : Direction → ℕ → MtcTime → MtcTime
moved d last t = cond (eqb last (final d)) (add_frames t (sequence_frames d)) t

-- A last piece above 7 is none.
abbrev pub known : Option ℕ → Option ℕ
known None = None
known (Some l) = cond (leb l 7) (Some l) None

-- The piece after the last one, or the first one.
abbrev pub piece_next : Direction → Option ℕ → ℕ
piece_next d None = first d
piece_next d (Some l) = after d l

-- The time of the sequence that it belongs to.
abbrev pub time_next : Direction → Option ℕ → MtcTime → MtcTime
time_next d None t = t
time_next d (Some l) t = moved d l t

-- ---- the next byte

-- A running generator that has just sent a piece.
abbrev pub sent_at : MtcTime → Direction → ℕ → MtcGenerator
sent_at t d p = record { time = t; direction = d; last = Some p; running = true }

-- The next piece of the time; while stopped refusal 8.
unfoldable pub next_byte : MtcGenerator → Answer ℕ
next_byte g =
    cond g.running
    (gives (get_or (pieces (time_next g.direction (known g.last) g.time))
    (piece_next g.direction (known g.last)) 0))
    (refused (refusal 8))

-- The generator that comes back; a stopped one is unchanged.
unfoldable pub after_next_byte : MtcGenerator → MtcGenerator
after_next_byte g =
    cond g.running
    (sent_at (time_next g.direction (known g.last) g.time) g.direction
    (piece_next g.direction (known g.last)))
    g

-- ---- the other calls

-- A running generator that has sent nothing.
abbrev pub started : MtcTime → Direction → MtcGenerator
started t d = record { time = t; direction = d; last = None; running = true }

-- Set running or stopped.
abbrev pub with_running : MtcGenerator → Bool → MtcGenerator
with_running g b = record { time = g.time; direction = g.direction; last = g.last; running = b }

-- Turned: the last piece is kept.
abbrev pub with_direction : MtcGenerator → Direction → MtcGenerator
with_direction g d = record { time = g.time; direction = d; last = g.last; running = g.running }

-- At a new time: the last piece is forgotten, direction and running are kept.
abbrev pub located : MtcGenerator → MtcTime → MtcGenerator
located g t = record { time = t; direction = g.direction; last = None; running = g.running }

-- ---- lists of calls

-- A call that hands back a generator: of `next_byte`, of `set_running`, of `set_direction` or of `locate`.
pub data GeneratorCall : Type 0 where
  next_byte_call : GeneratorCall
  running : Bool → GeneratorCall
  turn : Direction → GeneratorCall
  locate : MtcTime → GeneratorCall

-- The generator that a call leaves.
abbrev pub after_generator_call : MtcGenerator → GeneratorCall → MtcGenerator
after_generator_call g next_byte_call = after_next_byte g
after_generator_call g (running b) = with_running g b
after_generator_call g (turn d) = with_direction g d
after_generator_call g (locate t) = located g t

-- The generator that a list of calls leaves.
unfoldable pub after_generator_calls : MtcGenerator → List GeneratorCall → MtcGenerator
after_generator_calls g [] = g
after_generator_calls g (c ∷ cs) = after_generator_calls (after_generator_call g c) cs
