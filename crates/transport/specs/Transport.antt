-- What the transport does, on every input (document 01, "Transport", refusals 5 and 7; the sign of a target, document 02, #103): what a
-- Locate target resolves to, what each command does to a generator, and what one call answers. Assumes nothing.
use Rattle.std.specs.Prelude.{ℕ, zero, suc, pos, neg_ℤ, Bool, true, false, cond, ◌&&◌, leb, Option, Some, None, option_map}
use Rattle.transport.specs.declared.transport.Applied.{Applied}
-- What became of a command that was not refused: done, or it is for another device.
pub use Rattle.transport.specs.declared.transport.Reply.{Reply}
pub use Rattle.transport.specs.declared.transport.Reply.TheVariants.{Done, NotMine}
use Rattle.mmc.specs.declared.command.MmcCommand.{MmcCommand}
use Rattle.mmc.specs.declared.command.MmcCommand.TheVariants.{Stop, Play, DeferredPlay, FastForward, Rewind, RecordStrobe, RecordExit, Pause, Reset, Write, LocateField, LocateTarget, Move, Other}
use Rattle.codes.specs.declared.time_code.StandardTimeCode.{StandardTimeCode}
use Rattle.mtc.specs.Generator.{with_running, with_direction, located}
use Rattle.labels.specs.St12.{label, is_valid, label_before}
use Rattle.labels.specs.Time.{next_valid, frame_count, add_frames}
use Rattle.mtc.specs.declared.generator.Direction.TheVariants.{Forward}
use Rattle.mtc.specs.declared.generator.MtcGenerator.{MtcGenerator}
use Rattle.labels.specs.declared.time.MtcTime.{MtcTime}
use Rattle.labels.specs.declared.time.TimeCodeType.{TimeCodeType}
use Rattle.universal.specs.Message.{is_addressed}
use Rattle.universal.specs.Refusals.{Answer, gives, refused, refusal, answer_of}

-- ---- a Locate target

-- The day's first label.
abbrev pub midnight : TimeCodeType → MtcTime
midnight r = label r 0 0 0 0

-- A label's count taken backwards from midnight; minus zero is zero.
unfoldable pub before_midnight : MtcTime → MtcTime
before_midnight t = add_frames (midnight t.rate) (neg_ℤ (pos (frame_count t)))

-- Where a target with a valid label goes, by its sign.
abbrev pub by_sign : Bool → MtcTime → MtcTime
by_sign negative t = cond negative (before_midnight t) t

-- A valid label, or none.
abbrev pub if_valid : MtcTime → Option MtcTime
if_valid t = cond (is_valid t) (Some t) None

-- What a target resolves to: a skipped label is first moved by `next_valid`; a blank target, and one still invalid, is none; then a
-- negative one goes before midnight. Subframes are unread.
unfoldable pub resolved : StandardTimeCode → Option MtcTime
resolved c = cond c.blank None (option_map (by_sign c.negative) (if_valid (next_valid c.time)))

-- ---- what "before midnight" means, by ST 12-1

-- So many labels back, one by one.
unfoldable pub labels_back : ℕ → MtcTime → MtcTime
labels_back zero t = t
labels_back (suc n) t = label_before (labels_back n t)

-- ---- what a call answers

-- The answer to a command, and the generator that comes back.
pub record Outcome : Type 0 where
  pub generator : MtcGenerator
  pub answer : Answer Reply

-- So in the paper's numbers.
abbrev pub applied_of : Applied → Outcome
applied_of a = record { generator = a.generator; answer = answer_of a.answer }

-- Done, with this generator.
abbrev pub finished : MtcGenerator → Outcome
finished g = record { generator = g; answer = gives Done }

-- Refused by a number: the generator is unchanged.
abbrev pub unchanged : MtcGenerator → ℕ → Outcome
unchanged g n = record { generator = g; answer = refused (refusal n) }

-- Done, with the generator that was left; 7 where there is none.
abbrev pub outcome_with : MtcGenerator → Option MtcGenerator → Outcome
outcome_with g (Some left) = finished left
outcome_with g None = unchanged g 7

-- ---- the commands

-- Stopped.
abbrev pub stopped : MtcGenerator → MtcGenerator
stopped g = with_running g false

-- Running forward.
abbrev pub playing : MtcGenerator → MtcGenerator
playing g = with_running (with_direction g Forward) true

-- Located at a target and stopped; 7 where it resolves to none.
abbrev pub locate_outcome : MtcGenerator → Option MtcTime → Outcome
locate_outcome g (Some t) = finished (stopped (located g t))
locate_outcome g None = unchanged g 7

-- What a command does to a generator.
unfoldable pub acted : MtcGenerator → MmcCommand → Outcome
acted g Stop = finished (stopped g)
acted g Play = finished (playing g)
acted g DeferredPlay = finished (playing g)
acted g FastForward = finished g
acted g Rewind = finished g
acted g RecordStrobe = finished g
acted g RecordExit = finished g
acted g Pause = finished (stopped g)
acted g Reset = finished g
acted g (Write d) = finished g
acted g (LocateField r) = finished g
acted g (LocateTarget c) = locate_outcome g (resolved c)
acted g (Move d s) = finished g
acted g (Other n d) = finished g

-- A command of a message for a device, given to the transport of the device `own`: 5 for a device above 127, as message's or own; "not
-- mine" for a message that does not address it; else what the command does.
unfoldable pub applied : MtcGenerator → ℕ → ℕ → MmcCommand → Outcome
applied g device own c =
    cond (leb device 127 && leb own 127)
    (cond (is_addressed device own) (acted g c) (record { generator = g; answer = gives NotMine }))
    (unchanged g 5)
