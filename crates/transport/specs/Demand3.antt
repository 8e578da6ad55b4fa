-- Demand 3, as document 01 reads it ("Sequence", second paragraph): a list of commands is written, its string is read back from the
-- bytes left in the buffer, its commands are applied one by one as they are read, and a reader gets the generator's next twenty-four
-- bytes, among which status bytes may slip in (document 02, #105). The lists are folded with the definitions in the contracts of the calls:
-- `string_answer` and `string_of` with those of the writer, `message_from` and `next_command` with those of the reading, `applied` with that
-- of the transport, `bytes_sent`, `after_calls` and `byte_answers` with those of generator and reader. Assumes nothing.
use Rattle.std.specs.Prelude.{ℕ, zero, suc, ◌≤◌, ◌≡◌, false, List, [], ◌∷◌, ◌++◌, T, Option, Some, None}
use Rattle.transport.specs.Transport.{Reply, Outcome, by_sign, resolved, applied}
use Rattle.mmc.specs.declared.command.MmcCommand.{MmcCommand}
use Rattle.mmc.specs.declared.command.MmcCommand.TheVariants.{LocateTarget, Play}
use Rattle.mmc.specs.declared.length.Kind.TheVariants.{Commands}
use Rattle.mmc.specs.declared.message.MmcMessage.{MmcMessage}
use Rattle.mmc.specs.declared.message.MmcMessage.TheVariants as M
use Rattle.codes.specs.declared.time_code.StandardTimeCode.{StandardTimeCode}
use Rattle.mmc.specs.Command.{next_command}
use Rattle.mmc.specs.Message.{message_from}
use Rattle.mmc.specs.Strings.{Given, given, Walk, walk, reads_of, commands_read}
use Rattle.mmc.specs.Writings.{string_answer, string_of, header_of, body_of}
use Rattle.labels.specs.St12.{is_valid}
use Rattle.mtc.specs.QuarterFrame.{heard}
use Rattle.mtc.specs.Stream.{Call, AnswersAmong, run_from, bytes_sent}
use Rattle.mtc.specs.declared.generator.Direction.TheVariants.{Forward, Reverse}
use Rattle.mtc.specs.declared.generator.MtcGenerator.{MtcGenerator}
use Rattle.labels.specs.declared.time.MtcTime.{MtcTime}
use Rattle.universal.specs.Message.{is_addressed}
use Rattle.universal.specs.Refusals.{Refusal, refusal, Answer, gives, refused}

-- ---- a string's commands, applied as they are read

-- What became of a string: the generator that came back last, the answer to each command, and the refusal that ended the reading.
pub record Run : Type 0 where
  pub generator : MtcGenerator
  pub answers : List (Answer Reply)
  pub stop : Refusal

-- Nothing more is read.
abbrev pub over : MtcGenerator → Refusal → Run
over g r = record { generator = g; answers = []; stop = r }

-- The answer to a command, before what becomes of those behind it.
abbrev pub answered : Outcome → Run → Run
answered o rest = record { generator = rest.generator; answers = o.answer ∷ rest.answers; stop = rest.stop }

-- What becomes of a command that is read; a refused read is the last.
abbrev pub on_read : {A : Type 0} → Answer A → (A → Run) → MtcGenerator → Run
on_read (gives c) act g = act c
on_read (refused r) act g = over g r

-- Commands for a device, read from a place on and applied to the generator of the device `own`: whatever a command is answered, the
-- next one is read from the place after it and gets the generator that came back. At most so many reads; after the last of these it
-- stops with 0, which no read gives.
unfoldable pub obey_from : ℕ → List ℕ → ℕ → ℕ → ℕ → MtcGenerator → Run
obey_from zero body device own place g = over g (refusal 0)
obey_from (suc most) body device own place g =
    on_read (next_command body place).answer
    (λ c.
    answered (applied g device own c)
    (obey_from most body device own (next_command body place).place (applied g device own c).generator)) g

-- All commands of a message's data, from the front until a read is refused.
abbrev pub obey : List ℕ → ℕ → ℕ → MtcGenerator → Run
obey body device own g = obey_from (reads_of body) body device own 0 g

-- Commands are obeyed, for the device that the message names; anything else changes nothing.
abbrev pub obey_message : Answer (Option MmcMessage) → List ℕ → ℕ → MtcGenerator → Run
obey_message (gives (Some (M.Commands device))) body own g = obey body device own g
obey_message (gives (Some (M.Responses device))) body own g = over g (refusal 0)
obey_message (gives None) body own g = over g (refusal 0)
obey_message (refused r) body own g = over g r

-- What became of a string that was read back.
unfoldable pub obeyed : List ℕ → ℕ → MtcGenerator → Run
obeyed s own g = obey_message (message_from (header_of s) (body_of s)) (body_of s) own g

-- ---- commands applied one by one

-- The generator after commands for a device, applied one by one.
unfoldable pub applied_all : ℕ → ℕ → MtcGenerator → List MmcCommand → MtcGenerator
applied_all device own g [] = g
applied_all device own g (c ∷ cs) = applied_all device own (applied g device own c).generator cs

-- The answer to each.
unfoldable pub answers_to : ℕ → ℕ → MtcGenerator → List MmcCommand → List (Answer Reply)
answers_to device own g [] = []
answers_to device own g (c ∷ cs) = (applied g device own c).answer ∷ answers_to device own (applied g device own c).generator cs

-- What becomes of the commands of a walk, applied one by one.
abbrev pub applied_walk : ℕ → ℕ → MtcGenerator → Walk MmcCommand → Run
applied_walk device own g w =
    record { generator = applied_all device own g w.items; answers = answers_to device own g w.items; stop = w.stop }

-- ---- the claim

-- The commands read end with Locate to a target that resolves to T, and Play.
pub record EndsAt (s : List ℕ) (t : MtcTime) : Type 0 where
  pub before : List MmcCommand
  pub target : StandardTimeCode
  pub read : (commands_read (body_of s)).items ≡ before ++ (LocateTarget target ∷ Play ∷ [])
  pub resolves : resolved target ≡ Some t

-- What demand 3 promises of a string for a device, a transport's own device and generator, a reader's calls before, and T.
pub record Promised (s : List ℕ) (device own : ℕ) (g : MtcGenerator) (calls : List Call) (t : MtcTime) : Type 0 where
  -- it reads back as commands for the device
  pub message : message_from (header_of s) (body_of s) ≡ gives (Some (M.Commands device))
  -- its commands are read to the end
  pub whole : (obeyed s own g).stop ≡ refusal 9
  -- each of them is answered, as the transport answers it
  pub each : (obeyed s own g).answers ≡ answers_to device own g (commands_read (body_of s)).items
  -- T is a valid time
  pub valid : T (is_valid t)
  -- what the reader answers to the generator's next twenty-four bytes, with any bytes that are not heard among them
  pub answers : (bs : List ℕ) → heard bs ≡ bytes_sent 24 (obeyed s own g).generator → AnswersAmong calls Forward t bs

-- Demand 3: for every list of commands, each with its lent source, whose writing into any buffer is accepted (its close answers a
-- length, which is so just where none of its calls is refused: `accepted_none_refused` of mmc), every device that addresses the
-- transport's own, any generator, and any list of calls that the reader got before, from fresh on, refused ones included.
abbrev pub Demand3 : Type 0
Demand3 =
    (gs : List (Given Commands)) (device own : ℕ) (out : List ℕ) (n : ℕ) (g : MtcGenerator) (calls : List Call) (t : MtcTime)
    → string_answer Commands device gs out ≡ gives n → own ≤ 127 → T (is_addressed device own)
    → EndsAt (string_of Commands device gs out n) t
    → Promised (string_of Commands device gs out n) device own g calls t

-- In reverse: the generator located at T and set running in reverse, in place of the string.
abbrev pub Demand3Reverse : Type 0
Demand3Reverse =
    (g : MtcGenerator) (calls : List Call) (t : MtcTime) (bs : List ℕ) → T (is_valid t)
    → heard bs ≡ bytes_sent 24 (run_from g t Reverse) → AnswersAmong calls Reverse t bs

-- A list that is written with Locate to a target and Play at its end.
abbrev pub ending_at : List (Given Commands) → List ℕ → List ℕ → StandardTimeCode → List (Given Commands)
ending_at gs a b c = gs ++ (given Commands a (LocateTarget c) ∷ given Commands b Play ∷ [])

-- A list that is written with Locate to a target and Play at its end keeps the promise for a label.
abbrev pub WrittenFor : StandardTimeCode → MtcTime → Type 0
WrittenFor c t =
    (gs : List (Given Commands)) (a b : List ℕ) (device own : ℕ) (out : List ℕ) (n : ℕ) (g : MtcGenerator) (calls : List Call)
    → string_answer Commands device (ending_at gs a b c) out ≡ gives n → own ≤ 127 → T (is_addressed device own)
    → Promised (string_of Commands device (ending_at gs a b c) out n) device own g calls t

-- Demand 3 by what is written: the target's time is valid and not blank. T is this time; where the target is negative, T lies as many labels
-- before midnight (document 02, #103).
abbrev pub Demand3Written : Type 0
Demand3Written = (c : StandardTimeCode) → T (is_valid c.time) → c.blank ≡ false → WrittenFor c (by_sign c.negative c.time)

-- ---- what acts, and what holds nothing up

-- In any data, the commands before the refusal that ends the reading have acted.
abbrev pub ReadActs : Type 0
ReadActs =
    (body : List ℕ) (device own : ℕ) (g : MtcGenerator)
    → obey body device own g ≡ applied_walk device own g (commands_read body)

-- Commands before a split refusal 2 have acted: data that is read to its end, and then bytes that cannot be split.
abbrev pub CutActs : Type 0
CutActs =
    (a b : List ℕ) (device own : ℕ) (g : MtcGenerator) → (commands_read a).stop ≡ refusal 9
    → walk Commands b 0 ≡ record { items = []; stop = refusal 2 }
    → obey (a ++ b) device own g
    ≡ record { generator = (obey a device own g).generator; answers = (obey a device own g).answers; stop = refusal 2 }

-- A refused command, by 7 or by 5, does not hold up those behind it: they find the generator as if it had not been there.
abbrev pub RefusedPasses : Type 0
RefusedPasses =
    (before behind : List MmcCommand) (c : MmcCommand) (device own : ℕ) (g : MtcGenerator) (r : Refusal)
    → (applied (applied_all device own g before) device own c).answer ≡ refused r
    → applied_all device own g (before ++ (c ∷ behind)) ≡ applied_all device own g (before ++ behind)
