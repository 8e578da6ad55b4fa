-- What `obey_next` and `obey` answer: one command read and applied, and what became of all of a message's data, by the run that
-- demand 3 defines. Assumes nothing.
use Rattle.std.specs.Prelude.{ℕ, ◌+◌, List, [], ◌∷◌, length, Result, Ok, Err}
use Rattle.transport.specs.declared.run.Obeyed.{Obeyed}
use Rattle.transport.specs.declared.run.Turn.{Turn}
use Rattle.transport.specs.declared.run.TurnReply.{TurnReply}
use Rattle.universal.specs.declared.error.SysexError.{SysexError}
use Rattle.transport.specs.Demand3.{Run}
use Rattle.transport.specs.Transport.{Reply, Outcome, applied}
use Rattle.mmc.specs.declared.command.MmcCommand.{MmcCommand}
use Rattle.mmc.specs.Command.{next_command}
use Rattle.mtc.specs.declared.generator.MtcGenerator.{MtcGenerator}
use Rattle.universal.specs.Refusals.{Refusal, Answer, gives, refused, refusal_of, answer_of}

-- ---- one command

-- A command that was read, and the transport's answer to it.
pub record CommandReply : Type 0 where
  pub command : MmcCommand
  pub reply : Answer Reply

-- One read: the generator that came back, the command with its answer or the refusal that ends the reading, and the place to read
-- on from.
pub record TurnOutcome : Type 0 where
  pub generator : MtcGenerator
  pub told : Answer CommandReply
  pub place : ℕ

-- What is read at a place is given to the transport; a refused read leaves the generator.
abbrev pub turn_by : Answer MmcCommand → ℕ → (MmcCommand → Outcome) → MtcGenerator → TurnOutcome
turn_by (gives c) place act g =
    record { generator = (act c).generator; told = gives (record { command = c; reply = (act c).answer }); place = place }
turn_by (refused r) place act g = record { generator = g; told = refused r; place = place }

unfoldable pub obey_next : List ℕ → ℕ → ℕ → ℕ → MtcGenerator → TurnOutcome
obey_next body device own place g =
    turn_by (next_command body place).answer (next_command body place).place (λ c. applied g device own c) g

-- The answer, in the paper's numbers.
abbrev pub command_reply_of : Result TurnReply SysexError → Answer CommandReply
command_reply_of (Ok t) = gives (record { command = t.command; reply = answer_of t.reply })
command_reply_of (Err e) = refused (refusal_of e)

abbrev pub turn_of : Turn → TurnOutcome
turn_of t = record { generator = t.generator; told = command_reply_of t.answer; place = t.place }

-- ---- all commands

-- 1 for a refusal.
unfoldable pub one_refused : Answer Reply → ℕ
one_refused (gives r) = 0
one_refused (refused e) = 1

-- How many of some answers are refusals.
unfoldable pub refused_in : List (Answer Reply) → ℕ
refused_in [] = 0
refused_in (a ∷ rest) = one_refused a + refused_in rest

-- A run by its generator, its commands and refusals in numbers, and the refusal that ended the reading.
pub record Summary : Type 0 where
  pub generator : MtcGenerator
  pub commands : ℕ
  pub refused : ℕ
  pub stop : Refusal

abbrev pub summed_up : MtcGenerator → ℕ → ℕ → Refusal → Summary
summed_up g commands refusals stop = record { generator = g; commands = commands; refused = refusals; stop = stop }

-- That of a run, after so many commands and refusals before it.
unfoldable pub summary_after : ℕ → ℕ → Run → Summary
summary_after commands refusals r =
    summed_up r.generator (commands + length r.answers) (refusals + refused_in r.answers) r.stop

unfoldable pub summary : Run → Summary
summary r = summary_after 0 0 r

-- The code's own form of it.
abbrev pub obeyed_of : Obeyed → Summary
obeyed_of o = summed_up o.generator o.commands o.refused (refusal_of o.stop)
