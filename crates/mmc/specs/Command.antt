-- Commands with their names and data as bytes, and how mmc.rs reads them. Assumes nothing.
use Rattle.std.specs.Prelude.{ℕ, cond, List, ltb, eqb, length, get_or}
use Rattle.mmc.specs.declared.command.MmcCommand.{MmcCommand}
use Rattle.mmc.specs.declared.command.MmcCommand.TheVariants.{Stop, Play, DeferredPlay, FastForward, Rewind, RecordStrobe, RecordExit, Pause, Reset, Write, LocateField, LocateTarget, Move, Other}
use Rattle.mmc.specs.declared.length.Kind.TheVariants.{Commands}
use Rattle.mmc.specs.declared.part.Part.{Part}
use Rattle.codes.specs.declared.time_code.StandardTimeCode.{StandardTimeCode}
use Rattle.mmc.specs.Rp013Commands as P
use Rattle.mmc.specs.Split.{Next, next, next_as, parts_as}
use Rattle.codes.specs.TimeCode.{read_standard}

-- The case of a command, without the bytes of its own that a Write or another command has.
pub data CommandCase : Type 0 where
  stop play deferred_play fast_forward rewind record_strobe record_exit pause reset write other : CommandCase
  locate_field : ℕ → CommandCase
  locate_target : StandardTimeCode → CommandCase
  move : ℕ → ℕ → CommandCase

-- Locate (44H): sub-command 00H with a register that is not 0, 01H with five bytes of time code; data past these is passed over.
unfoldable pub read_locate : List ℕ → CommandCase
read_locate d =
    cond (ltb (length d) 2) other
    (cond (eqb (get_or d 0 0) 0) (cond (eqb (get_or d 1 0) 0) other (locate_field (get_or d 1 0)))
    (cond (eqb (get_or d 0 0) 1)
    (cond (ltb (length d) 6) other
    (locate_target (read_standard (get_or d 1 0) (get_or d 2 0) (get_or d 3 0) (get_or d 4 0) (get_or d 5 0)))) other))

-- Move (4CH): two names that are not 0.
unfoldable pub read_move : List ℕ → CommandCase
read_move d =
    cond (ltb (length d) 2) other
    (cond (eqb (get_or d 0 0) 0) other (cond (eqb (get_or d 1 0) 0) other (move (get_or d 0 0) (get_or d 1 0))))

-- A name of one byte, with its data.
unfoldable pub command_by_name : ℕ → List ℕ → CommandCase
command_by_name n d =
    cond (eqb n (P.byte_of P.Stop)) stop
    (cond (eqb n (P.byte_of P.Play)) play
    (cond (eqb n (P.byte_of P.DeferredPlay)) deferred_play
    (cond (eqb n (P.byte_of P.FastForward)) fast_forward
    (cond (eqb n (P.byte_of P.Rewind)) rewind
    (cond (eqb n (P.byte_of P.RecordStrobe)) record_strobe
    (cond (eqb n (P.byte_of P.RecordExit)) record_exit
    (cond (eqb n (P.byte_of P.Pause)) pause
    (cond (eqb n (P.byte_of P.MmcReset)) reset
    (cond (eqb n (P.byte_of P.Write)) write (cond (eqb n (P.byte_of P.Locate)) (read_locate d) (cond (eqb n (P.byte_of P.Move)) (read_move d) other)))))))))))

-- What a name and data are read as: a name with prefixes is no known command.
unfoldable pub read_command : List ℕ → List ℕ → CommandCase
read_command name d = cond (eqb (length name) 1) (command_by_name (get_or name 0 0) d) other

-- The case with the parts that its name and data are.
abbrev pub command_of_case : CommandCase → Part → Part → MmcCommand
command_of_case stop n d = Stop
command_of_case play n d = Play
command_of_case deferred_play n d = DeferredPlay
command_of_case fast_forward n d = FastForward
command_of_case rewind n d = Rewind
command_of_case record_strobe n d = RecordStrobe
command_of_case record_exit n d = RecordExit
command_of_case pause n d = Pause
command_of_case reset n d = Reset
command_of_case write n d = Write d
command_of_case (locate_field r) n d = LocateField r
command_of_case (locate_target c) n d = LocateTarget c
command_of_case (move a b) n d = Move a b
command_of_case other n d = Other n d

-- ---- the next command of a string

unfoldable pub next_command : List ℕ → ℕ → Next MmcCommand
next_command body place = next_as (parts_as (λ (x y : List ℕ). command_of_case (read_command x y)) body) (next Commands body place)
