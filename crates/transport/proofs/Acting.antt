-- What a command does, by cases, for the calls' proofs. Assumes nothing.
use Rattle.std.specs.Prelude.{Option, Some, None}
use Prim.Native.Nat.{ℕ, ◌≤◌, ◌<◌}
use mathlib.Core.Path.{◌≡◌}
use mathlib.Core.Bool.{Bool, true, false, cond, ◌&&◌}
use lib.Dec.{T, leb}
use borrow.Author.Tests.{le-leb, lt-leb}
use Rattle.mmc.specs.declared.command.MmcCommand.{MmcCommand}
use Rattle.mmc.specs.declared.command.MmcCommand.TheVariants.{Stop, Play, DeferredPlay, FastForward, Rewind, RecordStrobe, RecordExit, Pause, Reset, Write, LocateField, LocateTarget, Move, Other}
use Rattle.mtc.specs.Reader.{piece_fits}
use Rattle.mtc.specs.declared.generator.MtcGenerator.{MtcGenerator}
use Rattle.labels.specs.declared.time.MtcTime.{MtcTime}
use Rattle.universal.specs.Message.{is_addressed}
use Rattle.universal.specs.Refusals.{gives}
use Rattle.transport.specs.Transport.{resolved, NotMine, unchanged, locate_outcome, acted, applied}

-- ---- a call

-- A device above 127, as the message's or as its own.
pub device_above : (g : MtcGenerator) (device own : ℕ) (c : MmcCommand) → 127 < device → unchanged g 5 ≡ applied g device own c
unfolding applied
device_above g device own c h = rw (lt-leb device 127 h)

pub own_above : (g : MtcGenerator) (device own : ℕ) (c : MmcCommand) → device ≤ 127 → 127 < own → unchanged g 5 ≡ applied g device own c
unfolding applied
own_above g device own c h k = rw (le-leb device 127 h, lt-leb own 127 k)

-- A message for another device.
pub not_mine_lem : (g : MtcGenerator) (device own : ℕ) (c : MmcCommand) → device ≤ 127 → own ≤ 127 → is_addressed device own ≡ false
    → record { generator = g; answer = gives NotMine } ≡ applied g device own c
unfolding applied
not_mine_lem g device own c h k a = rw (le-leb device 127 h, le-leb own 127 k, a)

-- A message that addresses it.
pub mine : (g : MtcGenerator) (device own : ℕ) (c : MmcCommand) → device ≤ 127 → own ≤ 127 → is_addressed device own ≡ true
    → applied g device own c ≡ acted g c
unfolding applied
mine g device own c h k a = rw (le-leb device 127 h, le-leb own 127 k, a)

-- ---- a generator's last piece

locate_fits : (g : MtcGenerator) (t : Option MtcTime) → T (piece_fits g.last) → T (piece_fits (locate_outcome g t).generator.last)
locate_fits g None h = h
locate_fits g (Some t) h = tt

acted_fits : (g : MtcGenerator) (c : MmcCommand) → T (piece_fits g.last) → T (piece_fits (acted g c).generator.last)
unfolding acted
acted_fits g Stop h = h
acted_fits g Play h = h
acted_fits g DeferredPlay h = h
acted_fits g FastForward h = h
acted_fits g Rewind h = h
acted_fits g RecordStrobe h = h
acted_fits g RecordExit h = h
acted_fits g Pause h = h
acted_fits g Reset h = h
acted_fits g (Write d) h = h
acted_fits g (LocateField r) h = h
acted_fits g (LocateTarget c) h = locate_fits g (resolved c) h
acted_fits g (Move d s) h = h
acted_fits g (Other n d) h = h

-- A command leaves no last piece above 7 where there was none.
pub applied_fits : (g : MtcGenerator) (device own : ℕ) (c : MmcCommand) → T (piece_fits g.last)
    → T (piece_fits (applied g device own c).generator.last)
unfolding applied
applied_fits g device own c h = go (leb device 127 && leb own 127) (is_addressed device own)
  where
    go : (b a : Bool)
        → T (piece_fits (cond b (cond a (acted g c) (record { generator = g; answer = gives NotMine })) (unchanged g 5)).generator.last)
    go true true = acted_fits g c h
    go true false = h
    go false a = h
