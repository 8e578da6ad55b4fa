-- The names of one byte that mmc.rs knows: what each is read as, and what goes out for each. Assumes nothing.
use Rattle.std.specs.Prelude.{ℕ, ◌≡◌, List, [], ◌∷◌}
use Rattle.mmc.specs.declared.command.MmcCommand.TheVariants as C
use Rattle.mmc.specs.Command as K
use Rattle.mmc.specs.Command.{command_by_name, read_locate, read_move}
use Rattle.mmc.specs.Rp013Commands as P
use Rattle.mmc.specs.Item.{command_item}
use Rattle.universal.specs.Emission.{sent}

-- What each known name of one byte is read as, with its data.
pub record NamesRead (d : List ℕ) : Type 0 where
  pub stop : command_by_name (P.byte_of P.Stop) d ≡ K.stop
  pub play : command_by_name (P.byte_of P.Play) d ≡ K.play
  pub deferred_play : command_by_name (P.byte_of P.DeferredPlay) d ≡ K.deferred_play
  pub fast_forward : command_by_name (P.byte_of P.FastForward) d ≡ K.fast_forward
  pub rewind : command_by_name (P.byte_of P.Rewind) d ≡ K.rewind
  pub record_strobe : command_by_name (P.byte_of P.RecordStrobe) d ≡ K.record_strobe
  pub record_exit : command_by_name (P.byte_of P.RecordExit) d ≡ K.record_exit
  pub pause : command_by_name (P.byte_of P.Pause) d ≡ K.pause
  pub reset : command_by_name (P.byte_of P.MmcReset) d ≡ K.reset
  pub write : command_by_name (P.byte_of P.Write) d ≡ K.write
  pub locate : command_by_name (P.byte_of P.Locate) d ≡ read_locate d
  pub move : command_by_name (P.byte_of P.Move) d ≡ read_move d

-- The commands that are a name alone go out as this name.
pub record NamesSent (source : List ℕ) : Type 0 where
  pub stop : command_item source C.Stop ≡ sent (P.byte_of P.Stop ∷ [])
  pub play : command_item source C.Play ≡ sent (P.byte_of P.Play ∷ [])
  pub deferred_play : command_item source C.DeferredPlay ≡ sent (P.byte_of P.DeferredPlay ∷ [])
  pub fast_forward : command_item source C.FastForward ≡ sent (P.byte_of P.FastForward ∷ [])
  pub rewind : command_item source C.Rewind ≡ sent (P.byte_of P.Rewind ∷ [])
  pub record_strobe : command_item source C.RecordStrobe ≡ sent (P.byte_of P.RecordStrobe ∷ [])
  pub record_exit : command_item source C.RecordExit ≡ sent (P.byte_of P.RecordExit ∷ [])
  pub pause : command_item source C.Pause ≡ sent (P.byte_of P.Pause ∷ [])
  pub reset : command_item source C.Reset ≡ sent (P.byte_of P.MmcReset ∷ [])
