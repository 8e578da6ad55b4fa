-- Writers as numbers, and back; and the items of the calls that take no record. Assumes nothing.
use Rattle.universal.specs.declared.error.SysexError.{SysexError}
use Rattle.std.specs.Prelude.{ℕ, ◌+◌, ◌*◌, ◌/◌, ◌%◌, cond, List, eqb, length, Result, Ok, Err, ⊤}
use Rattle.fast_mmc.specs.Refusal.{flat_stop}
use Rattle.mmc.specs.Item.{command_item}
use Rattle.mmc.specs.Part.{part}
use Rattle.mmc.specs.Write.{Writing, writing_of, writing_after}
use Rattle.universal.specs.Emission.{Emission}
use Rattle.universal.specs.Refusals.{error_of}
use Rattle.mmc.specs.declared.command.MmcCommand.TheVariants.{Write, Other}
use Rattle.mmc.specs.declared.write.Writer.{Writer}

unfoldable pub checked_at : ℕ → ℕ → Result ⊤ SysexError
checked_at n needed = cond (eqb n 0) (Ok tt) (Err (error_of n needed))

-- The position in the lowest four bytes, the items in the next two, the refusal in the byte above them.
unfoldable pub writer_of : ℕ → Writer
writer_of w =
    record { at = w % 4294967296; items = w / 4294967296 % 65536; checked = checked_at (w / 281474976710656 % 256) 0 }

-- In the paper's numbers.
abbrev pub writing_at : ℕ → Writing
writing_at w = writing_of (writer_of w)

unfoldable pub flat_writer : Writing → ℕ
flat_writer w = w.at % 4294967296 + w.items % 65536 * 4294967296 + flat_stop w.stop * 281474976710656

-- The number of the writer after an item.
abbrev pub writer_after : ℕ → Emission → ℕ
writer_after w e = flat_writer (writing_after (writing_at w) e)

-- A Write of these data.
abbrev pub write_of_data : List ℕ → Emission
write_of_data d = command_item d (Write (part 0 (length d)))

-- Another command, whose name and then its data stand at the front of a source.
abbrev pub other_at_front : List ℕ → ℕ → ℕ → Emission
other_at_front source name d = command_item source (Other (part 0 name) (part name d))
