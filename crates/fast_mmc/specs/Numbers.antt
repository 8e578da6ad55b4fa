-- The answer of a writing in numbers. Assumes nothing.
use Rattle.std.specs.Prelude.{ℕ}
use Rattle.fast_mmc.specs.declared.numbers.WrittenNumbers.{WrittenNumbers}
use Rattle.universal.specs.Refusals.{Answer, gives, refused, needed_of}

-- Refusal 0 and the length, or the refusal and its needed length.
unfoldable pub written_numbers : Answer ℕ → WrittenNumbers
written_numbers (gives n) = record { refusal = 0; length = n }
written_numbers (refused r) = record { refusal = r.number; length = needed_of r }
