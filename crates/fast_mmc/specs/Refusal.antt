-- A check's refusal as a number. Assumes nothing.
use Rattle.std.specs.Prelude.{ℕ, Option, Some, None}
use Rattle.universal.specs.Refusals.{Refusal}

-- The number of the refusal that ended a writing, 0 where none did.
unfoldable pub flat_stop : Option Refusal → ℕ
flat_stop None = 0
flat_stop (Some r) = r.number
