-- What a buffer holds after bytes were put into it at a position. Assumes nothing.
use Rattle.std.specs.Prelude.{ℕ, List}
use Rattle.std.proofs.lemmas.List.Edits.{sets}

-- The bytes from position `at` on, as far as they fit, one after the other; all others as found.
unfoldable pub overlay : List ℕ → ℕ → List ℕ → List ℕ
overlay out at bytes = sets out at bytes
