-- A part of lent bytes, by its start and length. Assumes nothing.
use Rattle.std.specs.Prelude.{ℕ, ◌-◌, Bool, cond, ◌&&◌, List, [], leb, length, take, drop}
use Rattle.mmc.specs.declared.part.Part.{Part}

-- It starts in the bytes or at their end, and does not run past it.
unfoldable pub is_inside : List ℕ → Part → Bool
is_inside bytes p = leb p.start (length bytes) && leb p.len (length bytes - p.start)

-- Its bytes; none where it does not lie inside.
unfoldable pub part_of : List ℕ → Part → List ℕ
part_of bytes p = cond (is_inside bytes p) (take p.len (drop p.start bytes)) []

abbrev pub part : ℕ → ℕ → Part
part start len = record { start = start; len = len }
