-- What the contract of an inner function says. Assumes nothing.
use Rattle.std.specs.Prelude.{ℕ, cond, ◌&&◌, List, Some, None}
use Rattle.std.specs.Option.{option_or}
use Rattle.field_index.specs.Index.{Index, is_indexed, is_named}

-- An index with one more field, which counts where no field before it has the name.
unfoldable pub with_field : Index → ℕ → List ℕ → Index
with_field index place name n = option_or (index n) (cond (is_indexed n && is_named n name) (Some place) None)
