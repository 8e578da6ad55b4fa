-- `field_index::index::keep_first` meets its contract: the cell that a place is stored in was empty, and is the one of the name's only
-- byte. Assumes nothing.
use Rattle.std.proofs.Common.{rules}
use mathlib.Core.Path.{◌≡◌}
use lib.ListN.{length, get_or}
use Rattle.field_index.proofs.Cells.{kept_field}
use Rattle.field_index.proofs.index.keep_first.Goals as goal

pub returns : goal.returns
returns c =
    let one : length c.args.name.now ≡ 1 = search rules in
    let empty : get_or c.args.cells.now (get_or c.args.name.now 0 0) 0 ≡ 0 = search rules in
    kept_field _ _ _ one (search rules) (search rules) empty
