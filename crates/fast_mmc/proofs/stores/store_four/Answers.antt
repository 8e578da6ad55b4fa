-- `fast_mmc::stores::store_four` meets its contract. Assumes nothing.
use mathlib.Core.Path.{sym}
use native.Mathlib.Numerals.{unary_clauses}
use Rattle.universal.proofs.Laws.{overlay_sets}
use Rattle.fast_mmc.proofs.stores.store_four.Goals as goal

pub returns : goal.returns
returns c = simp unary_clauses (sym (overlay_sets c.args.out.now c.args.at _))
