-- `fast_mtc::receive::after_none` meets its contract. Assumes nothing.
use Rattle.fast_mtc.proofs.PassedPieces.{first_of_all, way_forward, way_reverse, way_none}
use Rattle.fast_mtc.proofs.receive.after_none.Goals as goal

pub returns-then-order-eq-STOPPED_FORWARD : goal.returns-then-order-eq-STOPPED_FORWARD
returns-then-order-eq-STOPPED_FORWARD c = first_of_all _ _ _ _ _ c.requires (way_forward _ c.if-order-eq-STOPPED_FORWARD.true) c.go.ensures

pub returns-then-order-eq-STOPPED_REVERSE : goal.returns-then-order-eq-STOPPED_REVERSE
returns-then-order-eq-STOPPED_REVERSE c = first_of_all _ _ _ _ _ c.requires (way_reverse _ c.if-order-eq-STOPPED_REVERSE.true) c.go-then-order-eq-STOPPED_REVERSE.ensures

pub returns : goal.returns
returns c = first_of_all _ _ _ _ _ c.requires (way_none _ c.requires c.if-order-eq-STOPPED_FORWARD.false c.if-order-eq-STOPPED_REVERSE.false) c.go_nowhere.ensures
