-- `fast_mtc::receive::undirected` meets its contract. Assumes nothing.
use Rattle.fast_mtc.proofs.PassedPieces.{below_40, kept_undirected, kept_unlocked, second_forward, second_reverse, second_apart}
use borrow.Author.Rules.{rules}
use Rattle.fast_mtc.proofs.receive.undirected.Goals as goal

pub returns-then-order-p : goal.returns-then-order-p
returns-then-order-p c =
    second_forward _ _ _ _ c.told-r c.requires.0 (below_40 _ c.requires.1 c.if-order-eq-BEGUN_AT_0.false c.if-order-eq-BEGUN_AT_7.false) c.if-order-p.true c.go.ensures

pub returns-then-order-p-2 : goal.returns-then-order-p-2
returns-then-order-p-2 c =
    second_reverse _ _ _ _ c.told-r c.requires.0 (below_40 _ c.requires.1 c.if-order-eq-BEGUN_AT_0.false c.if-order-eq-BEGUN_AT_7.false) c.if-order-p.false c.if-order-p-2.true c.go-then-order-p-2.ensures

pub go_nowhere-requires : goal.go_nowhere-requires
go_nowhere-requires c = (search rules, kept_unlocked c.args.r.now c.told-r (kept_undirected c.args.r.now c.told-r c.requires.0 (below_40 _ c.requires.1 c.if-order-eq-BEGUN_AT_0.false c.if-order-eq-BEGUN_AT_7.false)))

pub returns : goal.returns
returns c = second_apart _ _ _ _ c.told-r c.requires.0 (below_40 _ c.requires.1 c.if-order-eq-BEGUN_AT_0.false c.if-order-eq-BEGUN_AT_7.false) c.if-order-p.false c.if-order-p-2.false c.go_nowhere.ensures
