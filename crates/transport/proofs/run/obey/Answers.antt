-- `transport::run::obey` meets its contract. The loop's invariant: what the commands so far and the run from the place on give is the
-- whole, and no more commands were read than bytes. The measure is the bytes left. Assumes nothing.
use native.Mathlib.Omega.{arith}
use Rattle.transport.specs.Obey.{summary}
use Rattle.transport.proofs.Running.{on_turn, last_turn, next_turn}
use Rattle.transport.proofs.run.obey.Goals as goal

pub returns-in-Err : goal.returns-in-Err
unfolding summary
returns-in-Err c =
    let turn = c.obey_next-turn in
    last_turn _ _ _ _ _ turn.result turn.ensures _ _ _ c.loop-told.invariant.1.1.1 _ c.in-Err.is

pub loop-told-smaller : goal.loop-told-smaller
loop-told-smaller c =
    let turn = c.obey_next-turn in
    let t = on_turn _ _ _ _ _ turn.result turn.ensures _ _ c.in-Ok.is in
    omega (arith, t.0, t.1)

pub loop-told-preserved : goal.loop-told-preserved
loop-told-preserved c =
    let turn = c.obey_next-turn in
    let given = c.in-Ok.is in
    let t = on_turn _ _ _ _ _ turn.result turn.ensures _ _ given in (
      omega (arith, t.0),
      (
        omega (arith, c.one_refused-refused.ensures.1),
        (
          t.1,
          next_turn _ _ _ _ _ turn.result turn.ensures _ _ _ c.loop-told.invariant.1.1.1 _ _
              c.one_refused-refused.result given (omega (arith, t.0, t.1)) c.one_refused-refused.ensures.0,
        ),
      ),
    )
