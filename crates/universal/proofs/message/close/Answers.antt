-- `universal::message::close` meets its contract: inside the buffer, at the largest position, or past the end. Assumes nothing.
use mathlib.Core.Path.{sym}
use native.Mathlib.Omega.{arith}
use Rattle.universal.proofs.Laws.{closing_fits, closing_short, closing_largest}
use Rattle.universal.proofs.message.close.Goals as goal

pub returns-then-at-out : goal.returns-then-at-out
returns-then-at-out c =
    record {
      result_value = sym (closing_fits _ _ (omega arith) (omega arith));
      out_after = c.put.ensures;
    }

pub returns-then-at-eq18446744073709551615 : goal.returns-then-at-eq18446744073709551615
returns-then-at-eq18446744073709551615 c =
    record {
      result_value = sym (closing_largest _ _ c.if-at-eq18446744073709551615.true (omega arith));
      out_after = c.put.ensures;
    }

pub returns : goal.returns
returns c =
    record {
      result_value = sym (closing_short _ _ (omega arith) (omega arith));
      out_after = c.put.ensures;
    }
