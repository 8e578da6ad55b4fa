-- `universal::message::Universal::open` meets its contract: refused for the device, or as the family's opening goes. Assumes nothing.
use native.Mathlib.Omega.{arith}
use Rattle.universal.proofs.Openings.{device_against}
use Rattle.universal.proofs.message.Universal.open.Goals as goal

pub returns-then-self-gt127 : goal.returns-then-self-gt127
returns-then-self-gt127 c = device_against _ _ (omega arith)
