-- `mtc::reader::MtcReader::hear`: count and nibbles of a sound record. Assumes nothing.
use mathlib.Core.Path.{ap, ◌∙◌}
use native.Mathlib.Omega.{arith}
use Rattle.universal.specs.Refusals.{gives}
use Rattle.mtc.proofs.ReaderCalls.{fit_set, sound_count, sound_nibbles, keeps}
use Rattle.mtc.proofs.reader.MtcReader.hear.Goals as goal

pub number_of-n-requires : goal.number_of-n-requires
number_of-n-requires c = sound_count _ c.requires.0

pub complete-requires : goal.complete-requires
complete-requires c = rw c.stored-s.ensures (fit_set 8 _ _ _ (sound_nibbles _ c.requires.0) c.requires.1.1)

pub returns : goal.returns
returns c =
    keeps _ _ _ c.order_of-o.ensures c.number_of-n.ensures.0 (λ e. omega (arith, e)) (λ e. omega (arith, e)) (c.gave-2.ensures.0 ∙ c.stored-s.ensures) (c.gave-2.ensures.1 ∙ ap gives c.event-2.ensures)
