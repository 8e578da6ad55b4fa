-- The numbers of a valid label fit the widths of RP-004/008. Assumes nothing.
use lib.Dec.{T}
use Rattle.labels.specs.St12.{is_valid}
use Rattle.labels.specs.declared.time.MtcTime.{MtcTime}
use Rattle.labels.proofs.Laws as labels
use Rattle.labels.proofs.Laws.{Widths}
use Rattle.mtc.specs.Rp004.{InWidths}

pub valid_in_widths : (t : MtcTime) → T (is_valid t) → InWidths t
valid_in_widths t v =
    let w : Widths t = labels.valid_widths t v in
    record { frames = w.frames; seconds = w.seconds; minutes = w.minutes; hours = w.hours }
