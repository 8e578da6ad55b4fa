-- `codes::time_code::StandardTimeCode::to_bytes`: a label that passed its check fits its widths. Assumes nothing.
use native.Mathlib.Omega.{arith}
use Rattle.codes.proofs.LabelWidths.{label_widths}
use Rattle.codes.proofs.time_code.StandardTimeCode.to_bytes.Goals as goal

pub overflow_add-mn : goal.overflow_add-mn
overflow_add-mn c = omega (arith, (label_widths _ _ c.is_valid.ensures c.if-not-is_valid.false).minutes)

pub frames_byte-fr-requires : goal.frames_byte-fr-requires
frames_byte-fr-requires c = (label_widths _ _ c.is_valid.ensures c.if-not-is_valid.false).frames
