-- What mtc.rs does with full messages, on every input: one definition for each public call of src/full_message.rt.
-- Assumes nothing.
use Rattle.std.specs.Prelude.{ℕ, List, [], ◌∷◌, eqb, length, get_or, Option}
use Rattle.universal.specs.Emission.{Emission}
use Rattle.universal.specs.Refusals.{Answer}
use Rattle.universal.specs.declared.message.Universal.{Universal}
use Rattle.labels.specs.St12.{is_valid}
use Rattle.labels.specs.Time.{raw_time, hours_byte}
use Rattle.mtc.specs.Kind.{is_time_code, read_kind, write_kind}
use Rattle.mtc.specs.declared.full_message.FullMessage.{FullMessage}
use Rattle.labels.specs.declared.time.MtcTime.{MtcTime}

-- ---- reading

-- A full message of a device and a label.
abbrev pub full_message : ℕ → MtcTime → FullMessage
full_message device t = record { device_id = device; time = t }

-- The message of a device and of four data bytes, masked to their widths.
abbrev pub received_full : ℕ → List ℕ → FullMessage
received_full device bs = full_message device (raw_time (get_or bs 0 0) (get_or bs 1 0) (get_or bs 2 0) (get_or bs 3 0))

-- What reading a message and its data answers: a full message has sub-ID 2 01H and four data bytes.
unfoldable pub full_message_from : Universal → List ℕ → Answer (Option FullMessage)
full_message_from u bs = read_kind (is_time_code u 1) (eqb (length bs) 4) (received_full u.device_id bs)

-- ---- writing

-- The four data bytes: hours with the rate, minutes, seconds, frames.
abbrev pub full_data : MtcTime → List ℕ
full_data t = hours_byte t ∷ t.minutes ∷ t.seconds ∷ t.frames ∷ []

-- What writing a full message emits: 5 for the device, 3 for a label that is not valid, then sub-ID 2 01H and the data.
unfoldable pub full_message_written : FullMessage → Emission
full_message_written m = write_kind m.device_id (is_valid m.time) 1 (full_data m.time)
