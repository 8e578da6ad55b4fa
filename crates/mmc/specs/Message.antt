-- Machine control messages, as mmc.rs reads them from the five split parts of a Universal message. Assumes nothing.
use Rattle.std.specs.Prelude.{ℕ, Bool, true, false, cond, List, eqb, length, Option, Some, None}
use Rattle.mmc.specs.declared.message.MmcMessage.{MmcMessage}
use Rattle.mmc.specs.declared.message.MmcMessage.TheVariants.{Commands, Responses}
use Rattle.universal.specs.Refusals.{Answer, gives, refused, refusal}
use Rattle.universal.specs.declared.message.Universal.{Universal}

-- A string of its own: 2 where it is empty.
abbrev pub with_string : MmcMessage → List ℕ → Answer (Option MmcMessage)
with_string m d = cond (eqb (length d) 0) (refused (refusal 2)) (gives (Some m))

-- Real Time with sub-ID 1 06H is commands, with 07H responses; a sub-ID 2 is not looked at.
unfoldable pub message_from : Universal → List ℕ → Answer (Option MmcMessage)
message_from u d =
    cond u.real_time
    (cond (eqb u.sub_id1 6) (with_string (Commands u.device_id) d)
    (cond (eqb u.sub_id1 7) (with_string (Responses u.device_id) d) (gives None)))
    (gives None)

-- The same by its class, by whether its sub-ID 1 is 06H or 07H, and by whether its string is empty.
abbrev pub message_by : (real_time commands responses empty : Bool) → ℕ → Answer (Option MmcMessage)
message_by true true responses true device = refused (refusal 2)
message_by true true responses false device = gives (Some (Commands device))
message_by true false true true device = refused (refusal 2)
message_by true false true false device = gives (Some (Responses device))
message_by true false false empty device = gives None
message_by false commands responses empty device = gives None
