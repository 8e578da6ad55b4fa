-- Writing a string, as mmc.rs does it on a whole list: opened, given items one at a time, closed. Document 01 adds refusals 5, 6
-- and 10 and their order. Assumes nothing.
use Rattle.std.specs.Prelude.{ℕ, ◌+◌, true, not, cond, ◌&&◌, List, [], ◌∷◌, leb, ltb, eqb, length, Option, Some, None}
use Rattle.mmc.specs.declared.write.Writer.{Writer}
use Rattle.mmc.specs.Length.{within}
use Rattle.mmc.specs.Named.{Extent, stop_of, extent_of}
use Rattle.universal.specs.Refusals.{Refusal, refusal, Answer, gives, refused}
use Rattle.universal.specs.Emission.{Emission, sent, check, resume, ◌then◌, answer_in}
use Rattle.universal.specs.Message.{opening, header}
use Rattle.universal.specs.Overlay.{overlay}

-- A writing: the position after the bytes so far, the items accepted, and the refusal that ended it, if any did.
pub record Writing : Type 0 where
  pub at : ℕ
  pub items : ℕ
  pub stop : Option Refusal

-- A writer, in the paper's numbers.
abbrev pub writing_of : Writer → Writing
writing_of w = record { at = w.at; items = w.items; stop = stop_of w.checked }

-- A writer with over 256 items or a position above 40,000, which no calls leave, is failed by 10.
unfoldable pub or_failed : Writing → Writing
or_failed w =
    cond (leb w.items 256 && leb w.at 40000) w (record { at = w.at; items = w.items; stop = Some (refusal 10) })

-- ---- opening

-- F0H, 7FH, the device, 06H.
unfoldable pub opened_commands : ℕ → Emission
opened_commands device = opening (header true device 6 None)

-- 5, then 3 for device 7FH, then F0H, 7FH, the device, 07H.
unfoldable pub opened_responses : ℕ → Emission
opened_responses device =
    check (leb device 127) 5 then check (not (eqb device 127)) 3 then opening (header true device 7 None)

-- The writing after its opening.
unfoldable pub begun : Emission → Writing
begun e = record { at = length e.bytes; items = 0; stop = e.stop }

-- A string of fields has no envelope.
abbrev pub opened_fields : Writing
opened_fields = record { at = 0; items = 0; stop = None }

-- The writing after an opening that came to a position, or was refused.
abbrev pub opens_at : Answer ℕ → Writing
opens_at (gives n) = record { at = n; items = 0; stop = None }
opens_at (refused r) = record { at = 0; items = 0; stop = Some r }

-- ---- items

-- The refusal that a writing has for its next item, if any: its own, or 10 where 256 were accepted.
unfoldable pub ready : Writing → Option Refusal
ready w = (resume [] (or_failed w).stop (check (ltb w.items 256) 10)).stop

-- What goes out of an item: nothing where the writing has a refusal, else its own.
unfoldable pub admitted : Writing → Emission → Emission
admitted w e = resume [] (ready w) e

-- The buffer after an item.
abbrev pub out_after : Writing → List ℕ → Emission → List ℕ
out_after w out e = overlay out w.at (admitted w e).bytes

-- One more item where it was accepted.
abbrev pub item_count_after : Option Refusal → ℕ → ℕ
item_count_after None n = n + 1
item_count_after (Some r) n = n

-- The writing after so many bytes of an item, and the refusal that ended it, if any did.
abbrev pub writing_past : Writing → Extent → Writing
writing_past w o = record { at = w.at + o.len; items = item_count_after o.stop w.items; stop = o.stop }

-- The writing after an item.
unfoldable pub writing_after : Writing → Emission → Writing
writing_after w e = writing_past w (extent_of (admitted w e))

-- ---- closing

-- 2 for a body outside 1 to 48 bytes, which follows the four opening bytes; then F7H.
unfoldable pub closed_message : Writing → Emission
closed_message w = resume [] (or_failed w).stop (check (within 5 53 w.at) 2 then sent (247 ∷ []))

-- A string of fields has no close.
unfoldable pub closed_fields : Writing → Emission
closed_fields w = resume [] (or_failed w).stop (sent [])

-- The answer of a close: its refusal, else the length against the buffer's.
unfoldable pub whole_message : Writing → ℕ → Answer ℕ
whole_message w room = answer_in (closed_message w).stop (w.at + 1) room

unfoldable pub whole_fields : Writing → ℕ → Answer ℕ
whole_fields w room = answer_in (closed_fields w).stop w.at room
