-- A whole writing, call by call: a string is opened, given a list of items, and closed, with one buffer lent throughout. The
-- lists are folded with the definitions in the contracts of the calls. Then the string that was left, as document 01 reads it
-- back. Assumes nothing.
use Rattle.std.specs.Prelude.{ℕ, List, [], ◌∷◌, true, cond, eqb, length, take, drop, get_or, None}
use Rattle.mmc.specs.declared.length.Kind.{Kind}
use Rattle.mmc.specs.declared.length.Kind.TheVariants.{Commands, Fields}
use Rattle.mmc.specs.declared.message.MmcMessage.{MmcMessage}
use Rattle.mmc.specs.declared.message.MmcMessage.TheVariants as M
use Rattle.mmc.specs.Strings.{Given, emission}
use Rattle.mmc.specs.Write.{Writing, opened_commands, opened_responses, opened_fields, begun, out_after, closed_message, whole_message, whole_fields}
use Rattle.mmc.specs.Write as W
use Rattle.universal.specs.Refusals.{Answer}
use Rattle.universal.specs.Emission.{Emission}
use Rattle.universal.specs.Message.{header}
use Rattle.universal.specs.Overlay.{overlay}
use Rattle.universal.specs.declared.message.Universal.{Universal}

-- A writing, and the buffer that it left.
pub record State : Type 0 where
  pub writing : Writing
  pub out : List ℕ

-- After an opening.
abbrev pub opened : Emission → List ℕ → State
opened e out = record { writing = begun e; out = overlay out 0 e.bytes }

-- After an item.
abbrev pub after_item : (kind : Kind) → State → Given kind → State
after_item kind s g =
    record {
      writing = W.writing_after s.writing (emission kind g);
      out = out_after s.writing s.out (emission kind g);
    }

-- After a list of items.
unfoldable pub after_items : (kind : Kind) → State → List (Given kind) → State
after_items kind s [] = s
after_items kind s (g ∷ gs) = after_items kind (after_item kind s g) gs

-- The opening of a kind of message: commands to a device, responses from one.
abbrev pub opening_of : Kind → ℕ → Emission
opening_of Commands device = opened_commands device
opening_of Fields device = opened_responses device

-- The answer of a whole writing into a buffer, and the bytes left in it.
unfoldable pub string_state : (kind : Kind) → ℕ → List (Given kind) → List ℕ → State
string_state kind device gs out = after_items kind (opened (opening_of kind device) out) gs

unfoldable pub string_answer : (kind : Kind) → ℕ → List (Given kind) → List ℕ → Answer ℕ
string_answer kind device gs out = whole_message (string_state kind device gs out).writing (length out)

unfoldable pub string_left : (kind : Kind) → ℕ → List (Given kind) → List ℕ → List ℕ
string_left kind device gs out =
    overlay (string_state kind device gs out).out (string_state kind device gs out).writing.at
    (closed_message (string_state kind device gs out).writing).bytes

-- A string of fields, likewise: it has no envelope, and its close leaves the buffer as it is.
abbrev pub fields_opened : List ℕ → State
fields_opened out = record { writing = opened_fields; out = out }

unfoldable pub fields_answer : List (Given Fields) → List ℕ → Answer ℕ
fields_answer gs out = whole_fields (after_items Fields (fields_opened out) gs).writing (length out)

unfoldable pub fields_left : List (Given Fields) → List ℕ → List ℕ
fields_left gs out = (after_items Fields (fields_opened out) gs).out

-- ---- the string, read back

-- The string that a writing left: as many bytes of the buffer as it answered.
abbrev pub string_of : (kind : Kind) → ℕ → List (Given kind) → List ℕ → ℕ → List ℕ
string_of kind device gs out n = take n (string_left kind device gs out)

-- Its header: real time, device its third byte, sub-ID 1 its fourth, no sub-ID 2.
abbrev pub header_of : List ℕ → Universal
header_of s = header true (get_or s 2 0) (get_or s 3 0) None

-- The bytes up to F7H.
unfoldable pub up_to_close : List ℕ → List ℕ
up_to_close [] = []
up_to_close (b ∷ bs) = cond (eqb b 247) [] (b ∷ up_to_close bs)

-- Its data: the bytes after these up to the closing F7H.
abbrev pub body_of : List ℕ → List ℕ
body_of s = up_to_close (drop 4 s)

-- A message of a kind: commands for a device, responses from one.
abbrev pub message_of : Kind → ℕ → MmcMessage
message_of Commands device = M.Commands device
message_of Fields device = M.Responses device
