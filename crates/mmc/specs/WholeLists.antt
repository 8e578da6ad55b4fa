-- Whole lists: what mmc.rs emits of one in a piece, which is the reference for a writing (document 01, "Command and field
-- strings"); when a writing is accepted, and what it then is; what a refusal does to the calls after it; and any calls on one
-- writer. Assumes nothing.
use Rattle.std.specs.Prelude.{ℕ, ◌+◌, ◌≤◌, ◌≡◌, List, [], ◌∷◌, length, Option, Some, None}
use Rattle.mmc.specs.declared.length.Kind.{Kind}
use Rattle.mmc.specs.declared.length.Kind.TheVariants.{Fields}
use Rattle.mmc.specs.Length.{within}
use Rattle.mmc.specs.Message.{message_from}
use Rattle.mmc.specs.Rp013.{last_device}
use Rattle.mmc.specs.Strings.{Given, emission, emissions, pairs_of, meanings, read_from}
use Rattle.mmc.specs.Write.{Writing, or_failed, admitted, closed_message, whole_message, whole_fields}
use Rattle.mmc.specs.Writings.{State, opened, after_item, opening_of, string_answer, header_of, body_of, message_of, fields_opened, fields_answer}
use Rattle.universal.specs.Emission.{Emission, sent, check, ◌then◌, answer}
use Rattle.universal.specs.Overlay.{overlay}
use Rattle.universal.specs.Refusals.{Refusal, refusal, gives, refused}

-- ---- a whole list in one piece

-- What `write_commands` and `write_responses` of mmc.rs emit: the opening, the items, 2 for a body outside 1 to 48 bytes, F7H.
unfoldable pub message_emission : (kind : Kind) → ℕ → List (Given kind) → Emission
message_emission kind device gs =
    opening_of kind device
    then emissions kind gs
    then check (within 1 49 (length (emissions kind gs).bytes)) 2
    then sent (0xF7 ∷ [])

-- What `write_info_fields` emits: the fields alone.
abbrev pub fields_emission : List (Given Fields) → Emission
fields_emission gs = emissions Fields gs

-- ---- what is accepted

-- When a writing is accepted, and with which length: each item is, the device is one of its kind, the body has 1 to 48 bytes, and
-- the buffer has room for it and five bytes more.
pub record Accepts (kind : Kind) (device : ℕ) (gs : List (Given kind)) (room n : ℕ) : Type 0 where
  pub items : (emissions kind gs).stop ≡ None
  pub device_in_range : device ≤ last_device kind
  pub least : 1 ≤ length (emissions kind gs).bytes
  pub most : length (emissions kind gs).bytes ≤ 48
  pub whole : n ≡ length (emissions kind gs).bytes + 5
  pub room_for : n ≤ room

-- The same for a string of fields, which has no device, no envelope and no rule of 48: its items are accepted, at most 256, and the
-- buffer has room for their bytes.
pub record AcceptsFields (gs : List (Given Fields)) (room n : ℕ) : Type 0 where
  pub items : (emissions Fields gs).stop ≡ None
  pub few : length gs ≤ 256
  pub whole : n ≡ length (emissions Fields gs).bytes
  pub room_for : n ≤ room

-- What each item of a list is answered, call by call: nothing, or its refusal.
unfoldable pub checks : (kind : Kind) → State → List (Given kind) → List (Option Refusal)
checks kind s [] = []
checks kind s (g ∷ gs) = (admitted s.writing (emission kind g)).stop ∷ checks kind (after_item kind s g) gs

-- What each is answered by what was emitted so far: the refusal that ended it, if any did. So it is nothing up to the first item that
-- is refused, and from it on that item's refusal.
unfoldable pub checks_by : (kind : Kind) → Emission → List (Given kind) → List (Option Refusal)
checks_by kind e [] = []
checks_by kind e (g ∷ gs) = (e then emission kind g).stop ∷ checks_by kind (e then emission kind g) gs

-- Each of them is nothing.
abbrev pub AllAccepted : List (Option Refusal) → Type 0
AllAccepted [] = Unit
AllAccepted (c ∷ cs) = (c ≡ None) × AllAccepted cs

-- No call of a writing is refused: not the opening, no item, and not the close, which answers a length.
pub record NoneRefused (kind : Kind) (device : ℕ) (gs : List (Given kind)) (out : List ℕ) (n : ℕ) : Type 0 where
  pub opening : (opening_of kind device).stop ≡ None
  pub items : AllAccepted (checks kind (opened (opening_of kind device) out) gs)
  pub close : string_answer kind device gs out ≡ gives n

-- Likewise of a string of fields.
pub record NoneRefusedFields (gs : List (Given Fields)) (out : List ℕ) (n : ℕ) : Type 0 where
  pub items : AllAccepted (checks Fields (fields_opened out) gs)
  pub close : fields_answer gs out ≡ gives n

-- ---- what an accepted writing is

-- It reads back as a message of its kind for the device, whose data is the list's own; each item as its name and data are read, to
-- the end.
pub record ReadBack (kind : Kind) (device : ℕ) (gs : List (Given kind)) (s : List ℕ) : Type 0 where
  pub device_in_range : device ≤ last_device kind
  pub body : body_of s ≡ (emissions kind gs).bytes
  pub message : message_from (header_of s) (body_of s) ≡ gives (Some (message_of kind device))
  pub whole : read_from kind (body_of s) 0 ≡ record { items = meanings kind 0 (pairs_of kind gs); stop = refusal 9 }

-- ---- any calls on one writer

-- One writer serves commands, responses and strings of fields, which the types of mmc.rs keep apart. So a command or a field may
-- be put into any of them, and any may be closed as a message or as fields.
pub record Entry : Type 0 where
  pub kind : Kind
  pub item : Given kind

-- It by its kind.
abbrev pub entry : (kind : Kind) → Given kind → Entry
entry kind g = record { kind = kind; item = g }

-- What it emits.
abbrev pub entry_emission : Entry → Emission
entry_emission e = emission e.kind e.item

-- What a writing and its buffer become by it.
abbrev pub after_entry : State → Entry → State
after_entry s e = after_item e.kind s e.item

unfoldable pub after_entries : State → List Entry → State
after_entries s [] = s
after_entries s (e ∷ es) = after_entries (after_entry s e) es

-- What they emit one after another, up to the first refusal.
unfoldable pub entries_emission : List Entry → Emission
entries_emission [] = sent []
entries_emission (e ∷ es) = entry_emission e then entries_emission es

-- What emitted bytes are, closed as a message: F7H after 5 to 52 of them, the opening's four among them; else 2.
abbrev pub as_message : Emission → Emission
as_message e = e then check (within 5 53 (length e.bytes)) 2 then sent (0xF7 ∷ [])

-- What any list of up to 256 commands and fields leaves, in whichever string: their own emissions after the opening; and what each
-- close then answers and leaves.
pub record HoldsAll (found : List ℕ) (e : Emission) (s : State) : Type 0 where
  pub position : s.writing.at ≡ length e.bytes
  pub refused_by : s.writing.stop ≡ e.stop
  pub left : s.out ≡ overlay found 0 e.bytes
  pub is_message : whole_message s.writing (length found) ≡ answer (as_message e) (length found)
  pub message_left : overlay s.out s.writing.at (closed_message s.writing).bytes ≡ overlay found 0 (as_message e).bytes
  pub as_fields : whole_fields s.writing (length found) ≡ answer e (length found)

-- What a writer with a refusal does: it repeats it to every further call, and writes nothing more.
pub record Repeats (r : Refusal) (s t : State) : Type 0 where
  pub failed : (or_failed t.writing).stop ≡ Some r
  pub position : t.writing.at ≡ s.writing.at
  pub untouched : t.out ≡ s.out
  pub next_item : (x : Entry) → admitted t.writing (entry_emission x) ≡ record { bytes = []; stop = Some r }
  pub is_message : (room : ℕ) → whole_message t.writing room ≡ refused r
  pub no_close : (closed_message t.writing).bytes ≡ []
  pub as_fields : (room : ℕ) → whole_fields t.writing room ≡ refused r

-- At most 256 items, and a position of at most 40,000.
pub record InLimits (w : Writing) : Type 0 where
  pub items : w.items ≤ 256
  pub position : w.at ≤ 40000
