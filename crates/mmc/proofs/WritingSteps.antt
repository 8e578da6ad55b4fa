-- A writing one call at a time, for crates above: what an opening, an item and a close are, and which test decides them. Assumes
-- nothing.
use Rattle.std.specs.Prelude.{None, Some}
use Prim.Native.Nat.{ℕ, ◌+◌, ◌≤◌, ◌<◌}
use mathlib.Core.Path.{◌≡◌, refl}
use mathlib.Core.Bool.{Bool, true, false, cond, ◌&&◌}
use mathlib.Core.List.{List, [], ◌∷◌}
use lib.Dec.{leb, ltb, lit≤}
use lib.ListN.{length}
use Rattle.mmc.specs.Names.{NamesSent}
use Rattle.mmc.specs.declared.command.MmcCommand.TheVariants as C
use Rattle.mmc.specs.declared.length.Kind.{Kind}
use Rattle.mmc.specs.Item.{command_item, is_subframes, locate_target_item, standard_item}
use Rattle.mmc.specs.Length.{within}
use Rattle.mmc.specs.Named.{extent_of}
use Rattle.mmc.specs.Strings.{Given}
use Rattle.mmc.specs.Write.{Writing, or_failed, opened_commands, begun, ready, admitted, writing_past, writing_after, closed_message, whole_message}
use Rattle.mmc.specs.Writings.{State, opened, after_item, after_items, opening_of, string_state, string_answer, string_left}
use Rattle.codes.specs.declared.time_code.StandardTimeCode.{StandardTimeCode}
use Rattle.codes.specs.TimeCode.{standard_fits, standard_list}
use Rattle.universal.specs.Emission.{Emission, sent, refusing, check, resume, ◌then◌, answer_in}
use Rattle.universal.specs.Message.{header}
use Rattle.universal.specs.Overlay.{overlay}
use Rattle.universal.specs.Refusals.{refusal}
use Rattle.universal.proofs.Laws.{opening_device, opening_plain}
-- A writing in its limits has its own refusal, if any; one with a refusal repeats it; one without takes an item; and what a close
-- does by the position.
pub use Rattle.mmc.proofs.Writing.WriterCalls.{as_it_is, ready_kept, ready_failed, repeats, takes, close_repeats, close_empty, close_long, close_sent}

-- ---- opening

-- A command string to a device above 127 is refused with 5.
pub commands_refused : (device : ℕ) → 127 < device → opened_commands device ≡ refusing 5
unfolding opened_commands
commands_refused device h = opening_device (header true device 6 None) h

-- To any other F0H, 7FH, the device and 06H go out.
pub commands_opened : (device : ℕ) → device ≤ 127 → opened_commands device ≡ sent (240 ∷ 127 ∷ device ∷ 6 ∷ [])
unfolding opened_commands
commands_opened device h = opening_plain true device 6 h refl (lit≤ tt)

-- After an opening the position is behind its bytes.
pub begun_after : (e : Emission) → begun e ≡ record { at = length e.bytes; items = 0; stop = e.stop }
unfolding begun
begun_after e = refl

-- ---- an item

-- The refusal of a writing: its own, or 10 past its limits.
pub or_failed_stop : (w : Writing) → (or_failed w).stop ≡ cond (leb w.items 256 && leb w.at 40000) w.stop (Some (refusal 10))
unfolding or_failed
or_failed_stop w = go (leb w.items 256 && leb w.at 40000)
  where
    go : (b : Bool)
        → (cond b w (record { at = w.at; items = w.items; stop = Some (refusal 10) })).stop ≡ cond b w.stop (Some (refusal 10))
    go true = refl
    go false = refl

-- Its refusal for the next item: that, or 10 where 256 were accepted.
pub ready_stop : (w : Writing) → ready w ≡ (resume [] (or_failed w).stop (check (ltb w.items 256) 10)).stop
unfolding ready
ready_stop w = refl

-- What goes out of an item comes after that refusal.
pub admitted_after : (w : Writing) (e : Emission) → admitted w e ≡ resume [] (ready w) e
unfolding admitted
admitted_after w e = refl

-- The writing moves on by what went out.
pub writing_after_moves : (w : Writing) (e : Emission) → writing_after w e ≡ writing_past w (extent_of (admitted w e))
unfolding writing_after
writing_after_moves w e = refl

-- A list of items, one after another.
pub after_none : (kind : Kind) (s : State) → after_items kind s [] ≡ s
unfolding after_items
after_none kind s = refl

pub after_cons : (kind : Kind) (s : State) (g : Given kind) (gs : List (Given kind))
    → after_items kind s (g ∷ gs) ≡ after_items kind (after_item kind s g) gs
unfolding after_items
after_cons kind s g gs = refl

-- Each command that is a name alone goes out as this name.
pub names_sent : (source : List ℕ) → NamesSent source
unfolding command_item
names_sent source =
    record {
      stop = refl;
      play = refl;
      deferred_play = refl;
      fast_forward = refl;
      rewind = refl;
      record_strobe = refl;
      record_exit = refl;
      pause = refl;
      reset = refl;
    }

-- A Locate to a time: 3 for a status, then 44H, its count and the sub-command, then 3 for a time that does not fit, then the time.
pub locate_sent : (source : List ℕ) (c : StandardTimeCode)
    → command_item source (C.LocateTarget c)
    ≡ check (is_subframes c.final_byte) 3 then sent (68 ∷ 6 ∷ 1 ∷ []) then check (standard_fits c) 3 then sent (standard_list c)
unfolding command_item locate_target_item standard_item
locate_sent source c = refl

-- ---- closing

-- A close comes after the writing's refusal: 2 for a body outside 1 to 48 bytes, then F7H.
pub closed_after : (w : Writing) → closed_message w ≡ resume [] (or_failed w).stop (check (within 5 53 w.at) 2 then sent (247 ∷ []))
unfolding closed_message
closed_after w = refl

-- Its answer is its refusal, else the length against the buffer's.
pub whole_answer : (w : Writing) (room : ℕ) → whole_message w room ≡ answer_in (closed_message w).stop (w.at + 1) room
unfolding whole_message
whole_answer w room = refl

-- ---- a whole string

-- The answer of a whole writing is that of the close after its items.
pub string_answer_lem : (kind : Kind) (device : ℕ) (gs : List (Given kind)) (out : List ℕ)
    → string_answer kind device gs out
    ≡ whole_message (after_items kind (opened (opening_of kind device) out) gs).writing (length out)
unfolding string_answer string_state
string_answer_lem kind device gs out = refl

-- So is what it leaves in the buffer.
pub string_left_lem : (kind : Kind) (device : ℕ) (gs : List (Given kind)) (out : List ℕ)
    → string_left kind device gs out
    ≡ overlay (after_items kind (opened (opening_of kind device) out) gs).out
    (after_items kind (opened (opening_of kind device) out) gs).writing.at
    (closed_message (after_items kind (opened (opening_of kind device) out) gs).writing).bytes
unfolding string_left string_state
string_left_lem kind device gs out = refl
