-- A writing that is accepted: what that tells of its opening, its items and its close; and how far calls bring a writing. Assumes
-- nothing.
use Rattle.std.specs.Prelude.{Option, Some, None}
use Prim.Native.Nat.{ℕ, ◌+◌, ◌*◌, ◌≤◌, ◌<◌}
use mathlib.Core.Path.{◌≡◌, refl, sym, ap, ap₂, subst, ◌∙◌}
use mathlib.Core.Bool.{Bool, true, false, not, cond, ◌&&◌}
use mathlib.Core.List.{List, [], ◌∷◌, ◌++◌}
use native.Mathlib.Nat.{add-zero, zero-add}
use native.Mathlib.Omega.{arith}
use borrow.Author.Tests.{le-leb, leb-true, leb-false}
use lib.Dec.{leb, eqb}
use lib.ListN.{length, take, drop, length-append}
use lib.Seq.{take_at}
use Rattle.mmc.specs.declared.length.Kind.{Kind}
use Rattle.mmc.specs.declared.length.Kind.TheVariants.{Commands, Fields}
use Rattle.mmc.specs.Length.{within}
use Rattle.mmc.specs.Named.{extent_of}
use Rattle.mmc.specs.Rp013.{sub_id1_of}
use Rattle.mmc.specs.Strings.{Given, emission, emissions}
use Rattle.mmc.specs.Write as W
use Rattle.mmc.specs.Write.{Writing, or_failed, opened_commands, opened_responses, begun, ready, admitted, writing_past, closed_message, whole_message}
use Rattle.mmc.specs.Writings.{State, opened, after_item, after_items, opening_of, string_state, string_answer, string_left}
use Rattle.universal.specs.Refusals.{Refusal, refusal, gives}
use Rattle.universal.specs.Emission.{Emission, sent, check, ◌then◌, fitted, answer_in}
use Rattle.universal.specs.Message.{opening, header}
use Rattle.universal.specs.Overlay.{overlay}
use Rattle.universal.proofs.Laws.{overlay_none, overlay_append, overlay_fits, then_sent, then_accepted, check_held, opening_device, opening_bytes, gives_refused, none_some}
use Rattle.mmc.proofs.RangeTests.{within_told}
use Rattle.mmc.proofs.StringLaws.{emissions_none, emissions_cons}
use Rattle.mmc.proofs.Writing.WriterCalls.{ready_told, repeats, takes, close_sent}

-- ---- one item

-- A writing that goes on has not failed.
pub not_failed : (w : Writing) → (or_failed w).stop ≡ None → w.stop ≡ None
unfolding or_failed
not_failed w = go (leb w.items 256 && leb w.at 40000)
  where
    go : (b : Bool) → (cond b w (record { at = w.at; items = w.items; stop = Some (refusal 10) })).stop ≡ None → w.stop ≡ None
    go true h = h
    go false h = absurd (none_some (refusal 10) h)

-- Of an item that was accepted its own emission went out, and that has no refusal.
pub record AcceptedEmission (w : Writing) (e : Emission) : Type 0 where
  pub going : w.stop ≡ None
  pub own : e.stop ≡ None
  pub whole : admitted w e ≡ e
  pub room : w.items < 256

pub emission_accepted : (w : Writing) (e : Emission) → (admitted w e).stop ≡ None → AcceptedEmission w e
unfolding admitted
emission_accepted w e h =
    let k = then_accepted (record { bytes = []; stop = ready w }) e h in
    record { going = not_failed w (ready_told w k.0).0; own = k.1; whole = takes w e k.0; room = (ready_told w k.0).1 }

-- ---- a list of items

-- What a list that was accepted leaves: the list's own emission at the position.
pub record ListAccepted (kind : Kind) (s : State) (gs : List (Given kind)) : Type 0 where
  pub going : s.writing.stop ≡ None
  pub own : (emissions kind gs).stop ≡ None
  pub at : (after_items kind s gs).writing.at ≡ s.writing.at + length (emissions kind gs).bytes
  pub out : (after_items kind s gs).out ≡ overlay s.out s.writing.at (emissions kind gs).bytes

none_accepted : (kind : Kind) (s : State) → (after_items kind s []).writing.stop ≡ None → ListAccepted kind s []
unfolding after_items
none_accepted kind s h =
    record {
      going = h;
      own = ap (λ (e : Emission). e.stop) (emissions_none kind);
      at = sym (ap (λ (e : Emission). s.writing.at + length e.bytes) (emissions_none kind) ∙ add-zero s.writing.at);
      out = sym (ap (λ (e : Emission). overlay s.out s.writing.at e.bytes) (emissions_none kind) ∙ overlay_none s.out s.writing.at);
    }

-- The list's own emission, where its first item is accepted.
cons_bytes : (kind : Kind) (g : Given kind) (gs : List (Given kind)) → (emission kind g).stop ≡ None
    → emissions kind (g ∷ gs) ≡ record { bytes = (emission kind g).bytes ++ (emissions kind gs).bytes; stop = (emissions kind gs).stop }
cons_bytes kind g gs h = emissions_cons kind g gs ∙ then_sent (emission kind g) (emissions kind gs) h

more_accepted : (kind : Kind) (s : State) (g : Given kind) (gs : List (Given kind)) → ListAccepted kind (after_item kind s g) gs
    → ListAccepted kind s (g ∷ gs)
unfolding after_items W.writing_after
more_accepted kind s g gs ih =
    let t : AcceptedEmission s.writing (emission kind g) = emission_accepted s.writing (emission kind g) ih.going in
    let e : Emission = emission kind g in
    let a : ℕ = s.writing.at in
    let bs : List ℕ = (emissions kind gs).bytes in
    let b : emissions kind (g ∷ gs) ≡ record { bytes = e.bytes ++ bs; stop = (emissions kind gs).stop } = cons_bytes kind g gs t.own in
    let one : (after_item kind s g).writing.at ≡ a + length e.bytes = ap (λ (x : Emission). a + length x.bytes) t.whole in
    let first : (after_item kind s g).out ≡ overlay s.out a e.bytes = ap (λ (x : Emission). overlay s.out a x.bytes) t.whole in
    record {
      going = t.going;
      own = ap (λ (x : Emission). x.stop) b ∙ ih.own;
      at =
          ih.at
          ∙ ap (λ (k : ℕ). k + length bs) one
          ∙ sum a (length e.bytes) (length bs)
          ∙ ap (λ (k : ℕ). a + k) (sym (length-append e.bytes bs))
          ∙ sym (ap (λ (x : Emission). a + length x.bytes) b);
      out =
          ih.out
          ∙ ap₂ (λ (l : List ℕ) (k : ℕ). overlay l k bs) first one
          ∙ sym (overlay_append s.out a e.bytes bs)
          ∙ sym (ap (λ (x : Emission). overlay s.out a x.bytes) b);
    }
  where
    sum : (x y z : ℕ) → x + y + z ≡ x + (y + z)
    sum x y z = omega arith

pub all_accepted : (kind : Kind) (gs : List (Given kind)) (s : State) → (after_items kind s gs).writing.stop ≡ None → ListAccepted kind s gs
unfolding after_items
all_accepted kind [] s h = none_accepted kind s h
all_accepted kind (g ∷ gs) s h = more_accepted kind s g gs (all_accepted kind gs (after_item kind s g) h)

-- ---- the opening and the close

-- An opening that was accepted.
pub record OpenedWhole (kind : Kind) (device : ℕ) : Type 0 where
  pub low_device : device ≤ 127
  pub bytes : (opening_of kind device).bytes ≡ 240 ∷ 127 ∷ device ∷ sub_id1_of kind ∷ []

opening_low : (device n : ℕ) → (opening (header true device n None)).stop ≡ None → device ≤ 127
opening_low device n h = go (leb device 127) refl
  where
    go : (b : Bool) → leb device 127 ≡ b → device ≤ 127
    go true e = leb-true device 127 e
    go false e =
        absurd (none_some (refusal 5) (sym (ap (λ (x : Emission). x.stop) (opening_device (header true device n None) (leb-false device 127 e))) ∙ h))

pub opened_whole : (kind : Kind) (device : ℕ) → (opening_of kind device).stop ≡ None → OpenedWhole kind device
unfolding opened_commands opened_responses
opened_whole Commands device h =
    record { low_device = opening_low device 6 h; bytes = opening_bytes (header true device 6 None) h }
opened_whole Fields device h =
    let u = header true device 7 None in
    let rest = then_accepted (check (leb device 127) 5) (check (not (eqb device 127)) 3 then opening u) h in
    let last = then_accepted (check (not (eqb device 127)) 3) (opening u) rest.1 in
    record {
      low_device = leb-true device 127 (check_held (leb device 127) 5 rest.0);
      bytes = rw (check_held (leb device 127) 5 rest.0, check_held (not (eqb device 127)) 3 last.0) (opening_bytes u last.1);
    }

-- A close that answered a length.
record Closed (w : Writing) (room n : ℕ) : Type 0 where
  going : w.stop ≡ None
  from : 5 ≤ w.at
  to : w.at < 53
  whole : n ≡ w.at + 1
  fits : n ≤ room
  close : closed_message w ≡ sent (247 ∷ [])

-- An answer with a length came after no refusal, and the length fits.
pub answer_in_gives : (s : Option Refusal) (m room n : ℕ) → answer_in s m room ≡ gives n → (s ≡ None) × (n ≡ m) × (n ≤ room)
answer_in_gives None m room n e = go (leb m room) refl e
  where
    go : (b : Bool) → leb m room ≡ b → fitted b m ≡ gives n → (◌≡◌ {A = Option Refusal} None None) × (n ≡ m) × (n ≤ room)
    go true t p = let same : n ≡ m = cc in (refl, same, omega (arith, leb-true m room t))
    go false t p = absurd (gives_refused n _ p)
answer_in_gives (Some r) m room n e = absurd (gives_refused n r e)

closed : (w : Writing) (room n : ℕ) → whole_message w room ≡ gives n → Closed w room n
unfolding whole_message closed_message
closed w room n h =
    let k = answer_in_gives (closed_message w).stop (w.at + 1) room n h in
    let outer = then_accepted (record { bytes = []; stop = (or_failed w).stop }) (check (within 5 53 w.at) 2 then sent (247 ∷ [])) k.0 in
    let inner = then_accepted (check (within 5 53 w.at) 2) (sent (247 ∷ [])) outer.1 in
    let range = within_told 5 53 w.at (check_held (within 5 53 w.at) 2 inner.0) in
    record {
      going = not_failed w outer.0;
      from = range.0;
      to = range.1;
      whole = k.1;
      fits = k.2;
      close = close_sent w outer.0 range.0 range.1;
    }

-- ---- the whole

-- A writing that is accepted: its opening and the list's own emission are, the device is at most 127, the body has 1 to 48 bytes,
-- the answer is the whole length, and the buffer begins with the message.
pub record WrittenWhole (kind : Kind) (device : ℕ) (gs : List (Given kind)) (out : List ℕ) (n : ℕ) : Type 0 where
  pub opened : (opening_of kind device).stop ≡ None
  pub going : (string_state kind device gs out).writing.stop ≡ None
  pub accepted : (emissions kind gs).stop ≡ None
  pub low_device : device ≤ 127
  pub some_body : 1 ≤ length (emissions kind gs).bytes
  pub most_body : length (emissions kind gs).bytes ≤ 48
  pub whole : n ≡ length (emissions kind gs).bytes + 5
  pub fits : n ≤ length out
  pub left : take n (string_left kind device gs out)
      ≡ (240 ∷ 127 ∷ device ∷ sub_id1_of kind ∷ []) ++ ((emissions kind gs).bytes ++ 247 ∷ [])

-- Bytes from the buffer's start on that fit are its front.
pub overlay_front : (out m : List ℕ) (n : ℕ) → n ≡ length m → n ≤ length out → take n (overlay out 0 m) ≡ m
overlay_front out m n e l =
    let fit : 0 + length m ≤ length out = omega arith in
    ap (take n) (overlay_fits out 0 m fit) ∙ take_at m (drop (0 + length m) out) n (sym e)

pub written_whole : (kind : Kind) (device : ℕ) (gs : List (Given kind)) (out : List ℕ) (n : ℕ)
    → string_answer kind device gs out ≡ gives n → WrittenWhole kind device gs out n
unfolding string_answer string_left string_state begun
written_whole kind device gs out n h =
    let start : State = opened (opening_of kind device) out in
    let end : State = after_items kind start gs in
    let c : Closed end.writing (length out) n = closed end.writing (length out) n h in
    let t : ListAccepted kind start gs = all_accepted kind gs start c.going in
    let o : OpenedWhole kind device = opened_whole kind device t.going in
    let head : List ℕ = 240 ∷ 127 ∷ device ∷ sub_id1_of kind ∷ [] in
    let bs : List ℕ = (emissions kind gs).bytes in
    let at : end.writing.at ≡ 4 + length bs = t.at ∙ ap (λ (l : List ℕ). length l + length bs) o.bytes in
    let body : end.out ≡ overlay out 0 (head ++ bs) =
    t.out
    ∙ ap (λ (l : List ℕ). overlay (overlay out 0 l) (length l) bs) o.bytes
    ∙ sym (overlay_append out 0 head bs) in
    let left : overlay end.out end.writing.at (closed_message end.writing).bytes ≡ overlay out 0 ((head ++ bs) ++ 247 ∷ []) =
    ap (λ (e : Emission). overlay end.out end.writing.at e.bytes) c.close
    ∙ ap₂ (λ (l : List ℕ) (k : ℕ). overlay l k (247 ∷ [])) body (at ∙ sym (length-append head bs) ∙ sym (zero-add (length (head ++ bs))))
    ∙ sym (overlay_append out 0 (head ++ bs) (247 ∷ [])) in
    let size : n ≡ length ((head ++ bs) ++ 247 ∷ []) = omega (arith, c.whole, length-append (head ++ bs) (247 ∷ []), length-append head bs) in
    record {
      opened = t.going;
      going = c.going;
      accepted = t.own;
      low_device = o.low_device;
      some_body = omega (arith, c.from);
      most_body = omega (arith, c.to);
      whole = omega (arith, c.whole);
      fits = c.fits;
      left = ap (take n) left ∙ overlay_front out ((head ++ bs) ++ 247 ∷ []) n size c.fits;
    }

-- ---- how far a writing goes

-- What calls keep of a writing: at most 256 items of 131 bytes each after the opening, and as many of one that was refused.
pub record KeptByCalls (w : Writing) : Type 0 where
  pub few : w.items ≤ 256
  pub near : w.at ≤ 4 + 131 * w.items + 131
  pub going : w.stop ≡ None → w.at ≤ 4 + 131 * w.items

-- It does not pass 40,000, so no call leaves a record that is failed by 10.
pub kept_not_failed : (w : Writing) → KeptByCalls w → or_failed w ≡ w
unfolding or_failed
kept_not_failed w k = rw (le-leb w.items 256 k.few, le-leb w.at 40000 (omega (arith, k.few, k.near)))

refused_kept : (w : Writing) (r : Refusal) → KeptByCalls w → KeptByCalls (writing_past w (record { len = 0; stop = Some r }))
refused_kept w r k =
    record {
      few = k.few;
      near = omega (arith, k.near);
      going = λ h. absurd (none_some r h);
    }

item_kept : (w : Writing) (e : Emission) → KeptByCalls w → w.stop ≡ None → w.items < 256 → length e.bytes ≤ 131 → KeptByCalls (writing_past w (extent_of e))
item_kept w e k g l h = go e.stop
  where
    go : (s : Option Refusal) → KeptByCalls (writing_past w (record { len = length e.bytes; stop = s }))
    go None = record { few = omega arith; near = omega (arith, k.going g); going = λ _. omega (arith, k.going g) }
    go (Some r) = record { few = k.few; near = omega (arith, k.going g); going = λ z. absurd (none_some r z) }

pub after_kept : (w : Writing) (e : Emission) → KeptByCalls w → length e.bytes ≤ 131 → KeptByCalls (W.writing_after w e)
unfolding W.writing_after
after_kept w e k h = go (ready w) refl
  where
    go : (s : Option Refusal) → ready w ≡ s → KeptByCalls (writing_past w (extent_of (admitted w e)))
    go None r =
        subst (λ (x : Emission). KeptByCalls (writing_past w (extent_of x))) (sym (takes w e r))
        (item_kept w e k (not_failed w (ready_told w r).0) (ready_told w r).1 h)
    go (Some q) r = subst (λ (x : Emission). KeptByCalls (writing_past w (extent_of x))) (sym (repeats w e q r)) (refused_kept w q k)
