-- A writing, call by call. Assumes nothing.
use Rattle.std.specs.Prelude.{Option, Some, None}
use Prim.Native.Nat.{ℕ, ◌+◌, ◌≤◌, ◌<◌}
use mathlib.Core.Path.{◌≡◌, refl, sym, ap, ap₂, subst, ◌∙◌}
use mathlib.Core.Bool.{Bool, true, false, not}
use mathlib.Core.List.{List, [], ◌∷◌}
use mathlib.Core.Logic.{◌⊎◌, inl, inr}
use native.Mathlib.Omega.{arith}
use borrow.Author.Tests.{le-leb, lt-ltb, ne_eqb, leb-true, leb-false, ltb-true}
use lib.Dec.{leb, ltb, eqb, lit≤}
use lib.ListN.{length}
use Rattle.mmc.specs.Write.{Writing, or_failed, opened_commands, opened_responses, begun, opens_at, ready, admitted, writing_after, closed_message, whole_message}
use Rattle.universal.specs.Refusals.{Refusal, refusal, Answer}
use Rattle.universal.specs.Emission.{Emission, sent, refusing, check, resume, ◌then◌, fitted, reached, answer_in}
use Rattle.universal.specs.Message.{opening, header, has_sub_id2, closing}
use Rattle.universal.specs.Overlay.{overlay}
use Rattle.universal.proofs.Laws.{then_accepted, check_held, reached_sent, reached_refusing, opening_device, opening_plain, closing_fits, closing_short}
use Rattle.mmc.proofs.RangeTests.{within_range, below_range, above_range}

-- ---- opening

-- An opening that went out whole, or was refused with nothing out.
abbrev WholeOrNothing : Emission → Type 0
WholeOrNothing e = ((k : ℕ) × (e ≡ refusing k)) ⊎ ((bs : List ℕ) × (e ≡ sent bs))

opens : (e : Emission) → WholeOrNothing e → opens_at (reached e) ≡ begun e
unfolding begun
opens e (inl p) = subst (λ (x : Emission). opens_at (reached x) ≡ begun x) (sym p.1) (ap opens_at (reached_refusing (refusing p.0) (refusal p.0) refl))
opens e (inr p) = subst (λ (x : Emission). opens_at (reached x) ≡ begun x) (sym p.1) (ap opens_at (reached_sent (sent p.0) refl))

opening_whole : (device n : ℕ) → has_sub_id2 true n ≡ false → n ≤ 127 → WholeOrNothing (opening (header true device n None))
opening_whole device n f h = go (leb device 127) refl
  where
    go : (b : Bool) → leb device 127 ≡ b → WholeOrNothing (opening (header true device n None))
    go true e = inr (_, opening_plain true device n (leb-true device 127 e) f h)
    go false e = inl (5, opening_device (header true device n None) (leb-false device 127 e))

pub opens_commands : (device : ℕ) (w : Writing) (o : Answer ℕ) → w ≡ opens_at o → o ≡ reached (opening (header true device 6 None))
    → w ≡ begun (opened_commands device)
unfolding opened_commands
opens_commands device w o p q =
    p ∙ ap opens_at q ∙ opens (opening (header true device 6 None)) (opening_whole device 6 refl (lit≤ tt))

pub no_response : (device : ℕ) → device ≡ 127 → opened_responses device ≡ refusing 3
unfolding opened_responses
no_response device e = rw e

pub response_opening : (device : ℕ) → (device ≡ 127 → ⊥) → opened_responses device ≡ opening (header true device 7 None)
unfolding opened_responses
response_opening device n = go (leb device 127) refl
  where
    go : (b : Bool) → leb device 127 ≡ b
        → (check b 5 then check (not (eqb device 127)) 3 then opening (header true device 7 None)) ≡ opening (header true device 7 None)
    go true e = rw (ne_eqb device 127 n)
    go false e = sym (opening_device (header true device 7 None) (leb-false device 127 e))

pub opens_responses : (device : ℕ) (w : Writing) (o : Answer ℕ) → (device ≡ 127 → ⊥) → w ≡ opens_at o
    → o ≡ reached (opening (header true device 7 None)) → w ≡ begun (opened_responses device)
opens_responses device w o n p q =
    p
    ∙ ap opens_at q
    ∙ opens (opening (header true device 7 None)) (opening_whole device 7 refl (lit≤ tt))
    ∙ ap begun (sym (response_opening device n))

-- ---- before a call

pub as_it_is : (w : Writing) → w.items ≤ 256 → w.at ≤ 40000 → w.stop ≡ (or_failed w).stop
unfolding or_failed
as_it_is w l h = rw (le-leb w.items 256 l, le-leb w.at 40000 h)

-- Below 256 items and up to 40,000 it has its own refusal, if any.
pub ready_kept : (w : Writing) → w.items < 256 → w.at ≤ 40000 → w.stop ≡ ready w
unfolding ready
ready_kept w l h =
    go w.stop
    ∙ ap₂ (λ (s : Option Refusal) (b : Bool). (resume [] s (check b 10)).stop) (as_it_is w (omega arith) h) (sym (lt-ltb w.items 256 l))
  where
    go : (s : Option Refusal) → s ≡ (resume [] s (check true 10)).stop
    go None = refl
    go (Some r) = refl

-- ---- an item

module _ (w : Writing) where
  -- A failed writing has its refusal ready, a full one 10, any other none.
  pub ready_failed : (r : Refusal) → (or_failed w).stop ≡ Some r → Some r ≡ ready w
  unfolding ready
  ready_failed r h = sym (ap (λ (s : Option Refusal). (resume [] s (check (ltb w.items 256) 10)).stop) h)

  -- A writing that takes an item goes on, with fewer than 256.
  pub ready_told : ready w ≡ None → ((or_failed w).stop ≡ None) × (w.items < 256)
  unfolding ready
  ready_told h =
      let k = then_accepted (record { bytes = []; stop = (or_failed w).stop }) (check (ltb w.items 256) 10) h in
      (k.0, ltb-true w.items 256 (check_held (ltb w.items 256) 10 k.1))

module _ (w : Writing) (e : Emission) where
  -- A writing with a refusal repeats it.
  pub repeats : (r : Refusal) → ready w ≡ Some r → admitted w e ≡ record { bytes = []; stop = Some r }
  unfolding admitted
  repeats r h = rw h

  -- The item's own emission.
  pub takes : ready w ≡ None → admitted w e ≡ e
  unfolding admitted
  takes h = rw h

  -- What a call answers and leaves, from what goes out of it.
  abbrev pub Gives : Writing → Option Refusal → List ℕ → List ℕ → Type 0
  Gives after stop out left =
      ((after ≡ writing_after w e) × (stop ≡ (admitted w e).stop)) × (left ≡ overlay out w.at (admitted w e).bytes)

-- ---- closing

module _ (w : Writing) where
  pub close_repeats : (r : Refusal) → (or_failed w).stop ≡ Some r → closed_message w ≡ record { bytes = []; stop = Some r }
  unfolding closed_message
  close_repeats r h = rw h

  pub close_empty : (or_failed w).stop ≡ None → w.at < 5 → closed_message w ≡ refusing 2
  unfolding closed_message
  close_empty h l = rw (h, below_range 5 53 w.at l)

  pub close_long : (or_failed w).stop ≡ None → 5 ≤ w.at → 53 ≤ w.at → closed_message w ≡ refusing 2
  unfolding closed_message
  close_long h l m = rw (h, above_range 5 53 w.at l m)

  pub close_sent : (or_failed w).stop ≡ None → 5 ≤ w.at → w.at < 53 → closed_message w ≡ sent (247 ∷ [])
  unfolding closed_message
  close_sent h l m = rw (h, within_range 5 53 w.at l m)

  pub ends_closed : (a : Answer ℕ) (out left : List ℕ) → closed_message w ≡ sent (247 ∷ []) → w.at < 53
      → a ≡ closing w.at (length out) → left ≡ overlay out w.at (247 ∷ [])
      → length out ≤ 18446744073709551615
      → (a ≡ whole_message w (length out)) × (left ≡ overlay out w.at (closed_message w).bytes)
  unfolding whole_message
  ends_closed a out left q m p l room = (
    p ∙ go (leb (w.at + 1) (length out)) refl ∙ ap (λ (x : Emission). answer_in x.stop (w.at + 1) (length out)) (sym q),
    l ∙ ap (λ (x : Emission). overlay out w.at x.bytes) (sym q),
  )
    where
      go : (b : Bool) → leb (w.at + 1) (length out) ≡ b → closing w.at (length out) ≡ fitted (leb (w.at + 1) (length out)) (w.at + 1)
      go true e = closing_fits w.at (length out) (omega (arith, leb-true (w.at + 1) (length out) e)) room ∙ rw e
      go false e = closing_short w.at (length out) (omega (arith, leb-false (w.at + 1) (length out) e)) (omega arith) ∙ rw e

-- ---- what a call leaves of a known emission, and a writing moved on by it
