-- A writing and its buffer hold what was emitted into them: after an opening, after each entry of a list, and at the close.
-- Assumes nothing.
use Rattle.std.specs.Prelude.{Option, Some, None}
use Prim.Native.Nat.{ℕ, suc, ◌+◌, ◌≤◌, ◌<◌}
use mathlib.Core.Path.{◌≡◌, refl, sym, ap, ap₂, subst, ◌∙◌}
use mathlib.Core.Bool.{Bool, true, false}
use mathlib.Core.Logic.{◌⊎◌, inl, inr}
use mathlib.Core.List.{List, [], ◌∷◌, ◌++◌, map, append-nil}
use native.Mathlib.Nat.{add-zero, zero-add}
use native.Mathlib.Omega.{arith}
use borrow.Author.Tests.{leb-true, leb-false}
use lib.Dec.{leb, lit≤}
use lib.ListN.{length, length-append}
use Rattle.mmc.specs.declared.length.Kind.{Kind}
use Rattle.mmc.specs.declared.length.Kind.TheVariants.{Commands, Fields}
use Rattle.mmc.specs.Length.{within}
use Rattle.mmc.specs.Rp013.{sub_id1_of, last_device}
use Rattle.mmc.specs.Strings.{Given, emission, emissions}
use Rattle.mmc.specs.Write as W
use Rattle.mmc.specs.Write.{Writing, or_failed, opened_commands, opened_fields, begun, admitted, closed_message, closed_fields, whole_message, whole_fields}
use Rattle.mmc.specs.Writings.{State, opened, after_item, after_items, opening_of, fields_opened}
use Rattle.mmc.specs.WholeLists.{checks, checks_by, Entry, entry, entry_emission, after_entry, after_entries, entries_emission}
use Rattle.universal.specs.Refusals.{Refusal}
use Rattle.universal.specs.Emission.{Emission, sent, refusing, check, resume, ◌then◌, fitted, answer_in, answer}
use Rattle.universal.specs.Message.{header}
use Rattle.universal.specs.Overlay.{overlay}
use Rattle.universal.proofs.Laws.{overlay_none, overlay_append, then_sent, then_refused, then_assoc, answer_by, opening_device, opening_plain}
use Rattle.mmc.proofs.Writing.ItemPuts.{command_small, field_small}
use Rattle.mmc.proofs.RangeTests.{within_range, below_range, above_range}
use Rattle.mmc.proofs.Writing.WriterCalls.{ready_kept, ready_failed, repeats, takes, no_response, response_opening}
use Rattle.mmc.proofs.Writing.AcceptedWritings.{KeptByCalls, kept_not_failed, after_kept}

-- Every entry emits at most 131 bytes.
pub entry_small : (e : Entry) → length (entry_emission e).bytes ≤ 131
entry_small e = go e.kind e.item
  where
    go : (kind : Kind) (g : Given kind) → length (emission kind g).bytes ≤ 131
    go Commands g = command_small g.source g.meant
    go Fields g = field_small g.source g.meant

-- Nothing after an emission adds nothing.
then_nothing : (e : Emission) → e then sent [] ≡ e
then_nothing e = go e.stop
  where
    go : (s : Option Refusal) → resume e.bytes s (sent []) ≡ record { bytes = e.bytes; stop = s }
    go None = ap (λ (l : List ℕ). record { bytes = l; stop = None }) (append-nil e.bytes)
    go (Some r) = refl

-- ---- openings

-- An opening that goes out whole, four bytes, or is refused with nothing out.
abbrev pub OpensWhole : Kind → ℕ → Type 0
OpensWhole kind device =
    ((k : ℕ) × (opening_of kind device ≡ refusing k))
    ⊎ ((device ≤ last_device kind) × (opening_of kind device ≡ sent (240 ∷ 127 ∷ device ∷ sub_id1_of kind ∷ [])))

pub opens_whole : (kind : Kind) (device : ℕ) → OpensWhole kind device
unfolding opened_commands
opens_whole Commands device = go (leb device 127) refl
  where
    go : (b : Bool) → leb device 127 ≡ b → OpensWhole Commands device
    go true e = inr (leb-true device 127 e, opening_plain true device 6 (leb-true device 127 e) refl (lit≤ tt))
    go false e = inl (5, opening_device (header true device 6 None) (leb-false device 127 e))
opens_whole Fields device = go (leb device 126) (leb device 127) refl refl
  where
    go : (a b : Bool) → leb device 126 ≡ a → leb device 127 ≡ b → OpensWhole Fields device
    go true b e f =
        let l : device ≤ 126 = leb-true device 126 e in
        let n : device ≡ 127 → ⊥ = λ q. omega arith in
        inr (l, response_opening device n ∙ opening_plain true device 7 (omega arith) refl (lit≤ tt))
    go false true e f =
        let q : device ≡ 127 = omega (arith, leb-false device 126 e, leb-true device 127 f) in
        inl (3, no_response device q)
    go false false e f =
        let l : 127 < device = leb-false device 127 f in
        let n : device ≡ 127 → ⊥ = λ q. omega arith in
        inl (5, response_opening device n ∙ opening_device (header true device 7 None) l)

-- What an opening leaves is far from the limits.
begun_kept : (e : Emission) → length e.bytes ≤ 4 → KeptByCalls (begun e)
unfolding begun
begun_kept e h = record { few = lit≤ tt; near = omega arith; going = λ _. omega arith }

pub opened_kept : (kind : Kind) (device : ℕ) → KeptByCalls (begun (opening_of kind device))
opened_kept kind device = begun_kept (opening_of kind device) (go (opens_whole kind device))
  where
    go : OpensWhole kind device → length (opening_of kind device).bytes ≤ 4
    go (inl p) = rw p.1 (lit≤ tt)
    go (inr p) = rw p.1 (lit≤ tt)

pub fields_kept : KeptByCalls opened_fields
fields_kept = record { few = lit≤ tt; near = lit≤ tt; going = λ _. lit≤ tt }

-- ---- a writing that holds an emission

-- A writing and its buffer hold what was emitted into a buffer as it was found, by so many items at most.
pub record Holds (found : List ℕ) (e : Emission) (most : ℕ) (s : State) : Type 0 where
  pub at : s.writing.at ≡ length e.bytes
  pub items : s.writing.items ≤ most
  pub stop : s.writing.stop ≡ e.stop
  pub out : s.out ≡ overlay found 0 e.bytes
  pub kept : KeptByCalls s.writing

-- An item after a refusal leaves what was held.
holds_refused : (found : List ℕ) (e i : Emission) (most : ℕ) (w : Writing) (out : List ℕ) (r : Refusal)
    → Holds found e most (record { writing = w; out = out }) → e.stop ≡ Some r → length i.bytes ≤ 131
    → Holds found (e then i) (suc most) (record { writing = W.writing_after w i; out = overlay out w.at (admitted w i).bytes })
unfolding W.writing_after
holds_refused found e i most w out r h q small =
    let r-stop : (or_failed w).stop ≡ Some r = ap (λ (x : Writing). x.stop) (kept_not_failed w h.kept) ∙ h.stop ∙ q in
    let a : admitted w i ≡ record { bytes = []; stop = Some r } = repeats w i r (sym (ready_failed w r r-stop)) in
    let t : e then i ≡ e = then_refused e i r q in
    record {
      at = ap (λ (x : Emission). w.at + length x.bytes) a ∙ add-zero w.at ∙ h.at ∙ ap (λ (x : Emission). length x.bytes) (sym t);
      items = rw a (omega (arith, h.items));
      stop = ap (λ (x : Emission). x.stop) a ∙ sym (ap (λ (x : Emission). x.stop) t ∙ q);
      out =
          ap (λ (x : Emission). overlay out w.at x.bytes) a
          ∙ overlay_none out w.at
          ∙ h.out
          ∙ ap (λ (x : Emission). overlay found 0 x.bytes) (sym t);
      kept = after_kept w i h.kept small;
    }

-- An item that is accepted adds its own emission.
holds_accepted : (found : List ℕ) (e i : Emission) (most : ℕ) (w : Writing) (out : List ℕ)
    → Holds found e most (record { writing = w; out = out }) → e.stop ≡ None → most < 256 → length i.bytes ≤ 131
    → Holds found (e then i) (suc most) (record { writing = W.writing_after w i; out = overlay out w.at (admitted w i).bytes })
unfolding W.writing_after
holds_accepted found e i most w out h q few small =
    let near : w.at ≤ 40000 = omega (arith, h.kept.few, h.kept.near) in
    let under : w.items < 256 = omega (arith, h.items) in
    let a : admitted w i ≡ i = takes w i (sym (ready_kept w under near) ∙ h.stop ∙ q) in
    let t : e then i ≡ record { bytes = e.bytes ++ i.bytes; stop = i.stop } = then_sent e i q in
    record {
      at =
          ap (λ (x : Emission). w.at + length x.bytes) a
          ∙ ap (λ (k : ℕ). k + length i.bytes) h.at
          ∙ sym (length-append e.bytes i.bytes)
          ∙ ap (λ (x : Emission). length x.bytes) (sym t);
      items = rw a (one_more i.stop w.items most h.items);
      stop = ap (λ (x : Emission). x.stop) a ∙ ap (λ (x : Emission). x.stop) (sym t);
      out =
          ap (λ (x : Emission). overlay out w.at x.bytes) a
          ∙ ap₂ (λ (l : List ℕ) (k : ℕ). overlay l k i.bytes) h.out (h.at ∙ sym (zero-add (length e.bytes)))
          ∙ sym (overlay_append found 0 e.bytes i.bytes)
          ∙ ap (λ (x : Emission). overlay found 0 x.bytes) (sym t);
      kept = after_kept w i h.kept small;
    }
  where
    one_more : (s : Option Refusal) (n m : ℕ) → n ≤ m → W.item_count_after s n ≤ suc m
    one_more None n m l = omega arith
    one_more (Some r) n m l = omega arith

-- One more entry, and then a list of them.
holds_entry : (found : List ℕ) (e : Emission) (most : ℕ) (s : State) (x : Entry) → Holds found e most s → most < 256
    → Holds found (e then entry_emission x) (suc most) (after_entry s x)
holds_entry found e most s x h few = go e.stop refl
  where
    go : (t : Option Refusal) → e.stop ≡ t → Holds found (e then entry_emission x) (suc most) (after_entry s x)
    go None q = holds_accepted found e (entry_emission x) most s.writing s.out h q few (entry_small x)
    go (Some r) q = holds_refused found e (entry_emission x) most s.writing s.out r h q (entry_small x)

pub holds_entries : (found : List ℕ) (xs : List Entry) (e : Emission) (most : ℕ) (s : State) → Holds found e most s
    → most + length xs ≤ 256 → Holds found (e then entries_emission xs) (most + length xs) (after_entries s xs)
unfolding after_entries entries_emission
holds_entries found [] e most s h few =
    subst (λ (x : Emission). Holds found x (most + 0) s) (sym (then_nothing e))
    (record { at = h.at; items = omega (arith, h.items); stop = h.stop; out = h.out; kept = h.kept })
holds_entries found (x ∷ xs) e most s h few =
    let next : most < 256 = omega arith in
    let rest : suc most + length xs ≤ 256 = omega arith in
    let n : suc most + length xs ≡ most + suc (length xs) = omega arith in
    let all = holds_entries found xs (e then entry_emission x) (suc most) (after_entry s x) (holds_entry found e most s x h next) rest in
    subst (λ (k : ℕ). Holds found (e then (entry_emission x then entries_emission xs)) k (after_entries (after_entry s x) xs)) n
    (subst (λ (y : Emission). Holds found y (suc most + length xs) (after_entries (after_entry s x) xs))
    (then_assoc e (entry_emission x) (entries_emission xs)) all)

-- ---- items of one kind are entries

-- A list of commands or of fields is a list of entries of that kind.
pub items_entries : (kind : Kind) (gs : List (Given kind)) (s : State) → after_items kind s gs ≡ after_entries s (map (entry kind) gs)
unfolding after_items after_entries
items_entries kind [] s = refl
items_entries kind (g ∷ gs) s = items_entries kind gs (after_item kind s g)

-- It emits the same.
pub emissions_entries : (kind : Kind) (gs : List (Given kind)) → emissions kind gs ≡ entries_emission (map (entry kind) gs)
unfolding emissions entries_emission
emissions_entries kind [] = refl
emissions_entries kind (g ∷ gs) = ap (λ (e : Emission). emission kind g then e) (emissions_entries kind gs)

as_many : (kind : Kind) (gs : List (Given kind)) → length (map (entry kind) gs) ≡ length gs
as_many kind [] = refl
as_many kind (g ∷ gs) = ap suc (as_many kind gs)

pub holds_items : (kind : Kind) (found : List ℕ) (gs : List (Given kind)) (e : Emission) (s : State) → Holds found e 0 s
    → length gs ≤ 256 → Holds found (e then emissions kind gs) (0 + length gs) (after_items kind s gs)
holds_items kind found gs e s h few =
    let n : length (map (entry kind) gs) ≡ length gs = as_many kind gs in
    let all = holds_entries found (map (entry kind) gs) e 0 s h (omega arith) in
    subst (λ (t : State). Holds found (e then emissions kind gs) (0 + length gs) t) (sym (items_entries kind gs s))
    (subst (λ (x : Emission). Holds found (e then x) (0 + length gs) (after_entries s (map (entry kind) gs)))
    (sym (emissions_entries kind gs))
    (subst (λ (k : ℕ). Holds found (e then entries_emission (map (entry kind) gs)) (0 + k) (after_entries s (map (entry kind) gs))) n all))

-- A string that was just opened holds its opening; a string of fields holds nothing.
pub holds_opened : (kind : Kind) (device : ℕ) (out : List ℕ) → Holds out (opening_of kind device) 0 (opened (opening_of kind device) out)
unfolding begun
holds_opened kind device out =
    record { at = refl; items = lit≤ tt; stop = refl; out = refl; kept = opened_kept kind device }

pub holds_fields : (out : List ℕ) → Holds out (sent []) 0 (fields_opened out)
holds_fields out =
    record { at = refl; items = lit≤ tt; stop = refl; out = sym (overlay_none out 0); kept = fields_kept }

-- ---- the close

-- The rule of 48 by the position and by the body, which stands after four bytes.
pub rule_of_48 : (n : ℕ) → within 5 53 (4 + n) ≡ within 1 49 n
rule_of_48 n = go (leb 1 n) (leb n 48) refl refl
  where
    go : (a b : Bool) → leb 1 n ≡ a → leb n 48 ≡ b → within 5 53 (4 + n) ≡ within 1 49 n
    go true true e f =
        within_range 5 53 (4 + n) (omega (arith, leb-true 1 n e)) (omega (arith, leb-true n 48 f))
        ∙ sym (within_range 1 49 n (leb-true 1 n e) (omega (arith, leb-true n 48 f)))
    go true false e f =
        above_range 5 53 (4 + n) (omega (arith, leb-true 1 n e)) (omega (arith, leb-false n 48 f))
        ∙ sym (above_range 1 49 n (leb-true 1 n e) (omega (arith, leb-false n 48 f)))
    go false b e f =
        below_range 5 53 (4 + n) (omega (arith, leb-false 1 n e)) ∙ sym (below_range 1 49 n (omega (arith, leb-false 1 n e)))

-- What a close adds to a writing that holds an emission: nothing after a refusal; else F7H by the rule of 48.
closes : (found : List ℕ) (e : Emission) (most : ℕ) (s : State) → Holds found e most s
    → closed_message s.writing ≡ resume [] e.stop (check (within 5 53 (length e.bytes)) 2 then sent (247 ∷ []))
unfolding closed_message
closes found e most s h =
    ap₂ (λ (t : Option Refusal) (k : ℕ). resume [] t (check (within 5 53 k) 2 then sent (247 ∷ [])))
    (ap (λ (w : Writing). w.stop) (kept_not_failed s.writing h.kept) ∙ h.stop) h.at

-- A writing's answer and buffer are those of what it holds and of its end.
pub record HeldToEnd (found : List ℕ) (e : Emission) (s : State) : Type 0 where
  pub answers : whole_message s.writing (length found) ≡ answer e (length found)
  pub leaves : overlay s.out s.writing.at (closed_message s.writing).bytes ≡ overlay found 0 e.bytes

pub ends_message : (found : List ℕ) (e : Emission) (most : ℕ) (s : State) → Holds found e most s
    → HeldToEnd found (e then check (within 5 53 (length e.bytes)) 2 then sent (247 ∷ [])) s
unfolding whole_message
ends_message found e most s h =
    let c = closes found e most s h in
    record {
      answers =
          ap₂ (λ (x : Emission) (k : ℕ). answer_in x.stop (k + 1) (length found)) c h.at
          ∙ go e.stop (within 5 53 (length e.bytes))
          ∙ sym (answer_by (e then check (within 5 53 (length e.bytes)) 2 then sent (247 ∷ [])) (length found));
      leaves =
          ap₂ (λ (x : Emission) (k : ℕ). overlay s.out k x.bytes) c (h.at ∙ sym (zero-add (length e.bytes)))
          ∙ ap (λ (l : List ℕ). overlay l (0 + length e.bytes) (added e.stop (within 5 53 (length e.bytes))).bytes) h.out
          ∙ sym (overlay_append found 0 e.bytes (added e.stop (within 5 53 (length e.bytes))).bytes)
          ∙ ap (overlay found 0) (put e.stop (within 5 53 (length e.bytes)));
    }
  where
    added : Option Refusal → Bool → Emission
    added t b = resume [] t (check b 2 then sent (247 ∷ []))

    put : (t : Option Refusal) (b : Bool) → e.bytes ++ (added t b).bytes ≡ (resume e.bytes t (check b 2 then sent (247 ∷ []))).bytes
    put None b = refl
    put (Some r) b = append-nil e.bytes

    go : (t : Option Refusal) (b : Bool)
        → answer_in (added t b).stop (length e.bytes + 1) (length found)
        ≡ answer_in (resume e.bytes t (check b 2 then sent (247 ∷ []))).stop
        (length (resume e.bytes t (check b 2 then sent (247 ∷ []))).bytes) (length found)
    go None true = ap (λ (k : ℕ). fitted (leb k (length found)) k) (sym (length-append e.bytes (247 ∷ [])))
    go None false = refl
    go (Some r) b = refl

-- Closed as fields it answers its own length.
pub ends_fields : (found : List ℕ) (e : Emission) (most : ℕ) (s : State) → Holds found e most s
    → whole_fields s.writing (length found) ≡ answer e (length found)
unfolding whole_fields closed_fields
ends_fields found e most s h =
    ap₂ (λ (t : Option Refusal) (k : ℕ). answer_in (resume [] t (sent [])).stop k (length found))
    (ap (λ (v : Writing). v.stop) (kept_not_failed s.writing h.kept) ∙ h.stop) h.at
    ∙ go e.stop
    ∙ sym (answer_by e (length found))
  where
    go : (t : Option Refusal) → answer_in (resume [] t (sent [])).stop (length e.bytes) (length found) ≡ answer_in t (length e.bytes) (length found)
    go None = refl
    go (Some r) = refl

-- ---- what each item is answered

-- Each is answered by what was emitted so far.
pub checks_by_lem : (kind : Kind) (found : List ℕ) (gs : List (Given kind)) (e : Emission) (most : ℕ) (s : State) → Holds found e most s
    → most + length gs ≤ 256 → checks kind s gs ≡ checks_by kind e gs
unfolding checks checks_by W.writing_after
checks_by_lem kind found [] e most s h few = refl
checks_by_lem kind found (g ∷ gs) e most s h few =
    let k : Holds found (e then emission kind g) (suc most) (after_item kind s g) =
    holds_entry found e most s (entry kind g) h (omega arith) in
    ap₂ {C = List (Option Refusal)} ◌∷◌ k.stop (checks_by_lem kind found gs (e then emission kind g) (suc most) (after_item kind s g) k (omega arith))
