-- The laws of writing. The calls of a writing one by one answer and leave what mmc.rs does with the whole list in one piece; what is
-- accepted, and what is then read back; what a failed writer does; how far any calls get. Assumes nothing.
use Rattle.std.specs.Prelude.{Option, Some, None}
use Prim.Native.Nat.{ℕ, suc, ◌+◌, ◌≤◌, ◌<◌, suc-le-suc}
use mathlib.Core.Path.{◌≡◌, refl, sym, ap, subst, ◌∙◌}
use mathlib.Core.Bool.{Bool, true, false, cond, ◌&&◌}
use mathlib.Core.Logic.{◌⊎◌, inl, inr, ◌↔◌}
use mathlib.Core.List.{List, [], ◌∷◌, ◌++◌}
use native.Mathlib.Nat.{add-zero, zero-lt-suc}
use native.Mathlib.Omega.{arith}
use borrow.Author.Tests.{ne_eqb}
use lib.Dec.{leb, lit≤}
use lib.ListN.{length, take, get_or, length-append}
use Rattle.mmc.specs.declared.length.Kind.{Kind}
use Rattle.mmc.specs.declared.length.Kind.TheVariants.{Commands, Fields}
use Rattle.mmc.specs.Length.{within}
use Rattle.mmc.specs.Named.{extent_of, name_fits}
use Rattle.mmc.specs.Rp013.{Item, Message, sub_id1_of, last_device, envelope}
use Rattle.mmc.specs.Strings.{Given, emission, emissions, pairs_of, any_zeros, item_bytes, pair_of, AcceptedItem, read_from, rule_of, with_count, data_fits, item_fits, meanings}
use Rattle.mmc.specs.Message.{message_from}
use Rattle.mmc.specs.Write as W
use Rattle.mmc.specs.Write.{Writing, or_failed, opened_commands, admitted, writing_past, closed_fields, whole_message, whole_fields}
use Rattle.mmc.specs.Writings.{State, opened, after_item, after_items, opening_of, string_state, string_answer, string_left, string_of, header_of, up_to_close, body_of, fields_opened, fields_answer, fields_left}
use Rattle.mmc.specs.WholeLists.{message_emission, fields_emission, Accepts, AcceptsFields, checks, checks_by, AllAccepted, NoneRefused, NoneRefusedFields, ReadBack, Entry, entry_emission, after_entry, after_entries, entries_emission, HoldsAll, Repeats, InLimits}
use Rattle.universal.specs.Refusals.{Refusal, refusal, gives}
use Rattle.universal.specs.Emission.{Emission, sent, refusing, check, resume, ◌then◌, answer, answer_in}
use Rattle.universal.specs.Overlay.{overlay}
use Rattle.universal.proofs.Laws.{overlay_none, then_sent, then_assoc, then_accepted, answer_fits, answer_gives, opening_plain, all_low_byte, none_some}
use Rattle.mmc.proofs.Writing.HeldEmissions.{entry_small, OpensWhole, opens_whole, opened_kept, fields_kept, Holds, holds_entries, holds_items, holds_opened, holds_fields, rule_of_48, ends_message, ends_fields, checks_by_lem}
use Rattle.universal.proofs.Tests.{and_parts}
use Rattle.mmc.proofs.Writing.EmissionPuts.{name_length}
use Rattle.mmc.proofs.RangeTests.{within_range}
use Rattle.mmc.proofs.StringLaws.{item_accepted, list_accepted, list_message, written_reads_back, string_message}
use Rattle.mmc.proofs.Writing.WriterCalls.{ready_failed, repeats, response_opening, close_repeats}
use Rattle.mmc.proofs.Writing.AcceptedWritings.{not_failed, AcceptedEmission, emission_accepted, all_accepted, answer_in_gives, overlay_front, WrittenWhole, written_whole, KeptByCalls, after_kept}

-- ---- a whole list, in one piece

-- The calls of a writing of up to 256 items answer what mmc.rs answers of the whole list, and leave what it leaves, refused or not.
pub string_whole : (kind : Kind) (device : ℕ) (gs : List (Given kind)) (out : List ℕ) → length gs ≤ 256
    → (string_answer kind device gs out ≡ answer (message_emission kind device gs) (length out))
    × (string_left kind device gs out ≡ overlay out 0 (message_emission kind device gs).bytes)
unfolding string_answer string_left string_state message_emission
string_whole kind device gs out few =
    let h = holds_items kind out gs (opening_of kind device) (opened (opening_of kind device) out) (holds_opened kind device out) few in
    let k = ends_message out (opening_of kind device then emissions kind gs) (0 + length gs) (string_state kind device gs out) h in
    let same = by_body (emissions kind gs) (opening_of kind device) (opens_whole kind device) in
    (k.answers ∙ ap (λ (e : Emission). answer e (length out)) same, k.leaves ∙ ap (λ (e : Emission). overlay out 0 e.bytes) same)
  where
    tail : Bool → Emission
    tail b = check b 2 then sent (247 ∷ [])

    -- The rule of 48 by the position is the rule by the body, after an opening that went out or was refused.
    by_body : (i o : Emission)
        → ((k : ℕ) × (o ≡ refusing k)) ⊎ ((device ≤ last_device kind) × (o ≡ sent (240 ∷ 127 ∷ device ∷ sub_id1_of kind ∷ [])))
        → (o then i) then tail (within 5 53 (length (o then i).bytes)) ≡ o then i then tail (within 1 49 (length i.bytes))
    by_body i o (inl p) = rw p.1
    by_body i o (inr p) =
        rw p.1
        (ap (λ (b : Bool). (sent (240 ∷ 127 ∷ device ∷ sub_id1_of kind ∷ []) then i) then tail b)
        (ap (within 5 53) (length-append (240 ∷ 127 ∷ device ∷ sub_id1_of kind ∷ []) i.bytes) ∙ rule_of_48 (length i.bytes))
        ∙ then_assoc (sent (240 ∷ 127 ∷ device ∷ sub_id1_of kind ∷ [])) i (tail (within 1 49 (length i.bytes))))

-- So do the calls of a string of fields.
pub fields_whole : (gs : List (Given Fields)) (out : List ℕ) → length gs ≤ 256
    → (fields_answer gs out ≡ answer (fields_emission gs) (length out)) × (fields_left gs out ≡ overlay out 0 (fields_emission gs).bytes)
unfolding fields_answer fields_left
fields_whole gs out few =
    let h = holds_items Fields out gs (sent []) (fields_opened out) (holds_fields out) few in
    (ends_fields out (emissions Fields gs) (0 + length gs) (after_items Fields (fields_opened out) gs) h, h.out)

-- Each item is answered by what was emitted so far: nothing up to the first that is refused, and from it on that refusal.
pub string_checks : (kind : Kind) (device : ℕ) (gs : List (Given kind)) (out : List ℕ) → length gs ≤ 256
    → checks kind (opened (opening_of kind device) out) gs ≡ checks_by kind (opening_of kind device) gs
string_checks kind device gs out few =
    checks_by_lem kind out gs (opening_of kind device) 0 (opened (opening_of kind device) out) (holds_opened kind device out) (omega arith)

pub fields_checks : (gs : List (Given Fields)) (out : List ℕ) → length gs ≤ 256
    → checks Fields (fields_opened out) gs ≡ checks_by Fields (sent []) gs
fields_checks gs out few = checks_by_lem Fields out gs (sent []) 0 (fields_opened out) (holds_fields out) (omega arith)

-- ---- what is accepted

-- An item that fits has a name, so at least one byte.
item_some : (kind : Kind) (x : Item) → item_fits kind x ≡ true → 1 ≤ length (item_bytes kind x)
unfolding item_fits item_bytes
item_some kind x h =
    let n : 1 ≤ length x.name = (name_length x.name (and_parts (name_fits x.name) (data_fits (rule_of kind x) x.«data») h).0).0 in
    omega (arith, length-append x.name (with_count (rule_of kind x) x.«data»))

-- An accepted item has at least one byte, so an accepted list has no more items than bytes.
few_items : (kind : Kind) (gs : List (Given kind)) → (emissions kind gs).stop ≡ None → length gs ≤ length (emissions kind gs).bytes
unfolding emissions
few_items kind [] h = lit≤ tt
few_items kind (g ∷ gs) h =
    let t = then_accepted (emission kind g) (emissions kind gs) h in
    let s : AcceptedItem kind (pair_of kind g) (emission kind g).bytes = item_accepted kind g t.0 in
    let one : 1 ≤ length (emission kind g).bytes = rw s.are_item_bytes (item_some kind (pair_of kind g) s.fits) in
    let rest = few_items kind gs t.1 in
    let b : length (emissions kind (g ∷ gs)).bytes ≡ length (emission kind g).bytes + length (emissions kind gs).bytes =
    ap (λ (x : Emission). length x.bytes) (then_sent (emission kind g) (emissions kind gs) t.0)
    ∙ length-append (emission kind g).bytes (emissions kind gs).bytes in
    omega (arith, b)

device_of : (kind : Kind) (device : ℕ) → (opening_of kind device).stop ≡ None → device ≤ last_device kind
device_of kind device h = go (opens_whole kind device)
  where
    go : OpensWhole kind device → device ≤ last_device kind
    go (inl p) = absurd (none_some (refusal p.0) (sym (ap (λ (e : Emission). e.stop) p.1) ∙ h))
    go (inr p) = p.0

opening_sent : (kind : Kind) (device : ℕ) → device ≤ last_device kind
    → opening_of kind device ≡ sent (240 ∷ 127 ∷ device ∷ sub_id1_of kind ∷ [])
unfolding opened_commands
opening_sent Commands device d = opening_plain true device 6 d refl (lit≤ tt)
opening_sent Fields device d =
    response_opening device (λ e. omega arith) ∙ opening_plain true device 7 (omega arith) refl (lit≤ tt)

-- A writing is accepted exactly where `Accepts` holds.
pub string_accepted : (kind : Kind) (device : ℕ) (gs : List (Given kind)) (out : List ℕ) (n : ℕ)
    → (string_answer kind device gs out ≡ gives n) ↔ Accepts kind device gs (length out) n
unfolding message_emission
string_accepted kind device gs out n = (
  λ h.
      let w : WrittenWhole kind device gs out n = written_whole kind device gs out n h in
      record {
        items = w.accepted;
        device_in_range = device_of kind device w.opened;
        least = w.some_body;
        most = w.most_body;
        whole = w.whole;
        room_for = w.fits;
      },
  λ a.
      let bs : List ℕ = (emissions kind gs).bytes in
      let few : length gs ≤ 256 = omega (arith, few_items kind gs a.items, a.most) in
      let e : message_emission kind device gs ≡ sent ((240 ∷ 127 ∷ device ∷ sub_id1_of kind ∷ []) ++ bs ++ 247 ∷ []) =
      rw (opening_sent kind device a.device_in_range, within_range 1 49 (length bs) a.least (omega (arith, a.most)))
      (ap (λ (t : Option Refusal). sent (240 ∷ 127 ∷ device ∷ sub_id1_of kind ∷ []) then resume bs t (sent (247 ∷ []))) a.items) in
      let l : length ((240 ∷ 127 ∷ device ∷ sub_id1_of kind ∷ []) ++ bs ++ 247 ∷ []) ≡ n =
      omega (arith, a.whole, length-append bs (247 ∷ [])) in
      (string_whole kind device gs out few).0
      ∙ answer_fits (message_emission kind device gs) (length out) (ap (λ (x : Emission). x.stop) e)
      (rw e (omega (arith, a.room_for, l)))
      ∙ ap gives (ap (λ (x : Emission). length x.bytes) e ∙ l),
)

-- Where the writing after a list has no refusal, none of the list was refused.
each_accepted : (kind : Kind) (gs : List (Given kind)) (s : State) → (after_items kind s gs).writing.stop ≡ None
    → AllAccepted (checks kind s gs)
unfolding after_items checks W.writing_after
each_accepted kind [] s h = tt
each_accepted kind (g ∷ gs) s h =
    ((all_accepted kind gs (after_item kind s g) h).going, each_accepted kind gs (after_item kind s g) h)

-- A writing is accepted just where none of its calls is refused.
pub accepted_none_refused : (kind : Kind) (device : ℕ) (gs : List (Given kind)) (out : List ℕ) (n : ℕ)
    → (string_answer kind device gs out ≡ gives n) ↔ NoneRefused kind device gs out n
unfolding string_answer string_state
accepted_none_refused kind device gs out n = (
  λ h.
      let w : WrittenWhole kind device gs out n = written_whole kind device gs out n h in
      record {
        opening = w.opened;
        items = each_accepted kind gs (opened (opening_of kind device) out) w.going;
        close = h;
      },
  λ r. r.close,
)

-- ---- strings of fields, likewise

-- A list that no call refused has at most 256 items.
few_accepted : (kind : Kind) (gs : List (Given kind)) (s : State) → s.writing.items ≤ 256 → (after_items kind s gs).writing.stop ≡ None
    → s.writing.items + length gs ≤ 256
unfolding after_items W.writing_after
few_accepted kind [] s l h = omega arith
few_accepted kind (g ∷ gs) s l h =
    let t : AcceptedEmission s.writing (emission kind g) = emission_accepted s.writing (emission kind g) (all_accepted kind gs (after_item kind s g) h).going in
    let one : (after_item kind s g).writing.items ≡ s.writing.items + 1 =
    ap (λ (e : Emission). W.item_count_after e.stop s.writing.items) t.whole ∙ ap (λ (k : Option Refusal). W.item_count_after k s.writing.items) t.own in
    let rest = few_accepted kind gs (after_item kind s g) (omega (arith, t.room)) h in
    omega (arith, one)

-- The close of a string of fields that answered a length came after no refusal.
fields_going : (w : Writing) (room n : ℕ) → whole_fields w room ≡ gives n → w.stop ≡ None
unfolding whole_fields closed_fields
fields_going w room n h =
    not_failed w (then_accepted (record { bytes = []; stop = (or_failed w).stop }) (sent []) (answer_in_gives (closed_fields w).stop w.at room n h).0).0

-- A string of fields is accepted exactly where `AcceptsFields` holds.
pub fields_accepted : (gs : List (Given Fields)) (out : List ℕ) (n : ℕ)
    → (fields_answer gs out ≡ gives n) ↔ AcceptsFields gs (length out) n
unfolding fields_answer
fields_accepted gs out n = (
  λ h.
      let g = fields_going (after_items Fields (fields_opened out) gs).writing (length out) n h in
      let few : length gs ≤ 256 = omega (arith, few_accepted Fields gs (fields_opened out) (lit≤ tt) g) in
      let t = all_accepted Fields gs (fields_opened out) g in
      let k = answer_gives (emissions Fields gs) (length out) n (sym (fields_whole gs out few).0 ∙ h) in
      record { items = t.own; few = few; whole = k.0; room_for = k.1 },
  λ a.
      (fields_whole gs out a.few).0
      ∙ answer_fits (emissions Fields gs) (length out) a.items (omega (arith, a.whole, a.room_for))
      ∙ ap gives (sym a.whole),
)

-- It is so just where none of its calls is refused.
pub fields_none_refused : (gs : List (Given Fields)) (out : List ℕ) (n : ℕ) → (fields_answer gs out ≡ gives n) ↔ NoneRefusedFields gs out n
unfolding fields_answer
fields_none_refused gs out n = (
  λ h.
      record {
        items =
            each_accepted Fields gs (fields_opened out)
            (fields_going (after_items Fields (fields_opened out) gs).writing (length out) n h);
        close = h;
      },
  λ r. r.close,
)

-- What it then left is the list's own bytes, which read back as each item's name and data are read, to the end.
pub fields_read_back : (gs : List (Given Fields)) (out : List ℕ) (n : ℕ) → fields_answer gs out ≡ gives n
    → (take n (fields_left gs out) ≡ (emissions Fields gs).bytes)
    × (read_from Fields (take n (fields_left gs out)) 0 ≡ record { items = meanings Fields 0 (pairs_of Fields gs); stop = refusal 9 })
fields_read_back gs out n h =
    let a = (fields_accepted gs out n).0 h in
    let b : take n (fields_left gs out) ≡ (emissions Fields gs).bytes =
    ap (take n) (fields_whole gs out a.few).1 ∙ overlay_front out (emissions Fields gs).bytes n a.whole a.room_for in
    (b, ap (λ (s : List ℕ). read_from Fields s 0) b ∙ written_reads_back Fields gs a.items)

-- ---- what an accepted writing is

-- It is the list's bytes in the envelope of its kind, as many as were answered.
pub string_written : (kind : Kind) (device : ℕ) (gs : List (Given kind)) (out : List ℕ) (n : ℕ)
    → string_answer kind device gs out ≡ gives n → string_of kind device gs out n ≡ envelope kind device (emissions kind gs).bytes
string_written kind device gs out n h = (written_whole kind device gs out n h).left

-- It is RP-013's message, where none of its items is named 00 00 00: commands, or responses.
pub accepted_message : (kind : Kind) (device : ℕ) (gs : List (Given kind)) (out : List ℕ) (n : ℕ)
    → string_answer kind device gs out ≡ gives n → any_zeros (pairs_of kind gs) ≡ false
    → Message kind device (emissions kind gs).bytes (string_of kind device gs out n)
accepted_message kind device gs out n h z =
    let w : WrittenWhole kind device gs out n = written_whole kind device gs out n h in
    subst (Message kind device (emissions kind gs).bytes) (sym w.left)
    (list_message kind device gs w.accepted (device_of kind device w.opened) z w.some_body w.most_body)

-- Bytes to 7FH stand before the closing F7H.
up_to_close_lem : (bs : List ℕ) → ((i : ℕ) → i < length bs → get_or bs i 0 ≤ 127) → up_to_close (bs ++ 247 ∷ []) ≡ bs
unfolding up_to_close
up_to_close_lem [] h = refl
up_to_close_lem (b ∷ bs) h =
    let l : b ≤ 127 = h 0 (zero-lt-suc (length bs)) in
    rw (ne_eqb b 247 (λ e. omega arith)) (ap (λ (t : List ℕ). b ∷ t) (up_to_close_lem bs (λ i k. h (suc i) (suc-le-suc k))))

-- An accepted writing reads back as `ReadBack` says, commands and responses alike.
pub accepted_reads_back : (kind : Kind) (device : ℕ) (gs : List (Given kind)) (out : List ℕ) (n : ℕ)
    → string_answer kind device gs out ≡ gives n → ReadBack kind device gs (string_of kind device gs out n)
accepted_reads_back kind device gs out n h =
    let w : WrittenWhole kind device gs out n = written_whole kind device gs out n h in
    let bs : List ℕ = (emissions kind gs).bytes in
    let d : body_of (string_of kind device gs out n) ≡ bs =
    ap body_of w.left ∙ up_to_close_lem bs (λ i. all_low_byte bs i (list_accepted kind gs w.accepted).low) in
    record {
      device_in_range = device_of kind device w.opened;
      body = d;
      message =
          ap (message_from (header_of (string_of kind device gs out n))) d
          ∙ ap (λ (s : List ℕ). message_from (header_of s) bs) w.left
          ∙ string_message kind device bs w.some_body;
      whole = ap (λ (s : List ℕ). read_from kind s 0) d ∙ written_reads_back kind gs w.accepted;
    }

-- ---- a failed writer, and how far any calls get

repeats_now : (r : Refusal) (s t : State) → (or_failed t.writing).stop ≡ Some r → t.writing.at ≡ s.writing.at → t.out ≡ s.out
    → Repeats r s t
unfolding whole_message whole_fields closed_fields
repeats_now r s t f p u =
    let c = close_repeats t.writing r f in
    record {
      failed = f;
      position = p;
      untouched = u;
      next_item = λ x. repeats t.writing (entry_emission x) r (sym (ready_failed t.writing r f));
      is_message = λ room. ap (λ (e : Emission). answer_in e.stop (t.writing.at + 1) room) c;
      no_close = ap (λ (e : Emission). e.bytes) c;
      as_fields = λ room. ap (λ (k : Option Refusal). answer_in (resume [] k (sent [])).stop t.writing.at room) f;
    }

-- One more call leaves it failed by the same refusal.
still_failed : (w : Writing) (e : Emission) (r : Refusal) → (or_failed w).stop ≡ Some r
    → ((or_failed (W.writing_after w e)).stop ≡ Some r) × ((W.writing_after w e).at ≡ w.at) × ((admitted w e).bytes ≡ [])
unfolding W.writing_after or_failed
still_failed w e r f =
    let a : admitted w e ≡ record { bytes = []; stop = Some r } = repeats w e r (sym (ready_failed w r f)) in
    let near : (W.writing_after w e).at ≡ w.at = ap (λ (x : Emission). w.at + length x.bytes) a ∙ add-zero w.at in (
      ap (λ (x : Emission). (or_failed (writing_past w (extent_of x))).stop) a
          ∙ ap (λ (k : ℕ). (cond {A = Writing} (leb w.items 256 && leb k 40000) (by k (Some r)) (by k (Some (refusal 10)))).stop) (add-zero w.at)
          ∙ go (leb w.items 256 && leb w.at 40000) f,
      near,
      ap (λ (x : Emission). x.bytes) a,
    )
  where
    by : ℕ → Option Refusal → Writing
    by k t = record { at = k; items = w.items; stop = t }

    go : (b : Bool) → (cond {A = Writing} b w (by w.at (Some (refusal 10)))).stop ≡ Some r
        → (cond {A = Writing} b (by w.at (Some r)) (by w.at (Some (refusal 10)))).stop ≡ Some r
    go true q = refl
    go false q = q

-- A failed writer repeats its first refusal and writes nothing more, over any list of further calls.
pub failed_repeats : (xs : List Entry) (s : State) (r : Refusal) → (or_failed s.writing).stop ≡ Some r → Repeats r s (after_entries s xs)
unfolding after_entries
failed_repeats [] s r f = repeats_now r s s f refl refl
failed_repeats (x ∷ xs) s r f =
    let n = still_failed s.writing (entry_emission x) r f in
    let t = failed_repeats xs (after_entry s x) r n.0 in
    repeats_now r s (after_entries (after_entry s x) xs) t.failed (t.position ∙ n.1)
    (t.untouched ∙ ap (overlay s.out s.writing.at) n.2 ∙ overlay_none s.out s.writing.at)

-- Any calls keep a writing from its limits.
entries_kept : (xs : List Entry) (s : State) → KeptByCalls s.writing → KeptByCalls (after_entries s xs).writing
unfolding after_entries
entries_kept [] s k = k
entries_kept (x ∷ xs) s k =
    entries_kept xs (after_entry s x) (after_kept s.writing (entry_emission x) k (entry_small x))

in_limits : (w : Writing) → KeptByCalls w → InLimits w
in_limits w k = record { items = k.few; position = omega (arith, k.few, k.near) }

-- No list of calls from an opening leaves a writer past its limits: one of commands or responses, or of a string of fields.
pub message_in_limits : (kind : Kind) (device : ℕ) (out : List ℕ) (xs : List Entry)
    → InLimits (after_entries (opened (opening_of kind device) out) xs).writing
message_in_limits kind device out xs =
    in_limits (after_entries (opened (opening_of kind device) out) xs).writing
    (entries_kept xs (opened (opening_of kind device) out) (opened_kept kind device))

pub fields_in_limits : (out : List ℕ) (xs : List Entry) → InLimits (after_entries (fields_opened out) xs).writing
fields_in_limits out xs = in_limits (after_entries (fields_opened out) xs).writing (entries_kept xs (fields_opened out) fields_kept)

-- ---- commands and fields in one writing

holds_all : (found : List ℕ) (e : Emission) (most : ℕ) (s : State) → Holds found e most s → HoldsAll found e s
holds_all found e most s h =
    let k = ends_message found e most s h in
    record {
      position = h.at;
      refused_by = h.stop;
      left = h.out;
      is_message = k.answers;
      message_left = k.leaves;
      as_fields = ends_fields found e most s h;
    }

-- After an opening of commands or of responses.
pub message_entries : (kind : Kind) (device : ℕ) (out : List ℕ) (xs : List Entry) → length xs ≤ 256
    → HoldsAll out (opening_of kind device then entries_emission xs) (after_entries (opened (opening_of kind device) out) xs)
message_entries kind device out xs few =
    holds_all out (opening_of kind device then entries_emission xs) (0 + length xs) (after_entries (opened (opening_of kind device) out) xs)
    (holds_entries out xs (opening_of kind device) 0 (opened (opening_of kind device) out) (holds_opened kind device out) (omega arith))

-- In a string of fields.
pub fields_entries : (out : List ℕ) (xs : List Entry) → length xs ≤ 256
    → HoldsAll out (entries_emission xs) (after_entries (fields_opened out) xs)
fields_entries out xs few =
    holds_all out (entries_emission xs) (0 + length xs) (after_entries (fields_opened out) xs)
    (holds_entries out xs (sent []) 0 (fields_opened out) (holds_fields out) (omega arith))
