-- The laws of this crate's definitions: bytes put into a buffer, emissions, and Universal messages. A crate above cites
-- these and opens no definition. Assumes nothing.
use Rattle.std.specs.Prelude.{Option, Some, None}
use mathlib.Core.Path.{◌≡◌, refl, sym, ap, ◌∙◌}
use mathlib.Core.Logic.{◌⊎◌, inl, inr, ⊎_elim, ◌↔◌}
use Prim.Native.Nat.{ℕ, zero, suc, ◌+◌, ◌-◌, ◌≤◌, ◌<◌, suc-le-suc}
use native.Mathlib.Nat.{add-zero, not-suc-le-zero, le_of_suc-le-suc, zero-lt-suc}
use native.Mathlib.Omega.{arith}
use mathlib.Core.Bool.{Bool, true, false, ◌&&◌, and_assoc}
use mathlib.Core.List.{List, [], ◌∷◌, ◌++◌, append_assoc, append-nil}
use lib.Dec.{leb}
use borrow.Author.Tests.{le-leb, lt-leb, leb-true}
use lib.ListN.{length, take, drop, get_or, set, length-set, length-append, get_or-append}
use lib.Seq.{length-sets, sets-eq, set_out, get_or-set_same, get_or-set_other}
use Rattle.std.proofs.lemmas.List.Edits.{sets}
use Rattle.universal.specs.declared.error.SysexError.{SysexError}
use Rattle.universal.specs.declared.error.SysexError.TheVariants.{DataByte, Length, OutOfRange, BufferTooSmall, Device, Source, Target, Stopped, End, ItemLimit, NoField, Track, StatusByte}
use Rattle.universal.specs.Refusals.{Refusal, refusal, too_small, gives, refused, refusal_of, needed_of, error_of, error_from_10}
use Rattle.universal.specs.Overlay.{overlay}
use Rattle.universal.specs.Emission.{Emission, sent, refusing, check, resume, ◌then◌, answer_in, answer, reached, reached_in, fitted}
use Rattle.universal.specs.Midi1.{has_sub_id2, sub_id2_given, sub_id2_bytes, class_id, inside, universal_bytes, InLayout, Allowed}
use Rattle.universal.specs.Message.{sub_id2_value, all_low, data_emission, header, opening, message, length_at, closing}
use Rattle.universal.specs.declared.message.Universal.{Universal}
use Rattle.universal.proofs.Emissions.{resume_after}
-- A value is no refusal, and nothing is none.
pub use Rattle.universal.proofs.Emissions.{gives_refused, none_some}
use Rattle.universal.proofs.MessageFields.{Accepted, accepted, opening_fields, inner_low, value_low, value_high, sub_id2_short, sub_id2_bytes_lem, sub_id2_sent}
use Rattle.universal.proofs.Tests.{and_parts, beq_other}

-- ---- bytes put into a buffer

-- The buffer keeps its length.
pub length_overlay : (out : List ℕ) (at : ℕ) (bytes : List ℕ) → length (overlay out at bytes) ≡ length out
unfolding overlay
length_overlay out at bytes = length-sets out at bytes

-- Some bytes and then others are put one after the other.
pub overlay_append : (out : List ℕ) (at : ℕ) (xs ys : List ℕ)
    → overlay out at (xs ++ ys) ≡ overlay (overlay out at xs) (at + length xs) ys
unfolding overlay
overlay_append out at [] ys = ap (λ (k : ℕ). overlay out k ys) (sym (add-zero at))
overlay_append out at (x ∷ xs) ys =
    let e : suc at + length xs ≡ at + suc (length xs) = omega arith in
    overlay_append (set out at x) (suc at) xs ys ∙ ap (λ (k : ℕ). overlay (overlay (set out at x) (suc at) xs) k ys) e

-- So it is with buffers: one that holds the first, and one that holds the others at the next position.
pub overlay_then : (out middle after : List ℕ) (at next : ℕ) (xs ys : List ℕ) → middle ≡ overlay out at xs
    → after ≡ overlay middle next ys → next ≡ at + length xs → after ≡ overlay out at (xs ++ ys)
overlay_then out middle after at next xs ys p q n =
    q
    ∙ ap (λ (l : List ℕ). overlay l next ys) p
    ∙ ap (λ (k : ℕ). overlay (overlay out at xs) k ys) n
    ∙ sym (overlay_append out at xs ys)

-- It is what the library's `sets` leaves.
pub overlay_sets : (out : List ℕ) (at : ℕ) (bytes : List ℕ) → overlay out at bytes ≡ sets out at bytes
unfolding overlay
overlay_sets out at bytes = refl

-- No bytes change nothing.
pub overlay_none : (out : List ℕ) (at : ℕ) → overlay out at [] ≡ out
unfolding overlay
overlay_none out at = refl

-- Where they all fit they replace as many bytes.
pub overlay_fits : (out : List ℕ) (at : ℕ) (bytes : List ℕ) → at + length bytes ≤ length out
    → overlay out at bytes ≡ take at out ++ bytes ++ drop (at + length bytes) out
unfolding overlay
overlay_fits out at bytes h = sets-eq bytes out at h

-- From the buffer's end on nothing changes.
pub overlay_past : (out : List ℕ) (at : ℕ) (bytes : List ℕ) → length out ≤ at → overlay out at bytes ≡ out
unfolding overlay
overlay_past out at [] h = refl
overlay_past out at (b ∷ bs) h =
    overlay_past (set out at b) (suc at) bs (omega (arith, length-set out at b)) ∙ set_out out at b h

-- A byte before the position or after the last byte put is as found.
pub overlay_elsewhere : (out : List ℕ) (at : ℕ) (bytes : List ℕ) (i : ℕ) → (i < at) ⊎ (at + length bytes ≤ i)
    → get_or (overlay out at bytes) i 0 ≡ get_or out i 0
unfolding overlay
overlay_elsewhere out at [] i h = refl
overlay_elsewhere out at (b ∷ bs) i h =
    overlay_elsewhere (set out at b) (suc at) bs i (⊎_elim (λ l. inl (omega arith)) (λ g. inr (omega arith)) h)
    ∙ get_or-set_other out at i b 0 (λ e. ⊎_elim (λ l. omega arith) (λ g. omega arith) h)

-- A byte put is found at its offset from the position.
overlay_offset : (out : List ℕ) (at : ℕ) (bytes : List ℕ) (k : ℕ) → at + k < length out → k < length bytes
    → get_or (overlay out at bytes) (at + k) 0 ≡ get_or bytes k 0
unfolding overlay
overlay_offset out at [] k room h = absurd (not-suc-le-zero h)
overlay_offset out at (b ∷ bs) zero room h =
    rw add-zero
    (overlay_elsewhere (set out at b) (suc at) bs at (inl (omega arith)) ∙ get_or-set_same out at b 0 (omega arith))
overlay_offset out at (b ∷ bs) (suc k) room h =
    let e : at + suc k ≡ suc at + k = omega arith in
    rw e (overlay_offset (set out at b) (suc at) bs k (omega (arith, length-set out at b)) (omega arith))

-- Where a byte was put, inside the buffer, it stands.
pub overlay_byte : (out : List ℕ) (at : ℕ) (bytes : List ℕ) (i : ℕ) → i < length out → at ≤ i → i < at + length bytes
    → get_or (overlay out at bytes) i 0 ≡ get_or bytes (i - at) 0
overlay_byte out at bytes i room from to =
    let e : at + (i - at) ≡ i = omega arith in
    rw e at (overlay_offset out at bytes (i - at) (omega arith) (omega arith))

-- ---- emissions

-- What follows an emission that was not refused goes out after it.
pub then_sent : (d e : Emission) → d.stop ≡ None → d then e ≡ record { bytes = d.bytes ++ e.bytes; stop = e.stop }
then_sent d e h = ap (λ (s : Option Refusal). resume d.bytes s e) h

-- Nothing follows a refusal.
pub then_refused : (d e : Emission) (r : Refusal) → d.stop ≡ Some r → d then e ≡ d
then_refused d e r h =
    ap (λ (s : Option Refusal). resume d.bytes s e) h
    ∙ ap (λ (s : Option Refusal). record { bytes = d.bytes; stop = s }) (sym h)

-- Emissions one after another go out in any grouping.
pub then_assoc : (a b c : Emission) → (a then b) then c ≡ a then b then c
then_assoc a b c = go a.stop
  where
    go : (s : Option Refusal) → resume a.bytes s b then c ≡ resume a.bytes s (b then c)
    go None = resume_after a.bytes b c
    go (Some r) = refl

-- A check that does not refuse held.
pub check_held : (t : Bool) (n : ℕ) → (check t n).stop ≡ None → t ≡ true
check_held true n h = refl
check_held false n h = absurd (none_some (refusal n) h)

-- Of two emissions of which none is refused, neither is.
pub then_accepted : (d e : Emission) → (d then e).stop ≡ None → (d.stop ≡ None) × (e.stop ≡ None)
then_accepted d e h = go d.stop h
  where
    go : (s : Option Refusal) → (resume d.bytes s e).stop ≡ None → (s ≡ None) × (e.stop ≡ None)
    go None p = (refl, p)
    go (Some r) p = absurd (none_some r p)

-- A refusal is told by its number and the needed length.
pub error_back : (e : SysexError) → error_of (refusal_of e).number (needed_of (refusal_of e)) ≡ e
unfolding error_of error_from_10
error_back DataByte = refl
error_back Length = refl
error_back OutOfRange = refl
error_back (BufferTooSmall needed) = refl
error_back Device = refl
error_back Source = refl
error_back Target = refl
error_back Stopped = refl
error_back End = refl
error_back ItemLimit = refl
error_back NoField = refl
error_back Track = refl
error_back StatusByte = refl

-- The answer by the refusal and the length.
pub answer_by : (e : Emission) (room : ℕ) → answer e room ≡ answer_in e.stop (length e.bytes) room
unfolding answer
answer_by e room = refl

-- The answer of a message that is not refused and fits is its length.
pub answer_fits : (e : Emission) (room : ℕ) → e.stop ≡ None → length e.bytes ≤ room
    → answer e room ≡ gives (length e.bytes)
unfolding answer
answer_fits e room h fit = rw (h, le-leb (length e.bytes) room fit)

-- Where the buffer is too small it is 4, with the needed length.
pub answer_short : (e : Emission) (room : ℕ) → e.stop ≡ None → room < length e.bytes
    → answer e room ≡ refused (too_small (length e.bytes))
unfolding answer
answer_short e room h short = rw (h, lt-leb (length e.bytes) room short)

-- The answer of a refused message is its refusal, however large the buffer.
pub answer_refused : (e : Emission) (room : ℕ) (r : Refusal) → e.stop ≡ Some r → answer e room ≡ refused r
unfolding answer
answer_refused e room r h = rw h

-- Where the answer is a length, it is the message's own, and the buffer has room for it.
pub answer_gives : (e : Emission) (room n : ℕ) → answer e room ≡ gives n → (n ≡ length e.bytes) × (n ≤ room)
unfolding answer
answer_gives e room n h = go e.stop h
  where
    fits : (b : Bool) → leb (length e.bytes) room ≡ b → fitted b (length e.bytes) ≡ gives n → (n ≡ length e.bytes) × (n ≤ room)
    fits true q p = let same : n ≡ length e.bytes = cc in (same, omega (arith, leb-true (length e.bytes) room q))
    fits false q p = absurd (gives_refused n _ p)

    go : (s : Option Refusal) → answer_in s (length e.bytes) room ≡ gives n → (n ≡ length e.bytes) × (n ≤ room)
    go None p = fits (leb (length e.bytes) room) refl p
    go (Some r) p = absurd (gives_refused n r p)

-- A part that is not refused has come to its length.
pub reached_sent : (e : Emission) → e.stop ≡ None → reached e ≡ gives (length e.bytes)
unfolding reached
reached_sent e h = rw h

-- A part that is refused has come to its refusal.
pub reached_refusing : (e : Emission) (r : Refusal) → e.stop ≡ Some r → reached e ≡ refused r
unfolding reached
reached_refusing e r h = rw h

-- Where a part has come to a position, it was not refused, and is as long.
pub reached_gives : (e : Emission) (n : ℕ) → reached e ≡ gives n → (e.stop ≡ None) × (length e.bytes ≡ n)
unfolding reached
reached_gives e n h = go e.stop h
  where
    go : (s : Option Refusal) → reached_in s (length e.bytes) ≡ gives n → (s ≡ None) × (length e.bytes ≡ n)
    go None p = (refl, cc)
    go (Some r) p = absurd (gives_refused n r p)

-- Where a part has come to a refusal, that is its own.
pub reached_refused : (e : Emission) (r : Refusal) → reached e ≡ refused r → e.stop ≡ Some r
unfolding reached
reached_refused e r h = go e.stop h
  where
    go : (s : Option Refusal) → reached_in s (length e.bytes) ≡ refused r → s ≡ Some r
    go None p = absurd (gives_refused (length e.bytes) r (sym p))
    go (Some q) p = cc

-- ---- data bytes

-- Bytes are low where each part's are.
pub all_low_append : (xs ys : List ℕ) → all_low (xs ++ ys) ≡ all_low xs && all_low ys
unfolding all_low
all_low_append [] ys = refl
all_low_append (x ∷ xs) ys =
    ap (λ (t : Bool). leb x 127 && t) (all_low_append xs ys) ∙ sym (and_assoc (leb x 127) (all_low xs) (all_low ys))

-- No bytes are low.
pub all_low_none : all_low [] ≡ true
unfolding all_low
all_low_none = refl

-- A byte of at most 7FH before low bytes.
pub all_low_cons : (b : ℕ) (bs : List ℕ) → b ≤ 127 → all_low bs ≡ true → all_low (b ∷ bs) ≡ true
unfolding all_low
all_low_cons b bs h l = rw (le-leb b 127 h) l

-- Each of low bytes is at most 7FH.
pub all_low_byte : (bs : List ℕ) (i : ℕ) → all_low bs ≡ true → i < length bs → get_or bs i 0 ≤ 127
unfolding all_low
all_low_byte [] i h l = absurd (not-suc-le-zero l)
all_low_byte (b ∷ bs) zero h l = leb-true b 127 (and_parts (leb b 127) (all_low bs) h).0
all_low_byte (b ∷ bs) (suc i) h l =
    all_low_byte bs i (and_parts (leb b 127) (all_low bs) h).1 (le_of_suc-le-suc l)

-- Bytes that are each at most 7FH are low.
pub all_low_of : (bs : List ℕ) → ((i : ℕ) → i < length bs → get_or bs i 0 ≤ 127) → all_low bs ≡ true
unfolding all_low
all_low_of [] h = refl
all_low_of (b ∷ bs) h =
    all_low_cons b bs (h zero (zero-lt-suc (length bs))) (all_low_of bs (λ i l. h (suc i) (suc-le-suc l)))

-- A byte above 7FH among them makes them not low.
pub all_low_high : (bs : List ℕ) (i : ℕ) → i < length bs → 127 < get_or bs i 0 → all_low bs ≡ false
all_low_high bs i l h = go (all_low bs) refl
  where
    go : (t : Bool) → all_low bs ≡ t → all_low bs ≡ false
    go true e = absurd (omega (arith, all_low_byte bs i e l))
    go false e = e

-- Low data bytes go out.
pub data_sent : (bs : List ℕ) → all_low bs ≡ true → data_emission bs ≡ sent bs
unfolding data_emission
data_sent bs h = rw h

-- Others are refused with 1, and none goes out.
pub data_refused : (bs : List ℕ) → all_low bs ≡ false → data_emission bs ≡ refusing 1
unfolding data_emission
data_refused bs h = rw h

-- ---- the opening of a message

-- A device above 127 is refused with 5, and nothing goes out.
pub opening_device : (u : Universal) → 127 < u.device_id → opening u ≡ refusing 5
unfolding opening
opening_device u h = rw (lt-leb u.device_id 127 h)

-- A sub-ID 2 against the family's rule is refused with 3, and nothing goes out.
pub opening_family : (u : Universal) → u.device_id ≤ 127
    → (sub_id2_given u.sub_id2 ≡ has_sub_id2 u.real_time u.sub_id1 → ⊥) → opening u ≡ refusing 3
unfolding opening
opening_family u d f = rw (le-leb u.device_id 127 d, beq_other _ _ f)

-- A sub-ID 1 above 7FH is refused with 3 after the device.
pub opening_sub_id1 : (u : Universal) → u.device_id ≤ 127
    → sub_id2_given u.sub_id2 ≡ has_sub_id2 u.real_time u.sub_id1 → 127 < u.sub_id1
    → opening u ≡ record { bytes = 240 ∷ class_id u.real_time ∷ u.device_id ∷ []; stop = Some (refusal 3) }
opening_sub_id1 u d f h = opening_fields u d f ∙ rw (value_high u.sub_id1 h)

module _ (real_time : Bool) (device sub_id1 : ℕ) (low : device ≤ 127) where
  -- The opening of a family that carries no sub-ID 2.
  pub opening_plain : has_sub_id2 real_time sub_id1 ≡ false → sub_id1 ≤ 127
      → opening (header real_time device sub_id1 None) ≡ sent (240 ∷ class_id real_time ∷ device ∷ sub_id1 ∷ [])
  opening_plain f h = opening_fields (header real_time device sub_id1 None) low (sym f) ∙ rw (value_low sub_id1 h)

  -- The opening of a family that carries one.
  pub opening_with_sub_id2 : (sub_id2 : ℕ) → has_sub_id2 real_time sub_id1 ≡ true → sub_id1 ≤ 127 → sub_id2 ≤ 127
      → opening (header real_time device sub_id1 (Some sub_id2)) ≡ sent (240 ∷ class_id real_time ∷ device ∷ sub_id1 ∷ sub_id2 ∷ [])
  opening_with_sub_id2 v f h l =
      opening_fields (header real_time device sub_id1 (Some v)) low (sym f) ∙ rw (value_low sub_id1 h, value_low v l)

  -- A sub-ID 2 above 7FH is refused with 3 after the sub-ID 1.
  pub opening_sub_id2 : (sub_id2 : ℕ) → has_sub_id2 real_time sub_id1 ≡ true → sub_id1 ≤ 127 → 127 < sub_id2
      → opening (header real_time device sub_id1 (Some sub_id2))
      ≡ record { bytes = 240 ∷ class_id real_time ∷ device ∷ sub_id1 ∷ []; stop = Some (refusal 3) }
  opening_sub_id2 v f h g =
      opening_fields (header real_time device sub_id1 (Some v)) low (sym f) ∙ rw (value_low sub_id1 h, value_high v g)

-- The bytes of an opening that is not refused.
pub opening_bytes : (u : Universal) → (opening u).stop ≡ None
    → (opening u).bytes ≡ 240 ∷ class_id u.real_time ∷ u.device_id ∷ u.sub_id1 ∷ (sub_id2_value u.sub_id2).bytes
opening_bytes u h = (accepted u h).emits

-- It is at most five bytes.
pub opening_length : (u : Universal) → (opening u).stop ≡ None → length (opening u).bytes ≤ 5
opening_length u h = rw (opening_bytes u h) (omega (arith, sub_id2_short u.sub_id2))

-- ---- the whole message

-- A message whose opening is refused is that opening.
pub message_refused : (u : Universal) (bs : List ℕ) (r : Refusal) → (opening u).stop ≡ Some r → message u bs ≡ opening u
unfolding message
message_refused u bs r h = then_refused (opening u) _ r h

-- Data with a byte above 7FH is refused with 1, and none of it goes out.
pub message_high : (u : Universal) (bs : List ℕ) → (opening u).stop ≡ None → all_low bs ≡ false
    → message u bs ≡ record { bytes = (opening u).bytes; stop = Some (refusal 1) }
unfolding message
message_high u bs h l = then_sent (opening u) (data_emission bs then sent (247 ∷ [])) h ∙ rw (data_refused bs l, append-nil)

-- A message in which nothing is refused.
pub message_whole : (u : Universal) (bs : List ℕ) → (opening u).stop ≡ None → all_low bs ≡ true
    → message u bs ≡ sent ((opening u).bytes ++ bs ++ 247 ∷ [])
unfolding message
message_whole u bs h l =
    then_sent (opening u) (data_emission bs then sent (247 ∷ [])) h
    ∙ rw (data_sent bs l, append_assoc (opening u).bytes bs (247 ∷ []))

-- In a message that is not refused neither the opening nor the data is.
pub message_accepted : (u : Universal) (bs : List ℕ) → (message u bs).stop ≡ None → ((opening u).stop ≡ None) × (all_low bs ≡ true)
unfolding message data_emission
message_accepted u bs h =
    let parts = then_accepted (opening u) _ h in
    let inner = then_accepted (data_emission bs) (sent (247 ∷ [])) parts.1 in
    (parts.0, check_held (all_low bs) 1 (then_accepted (check (all_low bs) 1) (sent bs) inner.0).0)

-- The bytes of a message that is not refused: opening, data, F7H.
pub message_bytes : (u : Universal) (bs : List ℕ) → (message u bs).stop ≡ None
    → (message u bs).bytes ≡ (opening u).bytes ++ bs ++ 247 ∷ []
message_bytes u bs h =
    let parts = message_accepted u bs h in
    ap (λ (e : Emission). e.bytes) (message_whole u bs parts.0 parts.1)

-- Between two bytes all are low where those between are.
middle_low : (first last : ℕ) (xs : List ℕ) (i : ℕ) → all_low xs ≡ true → 0 < i → i + 1 < length (first ∷ (xs ++ last ∷ []))
    → get_or (first ∷ (xs ++ last ∷ [])) i 0 < 128
middle_low first last xs zero h l r = absurd (not-suc-le-zero l)
middle_low first last xs (suc k) h l r =
    let n : length (xs ++ last ∷ []) ≡ length xs + 1 = length-append xs (last ∷ []) in
    let inside : k < length xs = omega arith in
    rw (get_or-append xs (last ∷ []) 0 k inside) (suc-le-suc (all_low_byte xs k h inside))

-- All its bytes but the first and the last are below 128.
pub message_low : (u : Universal) (bs : List ℕ) (i : ℕ) → (message u bs).stop ≡ None → 0 < i
    → i + 1 < length (message u bs).bytes → get_or (message u bs).bytes i 0 < 128
message_low u bs i h first last =
    let parts = message_accepted u bs h in
    let a : Accepted u = accepted u parts.0 in
    let inner : List ℕ = class_id u.real_time ∷ u.device_id ∷ u.sub_id1 ∷ (sub_id2_value u.sub_id2).bytes in
    let e : (message u bs).bytes ≡ 240 ∷ (inner ++ bs) ++ 247 ∷ [] =
    message_bytes u bs h ∙ ap (λ (l : List ℕ). l ++ bs ++ 247 ∷ []) a.emits in
    let low : all_low (inner ++ bs) ≡ true = all_low_append inner bs ∙ rw (inner_low u a, parts.1) in
    rw e (middle_low 240 247 (inner ++ bs) i low first (rw e at last))

-- ---- by MIDI 1.0

-- A message in MIDI 1.0's layout is written as exactly its bytes.
pub message_in_layout : (u : Universal) (bs : List ℕ) → InLayout u bs → message u bs ≡ sent (universal_bytes u bs)
message_in_layout u bs a =
    let device : u.device_id ≤ 127 = a.low 1 (omega arith) in
    let sub_id1 : u.sub_id1 ≤ 127 = a.low 2 (omega arith) in
    let rest : all_low (sub_id2_bytes u.sub_id2 ++ bs) ≡ true =
    all_low_of _ (λ i l. a.low (suc (suc (suc i))) (suc-le-suc (suc-le-suc (suc-le-suc l)))) in
    let parts =
    and_parts (all_low (sub_id2_bytes u.sub_id2)) (all_low bs) (rw all_low_append at rest) in
    let o : opening u ≡ sent (240 ∷ class_id u.real_time ∷ u.device_id ∷ u.sub_id1 ∷ sub_id2_bytes u.sub_id2) =
    opening_fields u device a.family ∙ rw (value_low u.sub_id1 sub_id1, sub_id2_sent u.sub_id2 parts.0) in
    message_whole u bs (ap (λ (e : Emission). e.stop) o) parts.1
    ∙ ap (λ (e : Emission). sent (e.bytes ++ bs ++ 247 ∷ [])) o

-- So is every message that MIDI 1.0 has.
pub message_by_midi1 : (u : Universal) (bs : List ℕ) → Allowed u bs → message u bs ≡ sent (universal_bytes u bs)
message_by_midi1 u bs a = message_in_layout u bs a.layout

-- A message is accepted just where it is in that layout. So more is accepted than MIDI 1.0 has: families that it does not define.
pub accepted_by_midi1 : (u : Universal) (bs : List ℕ) → ((message u bs).stop ≡ None) ↔ InLayout u bs
accepted_by_midi1 u bs = (laid, λ a. ap (λ (e : Emission). e.stop) (message_in_layout u bs a))
  where
    laid : (message u bs).stop ≡ None → InLayout u bs
    laid h =
        let parts = message_accepted u bs h in
        let a : Accepted u = accepted u parts.0 in
        let start : List ℕ = class_id u.real_time ∷ u.device_id ∷ u.sub_id1 ∷ (sub_id2_value u.sub_id2).bytes in
        let low : all_low (start ++ bs) ≡ true = all_low_append start bs ∙ rw (inner_low u a, parts.1) in
        record {
          low = λ i l. all_low_byte (inside u bs) i (rw (sub_id2_bytes_lem u.sub_id2 a.sub_id2_lem) at low) l;
          family = a.family;
        }

-- ---- the close

-- A close by the message's length.
closing_at : (at room n : ℕ) → length_at at ≡ n → closing at room ≡ fitted (leb n room) n
unfolding closing
closing_at at room n e = ap (λ (k : ℕ). fitted (leb k room) k) e

-- A close inside the buffer gives the message's length.
pub closing_fits : (at room : ℕ) → at < room → room ≤ 18446744073709551615 → closing at room ≡ gives (at + 1)
closing_fits at room h most = closing_at at room (at + 1) (omega arith) ∙ rw (le-leb (at + 1) room (omega arith))

-- A close past the buffer's end is refused with 4 and the message's length.
pub closing_short : (at room : ℕ) → room ≤ at → at < 18446744073709551615 → closing at room ≡ refused (too_small (at + 1))
closing_short at room h most = closing_at at room (at + 1) (omega arith) ∙ rw (lt-leb (at + 1) room (omega arith))

-- At the largest position the needed length is that position.
pub closing_largest : (at room : ℕ) → at ≡ 18446744073709551615 → room < at → closing at room ≡ refused (too_small at)
closing_largest at room e h = closing_at at room at (omega arith) ∙ rw (lt-leb at room h)

-- The answer of a close is that of the message which it ends.
pub closing_answer : (e : Emission) (at room : ℕ) → e.stop ≡ None → length e.bytes ≡ at + 1 → at < 18446744073709551615
    → closing at room ≡ answer e room
unfolding answer
closing_answer e at room h n most = closing_at at room (length e.bytes) (omega arith) ∙ rw h
