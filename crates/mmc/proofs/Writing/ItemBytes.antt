-- Items that are accepted: what their checks tell of them, and the bytes that go out. Assumes nothing.
use Rattle.std.specs.Prelude.{Option, Some, None}
use Prim.Native.Nat.{ℕ, suc, ◌+◌, ◌*◌, ◌≤◌, ◌<◌}
use mathlib.Core.Path.{◌≡◌, refl, sym, ap, ap₂, subst, ◌∙◌}
use mathlib.Core.Bool.{Bool, true, false, cond, ◌&&◌}
use mathlib.Core.List.{List, [], ◌∷◌, ◌++◌}
use native.Mathlib.Omega.{arith}
use borrow.Author.Tests.{eq-eqb, ne_eqb, leb-true, ltb-true, eqb-true}
use lib.Dec.{leb, ltb, eqb, lit≤}
use lib.ListN.{length, length-append}
use Rattle.mmc.specs.declared.command.MmcCommand.{MmcCommand}
use Rattle.mmc.specs.declared.command.MmcCommand.TheVariants as C
use Rattle.mmc.specs.declared.field.InfoField.{InfoField}
use Rattle.mmc.specs.declared.field.InfoField.TheVariants as F
use Rattle.mmc.specs.declared.length.Kind.{Kind}
use Rattle.mmc.specs.declared.length.Kind.TheVariants.{Commands, Fields}
use Rattle.mmc.specs.declared.length.Length.{Length}
use Rattle.mmc.specs.declared.length.Length.TheVariants.{Fixed, Count}
use Rattle.mmc.specs.declared.part.Part.{Part}
use Rattle.codes.specs.declared.time_code.StandardTimeCode.{StandardTimeCode}
use Rattle.codes.specs.declared.time_code.ShortTimeCode.{ShortTimeCode}
use Rattle.codes.specs.declared.time_code.FinalByte.{FinalByte}
use Rattle.mmc.specs.Item.{standard_item, short_item, other_item, write_item, locate_field_item, is_subframes, locate_target_item, move_item, command_item, form_fits, time_code_item, short_code_item, field_item, code_fits}
use Rattle.mmc.specs.Length.{within, command_length, field_length, length_of}
use Rattle.mmc.specs.Named.{name_fits, last_of_name, by_rule, named_item}
use Rattle.mmc.specs.Part.{is_inside, part_of}
use Rattle.mmc.specs.Strings.{item, with_count, item_bytes, joined, data_fits, item_fits, all_fit, command_pair, field_pair, AcceptedItem, Given, pair_of, emission, emissions, pairs_of, AcceptedItems}
use Rattle.codes.specs.TimeCode.{standard_fits, standard_list, short_fits, short_list}
use Rattle.universal.specs.Emission.{Emission, sent, check, ◌then◌}
use Rattle.universal.specs.Message.{all_low, data_emission}
use Rattle.universal.specs.Refusals.{Refusal, refusal}
use Rattle.universal.proofs.Laws.{all_low_append, all_low_none, all_low_cons, then_sent, then_accepted, then_assoc, data_refused}
use Rattle.universal.proofs.Tests.{and_parts}
use Rattle.codes.proofs.Laws.{bytes_low, short_bytes_low, standard_list_length, short_list_length}
use Rattle.mmc.proofs.Reading.PageStrings.{command_below, command_count, field_five, field_two}
use Rattle.mmc.proofs.Writing.EmissionPuts.{fixed_low, count_low, name_sent, name_length}

-- ---- checks that held

within_true : (a b n : ℕ) → within a b n ≡ true → (a ≤ n) × (n < b)
within_true a b n h =
    let t = and_parts (leb a n) (ltb n b) h in (leb-true a n t.0, ltb-true n b t.1)

-- Behind a check that held goes out what follows it.
behind : (b : Bool) (k : ℕ) (e : Emission) → (check b k then e).stop ≡ None
    → (b ≡ true) × (e.stop ≡ None) × ((check b k then e).bytes ≡ e.bytes)
behind true k e h = (refl, h, refl)
behind false k e h = let z : ◌≡◌ {A = ℕ} 0 1 = cc in absurd (omega arith)

data_accepted : (d : List ℕ) → (data_emission d).stop ≡ None → all_low d ≡ true
data_accepted d h = go (all_low d) refl
  where
    go : (b : Bool) → all_low d ≡ b → all_low d ≡ true
    go true e = e
    go false e =
        let s : ◌≡◌ {A = Option Refusal} (Some (refusal 1)) None = ap (λ (x : Emission). x.stop) (sym (data_refused d e)) ∙ h in
        let z : ◌≡◌ {A = ℕ} 0 1 = cc in
        absurd (omega arith)

-- ---- how long data are

-- The fixed number of data bytes, if the rule has one.
abbrev fixed : Length → ℕ
fixed (Fixed n) = n
fixed Count = 0

fixed_most : (kind : Kind) (n : ℕ) → fixed (length_of kind n) ≤ 5
unfolding length_of command_length field_length
fixed_most Commands n = go (within 64 120 n)
  where
    go : (a : Bool) → fixed (cond a Count (Fixed 0)) ≤ 5
    go true = lit≤ tt
    go false = lit≤ tt
fixed_most Fields n = go (within 1 32 n) (within 32 64 n) (within 64 120 n)
  where
    go : (a b c : Bool) → fixed (cond a (Fixed 5) (cond b (Fixed 2) (cond c Count (Fixed 0)))) ≤ 5
    go true b c = lit≤ tt
    go false true c = lit≤ tt
    go false false true = lit≤ tt
    go false false false = lit≤ tt

-- Data that the rule lets go out.
abbrev Goes : Length → List ℕ → Type 0
Goes (Fixed n) d = n ≡ length d
Goes Count d = length d ≤ 127

goes_fits : (rule : Length) (d : List ℕ) → Goes rule d → data_fits rule d ≡ true
goes_fits (Fixed n) d h = eq-eqb n (length d) h
goes_fits Count d h = refl

goes_low : (rule : Length) (d : List ℕ) → Goes rule d → all_low d ≡ true → all_low (with_count rule d) ≡ true
goes_low (Fixed n) d h l = l
goes_low Count d h l = all_low_cons (length d) d h l

goes_most : (rule : Length) (d : List ℕ) → Goes rule d → fixed rule ≤ 5 → length (with_count rule d) ≤ 128
goes_most (Fixed n) d h m = omega arith
goes_most Count d h m = omega arith

-- ---- a name and data that go out

pub named_accepted : (kind : Kind) (name d bytes : List ℕ) → name_fits name ≡ true → all_low name ≡ true → (rule : Length)
    → length_of kind (last_of_name name) ≡ rule → Goes rule d → all_low d ≡ true → bytes ≡ name ++ with_count rule d
    → AcceptedItem kind (item name d) bytes
unfolding item_bytes item_fits
named_accepted kind name d bytes f n rule e g l b =
    let five : fixed rule ≤ 5 = subst (λ (r : Length). fixed r ≤ 5) e (fixed_most kind (last_of_name name)) in
    let m : length (with_count rule d) ≤ 128 = goes_most rule d g five in
    let k : length name ≤ 3 = (name_length name f).1 in
    record {
      are_item_bytes = b ∙ ap (λ (r : Length). name ++ with_count r d) (sym e);
      fits = rw (f, e) (goes_fits rule d g);
      low = rw (b, all_low_append name (with_count rule d), n) (goes_low rule d g l);
      short = rw (b, length-append name (with_count rule d)) (omega arith);
    }

rule_goes : (rule : Length) (d : List ℕ) → (by_rule rule d).stop ≡ None
    → Goes rule d × (all_low d ≡ true) × (by_rule rule d ≡ sent (with_count rule d))
unfolding by_rule
rule_goes (Fixed n) d h =
    let t = behind (eqb n (length d)) 2 (data_emission d) h in
    let e : n ≡ length d = eqb-true n (length d) t.0 in
    let l : all_low d ≡ true = data_accepted d t.1 in
    (e, l, fixed_low d n e l)
rule_goes Count d h =
    let t = behind (leb (length d) 127) 2 (sent (length d ∷ []) then data_emission d) h in
    let e : length d ≤ 127 = leb-true (length d) 127 t.0 in
    let l : all_low d ≡ true = data_accepted d t.1 in
    (e, l, count_low d e l)

pub named_item_accepted : (kind : Kind) (name d : List ℕ) → (named_item kind name d).stop ≡ None
    → AcceptedItem kind (item name d) (named_item kind name d).bytes
unfolding named_item
named_item_accepted kind name d h =
    let rest : Emission = by_rule (length_of kind (last_of_name name)) d in
    let t = behind (name_fits name) 2 (data_emission name then rest) h in
    let u = then_accepted (data_emission name) rest t.1 in
    let n : all_low name ≡ true = data_accepted name u.0 in
    let r = rule_goes (length_of kind (last_of_name name)) d u.1 in
    let b : (named_item kind name d).bytes ≡ name ++ with_count (length_of kind (last_of_name name)) d =
    ap (λ (x : Emission). x.bytes) (name_sent kind name d t.0 n ∙ ap (λ (x : Emission). sent name then x) r.2) in
    named_accepted kind name d (named_item kind name d).bytes t.0 n (length_of kind (last_of_name name)) refl r.0 r.1 b

-- ---- what the checks of a command or field tell

standard_checks : (c : StandardTimeCode) → (standard_item c).stop ≡ None
    → (standard_fits c ≡ true) × ((standard_item c).bytes ≡ standard_list c)
unfolding standard_item
standard_checks c h = let t = behind (standard_fits c) 3 (sent (standard_list c)) h in (t.0, t.2)

short_checks : (c : ShortTimeCode) → (short_item c).stop ≡ None → (short_fits c ≡ true) × ((short_item c).bytes ≡ short_list c)
unfolding short_item
short_checks c h = let t = behind (short_fits c) 3 (sent (short_list c)) h in (t.0, t.2)

pub locate_field_checks : (r : ℕ) → (locate_field_item r).stop ≡ None
    → (8 ≤ r) × (r < 16) × ((locate_field_item r).bytes ≡ 68 ∷ 2 ∷ 0 ∷ r ∷ [])
unfolding locate_field_item
locate_field_checks r h =
    let t = behind (within 8 16 r) 3 (sent (68 ∷ 2 ∷ 0 ∷ r ∷ [])) h in
    let w = within_true 8 16 r t.0 in
    (w.0, w.1, t.2)

pub locate_target_checks : (c : StandardTimeCode) → (locate_target_item c).stop ≡ None
    → (standard_fits c ≡ true) × ((locate_target_item c).bytes ≡ 68 ∷ 6 ∷ 1 ∷ standard_list c)
unfolding locate_target_item
locate_target_checks c h =
    let t = behind (is_subframes c.final_byte) 3 (sent (68 ∷ 6 ∷ 1 ∷ []) then standard_item c) h in
    let s = standard_checks c t.1 in
    (s.0, t.2 ∙ rw s.1)

pub move_checks : (d s : ℕ) → (move_item d s).stop ≡ None
    → (1 ≤ d) × (d < 32) × (1 ≤ s) × (s < 32) × ((move_item d s).bytes ≡ 76 ∷ 2 ∷ d ∷ s ∷ [])
unfolding move_item
move_checks d s h =
    let t = behind (within 1 32 d && within 1 32 s) 3 (sent (76 ∷ 2 ∷ d ∷ s ∷ [])) h in
    let w = and_parts (within 1 32 d) (within 1 32 s) t.0 in
    let a = within_true 1 32 d w.0 in
    let b = within_true 1 32 s w.1 in
    (a.0, a.1, b.0, b.1, t.2)

-- The two checks of a time code field, and its name before the code.
field_checks : (f : ℕ) (negative : Bool) (l : FinalByte) (name : ℕ) (e : Emission)
    → (check (code_fits f negative l) 3 then sent (name ∷ []) then e).stop ≡ None
    → (1 ≤ f) × (f < 32) × (e.stop ≡ None)
    × ((check (code_fits f negative l) 3 then sent (name ∷ []) then e).bytes ≡ name ∷ e.bytes)
unfolding code_fits
field_checks f negative l name e h =
    let t = behind (code_fits f negative l) 3 (sent (name ∷ []) then e) h in
    let w = within_true 1 32 f (left (within 1 32 f) (form_fits f negative l) t.0) in
    (w.0, w.1, t.1, t.2)
  where
    left : (a b : Bool) → (a && b) ≡ true → a ≡ true
    left true b x = refl
    left false b x = x

pub time_code_checks : (f : ℕ) (c : StandardTimeCode) → (time_code_item f c).stop ≡ None
    → (1 ≤ f) × (f < 32) × (standard_fits c ≡ true) × ((time_code_item f c).bytes ≡ f ∷ standard_list c)
unfolding time_code_item
time_code_checks f c h =
    let t = field_checks f c.negative c.final_byte f (standard_item c) h in
    let s = standard_checks c t.2 in
    (t.0, t.1, s.0, t.3 ∙ ap (λ (l : List ℕ). f ∷ l) s.1)

pub short_code_checks : (f : ℕ) (c : ShortTimeCode) → (short_code_item f c).stop ≡ None
    → (1 ≤ f) × (f < 32) × (short_fits c ≡ true) × ((short_code_item f c).bytes ≡ (f + 32) ∷ short_list c)
unfolding short_code_item
short_code_checks f c h =
    let t = field_checks f c.negative c.final_byte (f + 32) (short_item c) h in
    let s = short_checks c t.2 in
    (t.0, t.1, s.0, t.3 ∙ ap (λ (l : List ℕ). (f + 32) ∷ l) s.1)

-- ---- commands and fields

low_one : (n : ℕ) → n ≤ 127 → all_low (n ∷ []) ≡ true
low_one n h = all_low_cons n [] h all_low_none

one_fits : (n : ℕ) → 1 ≤ n → name_fits (n ∷ []) ≡ true
unfolding name_fits
one_fits n h = rw (ne_eqb n 0 (λ e. omega arith))

-- An item of a name of one byte.
one_accepted : (kind : Kind) (n : ℕ) (d bytes : List ℕ) (rule : Length) → 1 ≤ n → n ≤ 127 → length_of kind n ≡ rule → Goes rule d
    → all_low d ≡ true → bytes ≡ n ∷ with_count rule d → AcceptedItem kind (item (n ∷ []) d) bytes
one_accepted kind n d bytes rule l h e g low b = named_accepted kind (n ∷ []) d bytes (one_fits n l) (low_one n h) rule e g low b

-- A command without data.
name_accepted : (n : ℕ) → 1 ≤ n → n < 64 → AcceptedItem Commands (item (n ∷ []) []) (n ∷ [])
name_accepted n l h = one_accepted Commands n [] (n ∷ []) (Fixed 0) l (omega arith) (command_below n h) refl all_low_none refl

-- A command with a count.
with_count_lem : (n : ℕ) (d bytes : List ℕ) → 64 ≤ n → n < 120 → length d ≤ 127 → all_low d ≡ true → bytes ≡ n ∷ length d ∷ d
    → AcceptedItem Commands (item (n ∷ []) d) bytes
with_count_lem n d bytes l h m low e =
    one_accepted Commands n d bytes Count (omega arith) (omega arith) (command_count n l h) m low e

other_accepted : (kind : Kind) (source : List ℕ) (n d : Part) → (other_item kind source n d).stop ≡ None
    → AcceptedItem kind (item (part_of source n) (part_of source d)) (other_item kind source n d).bytes
unfolding other_item
other_accepted kind source n d h =
    let t = behind (is_inside source n && is_inside source d) 6 (named_item kind (part_of source n) (part_of source d)) h in
    rw t.2 (named_item_accepted kind (part_of source n) (part_of source d) t.1)

write_accepted : (source : List ℕ) (d : Part) → (write_item source d).stop ≡ None
    → AcceptedItem Commands (item (64 ∷ []) (part_of source d)) (write_item source d).bytes
unfolding write_item
write_accepted source d h =
    let t = behind (is_inside source d) 6 (named_item Commands (64 ∷ []) (part_of source d)) h in
    rw t.2 (named_item_accepted Commands (64 ∷ []) (part_of source d) t.1)

locate_field_accepted : (r : ℕ) → (locate_field_item r).stop ≡ None
    → AcceptedItem Commands (item (68 ∷ []) (0 ∷ r ∷ [])) (locate_field_item r).bytes
locate_field_accepted r h =
    let t = locate_field_checks r h in
    let low : all_low (0 ∷ r ∷ []) ≡ true = all_low_cons 0 (r ∷ []) (lit≤ tt) (low_one r (omega (arith, t.1))) in
    with_count_lem 68 (0 ∷ r ∷ []) _ (lit≤ tt) (lit≤ tt) (lit≤ tt) low t.2

locate_target_accepted : (c : StandardTimeCode) → (locate_target_item c).stop ≡ None
    → AcceptedItem Commands (item (68 ∷ []) (1 ∷ standard_list c)) (locate_target_item c).bytes
locate_target_accepted c h =
    let t = locate_target_checks c h in
    let n : 6 ≡ suc (length (standard_list c)) = omega (arith, standard_list_length c) in
    let low : all_low (1 ∷ standard_list c) ≡ true = all_low_cons 1 (standard_list c) (lit≤ tt) (bytes_low c t.0) in
    with_count_lem 68 (1 ∷ standard_list c) _ (lit≤ tt) (lit≤ tt) (omega arith) low
    (t.1 ∙ ap (λ (k : ℕ). 68 ∷ k ∷ 1 ∷ standard_list c) n)

move_accepted : (d s : ℕ) → (move_item d s).stop ≡ None → AcceptedItem Commands (item (76 ∷ []) (d ∷ s ∷ [])) (move_item d s).bytes
move_accepted d s h =
    let t = move_checks d s h in
    let low : all_low (d ∷ s ∷ []) ≡ true = all_low_cons d (s ∷ []) (omega (arith, t.1)) (low_one s (omega (arith, t.3))) in
    with_count_lem 76 (d ∷ s ∷ []) _ (lit≤ tt) (lit≤ tt) (lit≤ tt) low t.4

command_accepted : (source : List ℕ) (c : MmcCommand) → (command_item source c).stop ≡ None
    → AcceptedItem Commands (command_pair source c) (command_item source c).bytes
unfolding command_item command_pair
command_accepted source C.Stop h = name_accepted 1 (lit≤ tt) (lit≤ tt)
command_accepted source C.Play h = name_accepted 2 (lit≤ tt) (lit≤ tt)
command_accepted source C.DeferredPlay h = name_accepted 3 (lit≤ tt) (lit≤ tt)
command_accepted source C.FastForward h = name_accepted 4 (lit≤ tt) (lit≤ tt)
command_accepted source C.Rewind h = name_accepted 5 (lit≤ tt) (lit≤ tt)
command_accepted source C.RecordStrobe h = name_accepted 6 (lit≤ tt) (lit≤ tt)
command_accepted source C.RecordExit h = name_accepted 7 (lit≤ tt) (lit≤ tt)
command_accepted source C.Pause h = name_accepted 9 (lit≤ tt) (lit≤ tt)
command_accepted source C.Reset h = name_accepted 13 (lit≤ tt) (lit≤ tt)
command_accepted source (C.Write d) h = write_accepted source d h
command_accepted source (C.LocateField r) h = locate_field_accepted r h
command_accepted source (C.LocateTarget c) h = locate_target_accepted c h
command_accepted source (C.Move d s) h = move_accepted d s h
command_accepted source (C.Other n d) h = other_accepted Commands source n d h

time_code_accepted : (f : ℕ) (c : StandardTimeCode) → (time_code_item f c).stop ≡ None
    → AcceptedItem Fields (item (f ∷ []) (standard_list c)) (time_code_item f c).bytes
time_code_accepted f c h =
    let t = time_code_checks f c h in
    one_accepted Fields f (standard_list c) _ (Fixed 5) t.0 (omega (arith, t.1)) (field_five f t.0 t.1) (sym (standard_list_length c))
    (bytes_low c t.2) t.3

short_code_accepted : (f : ℕ) (c : ShortTimeCode) → (short_code_item f c).stop ≡ None
    → AcceptedItem Fields (item ((f + 32) ∷ []) (short_list c)) (short_code_item f c).bytes
short_code_accepted f c h =
    let t = short_code_checks f c h in
    let l : f + 32 < 64 = omega (arith, t.1) in
    one_accepted Fields (f + 32) (short_list c) _ (Fixed 2) (omega arith) (omega arith) (field_two (f + 32) (omega arith) l)
    (sym (short_list_length c)) (short_bytes_low c t.2) t.3

field_accepted : (source : List ℕ) (f : InfoField) → (field_item source f).stop ≡ None
    → AcceptedItem Fields (field_pair source f) (field_item source f).bytes
unfolding field_item field_pair
field_accepted source (F.TimeCode f c) h = time_code_accepted f c h
field_accepted source (F.Short f c) h = short_code_accepted f c h
field_accepted source (F.Other n d) h = other_accepted Fields source n d h

pub item_emission_accepted : (kind : Kind) (g : Given kind) → (emission kind g).stop ≡ None
    → AcceptedItem kind (pair_of kind g) (emission kind g).bytes
item_emission_accepted Commands g h = command_accepted g.source g.meant h
item_emission_accepted Fields g h = field_accepted g.source g.meant h

-- ---- lists

pub list_emission_accepted : (kind : Kind) (gs : List (Given kind)) → (emissions kind gs).stop ≡ None
    → AcceptedItems kind (pairs_of kind gs) (emissions kind gs).bytes
unfolding emissions joined all_fit
list_emission_accepted kind [] h = record { are_item_bytes = refl; fits = refl; low = all_low_none; short = lit≤ tt }
list_emission_accepted kind (g ∷ gs) h =
    let t = then_accepted (emission kind g) (emissions kind gs) h in
    let s : AcceptedItem kind (pair_of kind g) (emission kind g).bytes = item_emission_accepted kind g t.0 in
    let r : AcceptedItems kind (pairs_of kind gs) (emissions kind gs).bytes = list_emission_accepted kind gs t.1 in
    let b : (emissions kind (g ∷ gs)).bytes ≡ (emission kind g).bytes ++ (emissions kind gs).bytes =
    ap (λ (x : Emission). x.bytes) (then_sent (emission kind g) (emissions kind gs) t.0) in
    let m : length (emission kind g).bytes ≤ 131 = s.short in
    let n : length (emissions kind gs).bytes ≤ 131 * length (pairs_of kind gs) = r.short in
    record {
      are_item_bytes = b ∙ ap₂ (λ (k l : List ℕ). k ++ l) s.are_item_bytes r.are_item_bytes;
      fits = rw s.fits r.fits;
      low = rw (b, all_low_append (emission kind g).bytes (emissions kind gs).bytes, s.low) r.low;
      short = rw (b, length-append (emission kind g).bytes (emissions kind gs).bytes) (omega arith);
    }

pub list_append : (kind : Kind) (gs hs : List (Given kind)) → emissions kind (gs ++ hs) ≡ emissions kind gs then emissions kind hs
unfolding emissions
list_append kind [] hs = refl
list_append kind (g ∷ gs) hs =
    ap (λ (e : Emission). emission kind g then e) (list_append kind gs hs)
    ∙ sym (then_assoc (emission kind g) (emissions kind gs) (emissions kind hs))
