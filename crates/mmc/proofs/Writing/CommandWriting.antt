-- The page's bytes of commands and fields are written from what stands for them; and which commands and fields are accepted,
-- exactly. Assumes nothing.
use Rattle.std.specs.Prelude.{None}
use Prim.Native.Nat.{ℕ, suc, ◌+◌, ◌≤◌, suc-le-suc}
use native.Mathlib.Nat.{zero-lt-suc}
use mathlib.Core.Path.{◌≡◌, refl, sym, ap, ◌∙◌}
use mathlib.Core.Bool.{Bool, true, false, not, cond, ◌&&◌, true≢false}
use mathlib.Core.Logic.{◌↔◌}
use mathlib.Core.List.{List, [], ◌∷◌}
use native.Mathlib.Omega.{arith}
use borrow.Author.Tests.{eqb-true, le-leb}
use lib.Dec.{eqb, lit≤}
use lib.ListN.{length}
use Rattle.mmc.specs.declared.command.MmcCommand.{MmcCommand}
use Rattle.mmc.specs.declared.command.MmcCommand.TheVariants as C
use Rattle.mmc.specs.declared.field.InfoField.{InfoField}
use Rattle.mmc.specs.declared.field.InfoField.TheVariants as F
use Rattle.mmc.specs.declared.length.Kind.{Kind}
use Rattle.mmc.specs.declared.length.Kind.TheVariants.{Commands, Fields}
use Rattle.mmc.specs.declared.length.Length.{Length}
use Rattle.mmc.specs.declared.length.Length.TheVariants.{Fixed, Count}
use Rattle.mmc.specs.declared.part.Part.{Part}
use Rattle.mmc.specs.ByPage.{StandsFor, FieldStandsFor, Writable, Writes, InForm, FieldWrites}
use Rattle.mmc.specs.Item.{standard_item, short_item, other_item, write_item, locate_field_item, is_subframes, locate_target_item, move_item, command_item, form_fits, code_fits, time_code_item, short_code_item, field_item}
use Rattle.mmc.specs.Length.{within, command_length, length_of}
use Rattle.mmc.specs.Named.{name_fits, last_of_name, by_rule, named_item}
use Rattle.mmc.specs.Part.{is_inside, part_of}
use Rattle.mmc.specs.Rp013Commands.{Command, STOP, PLAY, DEFERRED-PLAY, FAST-FORWARD, REWIND, RECORD-STROBE, RECORD-EXIT, PAUSE, MMC-RESET, WRITE, LOCATE_FIELD, LOCATE_TARGET, MOVE, command_bytes, IsFf, IsCommand, FieldName, SELECTED-TIME-CODE, GP0, field_name, HasForm, Field, FULL, SHORT, field_bytes, IsField}
use Rattle.mmc.specs.Strings.{item, command_pair, field_pair, with_count, item_bytes, data_fits, item_fits, given, AcceptedItem}
use Rattle.codes.proofs.Laws.{fits_by_page, written_by_page, short_fits_by_page, short_written_by_page}
use Rattle.codes.specs.Rp013Code as page
use Rattle.codes.specs.TimeCode.{standard_fits, standard_list, short_fits, short_list}
use Rattle.codes.specs.declared.time_code.FinalByte.{FinalByte}
use Rattle.codes.specs.declared.time_code.FinalByte.TheVariants.{Subframes, Status}
use Rattle.codes.specs.declared.time_code.ShortTimeCode.{ShortTimeCode}
use Rattle.codes.specs.declared.time_code.StandardTimeCode.{StandardTimeCode}
use Rattle.labels.specs.declared.time.TimeCodeType.{TimeCodeType}
use Rattle.universal.specs.Emission.{Emission, sent, check, ◌then◌}
use Rattle.universal.specs.Message.{all_low}
use Rattle.universal.specs.Refusals.{Refusal, refusal, gives, refused}
use Rattle.universal.proofs.Laws.{all_low_of, all_low_append, all_low_byte, all_low_cons, data_sent, then_accepted, check_held, gives_refused}
use Rattle.universal.proofs.Tests.{and_parts, and_all}
use Rattle.mmc.proofs.Writing.ItemBytes.{locate_field_checks, locate_target_checks, move_checks, time_code_checks, short_code_checks}
use Rattle.mmc.proofs.RangeTests.{within_range, within_told}
use Rattle.mmc.proofs.StringLaws.{item_accepted}

-- ---- codes

given_by : {A : Type 0} (b : Bool) (x y : A) (r : Refusal) → cond b (gives x) (refused r) ≡ gives y → (b ≡ true) × (x ≡ y)
given_by true x y r p = (refl, cc)
given_by false x y r p = absurd (gives_refused y r p)

-- A code that the page has is accepted, and written as the page's bytes.
code_written : (c : StandardTimeCode) → page.allowed c ≡ true → (standard_fits c ≡ true) × (standard_list c ≡ page.written c)
code_written c h = given_by (standard_fits c) (standard_list c) (page.written c) (refusal 3) (written_by_page c h)

short_as_page : (r : TimeCodeType) (c : ShortTimeCode) → page.short_allowed r c ≡ true
    → (short_fits c ≡ true) × (short_list c ≡ page.short_written c)
short_as_page r c h = given_by (short_fits c) (short_list c) (page.short_written c) (refusal 3) (short_written_by_page r c h)

-- ---- the page's bytes are written

is_subframes_lem : (f : FinalByte) → IsFf f → is_subframes f ≡ true
is_subframes_lem (Subframes b) h = refl
is_subframes_lem (Status s) h = absurd h

-- ---- a name and data of the source

rule_sent : (rule : Length) (d : List ℕ) → data_fits rule d ≡ true → all_low (with_count rule d) ≡ true → by_rule rule d ≡ sent (with_count rule d)
unfolding by_rule
rule_sent (Fixed n) d f l = rw (f, data_sent d l)
rule_sent Count d f l =
    let n : length d ≤ 127 = all_low_byte (length d ∷ d) 0 l (zero-lt-suc (length d)) in
    rw (le-leb (length d) 127 n, data_sent d (low_tail (length d) d l))
  where
    low_tail : (b : ℕ) (bs : List ℕ) → all_low (b ∷ bs) ≡ true → all_low bs ≡ true
    low_tail b bs h = all_low_of bs (λ i k. all_low_byte (b ∷ bs) (suc i) h (suc-le-suc k))

-- A name and data that may be written are.
named_sent : (kind : Kind) (name d : List ℕ) → Writable kind name d → named_item kind name d ≡ sent (item_bytes kind (item name d))
unfolding named_item item_fits item_bytes
named_sent kind name d w =
    let t = and_parts (name_fits name) (data_fits (length_of kind (last_of_name name)) d) w.fits in
    let l = and_parts (all_low name) (all_low (with_count (length_of kind (last_of_name name)) d))
    (sym (all_low_append name (with_count (length_of kind (last_of_name name)) d)) ∙ w.low) in
    rw (t.0, data_sent name l.0, rule_sent (length_of kind (last_of_name name)) d t.1 l.1)

other_sent : (kind : Kind) (source : List ℕ) (n d : Part) → is_inside source n ≡ true → is_inside source d ≡ true
    → Writable kind (part_of source n) (part_of source d)
    → other_item kind source n d ≡ sent (item_bytes kind (item (part_of source n) (part_of source d)))
unfolding other_item
other_sent kind source n d i j w = rw (i, j) (named_sent kind (part_of source n) (part_of source d) w)

-- An accepted item is one that may be written.
accepted_writable : (kind : Kind) (name d bytes : List ℕ) → AcceptedItem kind (item name d) bytes → Writable kind name d
accepted_writable kind name d bytes s = record { fits = s.fits; low = ap all_low (sym s.are_item_bytes) ∙ s.low }

other_inside : (kind : Kind) (source : List ℕ) (n d : Part) → (other_item kind source n d).stop ≡ None
    → (is_inside source n ≡ true) × (is_inside source d ≡ true)
unfolding other_item
other_inside kind source n d h =
    and_parts (is_inside source n) (is_inside source d)
    (check_held (is_inside source n && is_inside source d) 6
    (then_accepted (check (is_inside source n && is_inside source d) 6) (named_item kind (part_of source n) (part_of source d)) h).0)

write_is_inside : (source : List ℕ) (d : Part) → (write_item source d).stop ≡ None → is_inside source d ≡ true
unfolding write_item
write_is_inside source d h =
    check_held (is_inside source d) 6
    (then_accepted (check (is_inside source d) 6) (named_item Commands (64 ∷ []) (part_of source d)) h).0

write_sent : (source : List ℕ) (d : Part) → is_inside source d ≡ true → Writable Commands (64 ∷ []) (part_of source d)
    → write_item source d ≡ sent (64 ∷ length (part_of source d) ∷ part_of source d)
unfolding write_item item_bytes length_of command_length
write_sent source d i w = rw i (named_sent Commands (64 ∷ []) (part_of source d) w)

-- Any bytes to 7FH, 127 at most, may be a Write's.
write_writable : (d : List ℕ) → length d ≤ 127 → all_low d ≡ true → Writable Commands (64 ∷ []) d
unfolding item_fits item_bytes name_fits length_of command_length
write_writable d n l = record { fits = refl; low = all_low_cons 64 (length d ∷ d) (lit≤ tt) (all_low_cons (length d) d n l) }

-- ---- the other items

locate_field_sent : (r : ℕ) → IsCommand (LOCATE_FIELD r) → locate_field_item r ≡ sent (68 ∷ 2 ∷ 0 ∷ r ∷ [])
unfolding locate_field_item
locate_field_sent r h = rw (within_range 8 16 r h.0 (omega (arith, h.1)))

locate_target_sent : (c : StandardTimeCode) → IsFf c.final_byte → standard_fits c ≡ true
    → locate_target_item c ≡ sent (68 ∷ 6 ∷ 1 ∷ standard_list c)
unfolding locate_target_item standard_item
locate_target_sent c f h = rw (is_subframes_lem c.final_byte f, h)

page_move_sent : (d s : ℕ) → IsCommand (MOVE d s) → move_item d s ≡ sent (76 ∷ 2 ∷ d ∷ s ∷ [])
unfolding move_item
page_move_sent d s h = rw (within_range 1 32 d h.0 (omega (arith, h.1)), within_range 1 32 s h.2 (omega (arith, h.3)))

-- ---- the page's bytes are written

-- A command that stands for one of the page is written as the page's bytes.
pub command_written_by_page : (p : Command) (source : List ℕ) (c : MmcCommand) → IsCommand p → StandsFor source p c
    → command_item source c ≡ sent (command_bytes p)
unfolding command_item
command_written_by_page STOP source c h e = ap (command_item source) e
command_written_by_page PLAY source c h e = ap (command_item source) e
command_written_by_page DEFERRED-PLAY source c h e = ap (command_item source) e
command_written_by_page FAST-FORWARD source c h e = ap (command_item source) e
command_written_by_page REWIND source c h e = ap (command_item source) e
command_written_by_page RECORD-STROBE source c h e = ap (command_item source) e
command_written_by_page RECORD-EXIT source c h e = ap (command_item source) e
command_written_by_page PAUSE source c h e = ap (command_item source) e
command_written_by_page MMC-RESET source c h e = ap (command_item source) e
command_written_by_page (WRITE fields) source c h (d, e, i, f) =
    ap (command_item source) e
    ∙ write_sent source d i (rw f (write_writable fields h.count (all_low_of fields h.seven_bits)))
    ∙ ap (λ (l : List ℕ). sent (64 ∷ length l ∷ l)) f
command_written_by_page (LOCATE_FIELD field) source c h e = ap (command_item source) e ∙ locate_field_sent field h
command_written_by_page (LOCATE_TARGET t) source c h e =
    let w = code_written t h.0 in
    ap (command_item source) e ∙ locate_target_sent t h.1 w.0 ∙ ap (λ (l : List ℕ). sent (68 ∷ 6 ∷ 1 ∷ l)) w.1
command_written_by_page (MOVE destination from) source c h e = ap (command_item source) e ∙ page_move_sent destination from h

-- A field's form by the page is the code's.
form_fits_lem : (f : FieldName) (negative : Bool) (l : FinalByte) → HasForm f negative l → code_fits (field_name f) negative l ≡ true
unfolding code_fits
form_fits_lem SELECTED-TIME-CODE negative (Subframes b) h = absurd h
form_fits_lem SELECTED-TIME-CODE negative (Status s) h = rw h
form_fits_lem GP0 negative (Subframes b) h = refl
form_fits_lem GP0 negative (Status s) h = absurd h

-- A field that stands for one of the page is written as the page's bytes.
pub field_written_by_page : (p : Field) (source : List ℕ) (x : InfoField) → IsField p → FieldStandsFor p x
    → field_item source x ≡ sent (field_bytes p)
unfolding field_item time_code_item short_code_item standard_item short_item
field_written_by_page (FULL f c) source x h e =
    let w = code_written c h.0 in
    ap (field_item source) e ∙ rw (form_fits_lem f c.negative c.final_byte h.1, w.0, w.1)
field_written_by_page (SHORT f rate c) source x h e =
    let w = short_as_page rate c h.0 in
    ap (field_item source) e ∙ rw (form_fits_lem f c.negative c.final_byte h.1, w.0, w.1)

-- ---- what is written, exactly

told_subframes : (f : FinalByte) → is_subframes f ≡ true → IsFf f
told_subframes (Subframes b) h = tt
told_subframes (Status s) h = absurd (true≢false (sym h))

target_form : (c : StandardTimeCode) → (locate_target_item c).stop ≡ None → IsFf c.final_byte
unfolding locate_target_item
target_form c h =
    told_subframes c.final_byte
    (check_held (is_subframes c.final_byte) 3
    (then_accepted (check (is_subframes c.final_byte) 3) (sent (68 ∷ 6 ∷ 1 ∷ []) then standard_item c) h).0)

sent_whole : (e : Emission) (bs : List ℕ) → e ≡ sent bs → e.stop ≡ None
sent_whole e bs p = ap (λ (x : Emission). x.stop) p

-- A command is accepted exactly where it is said that it may be written; any other is refused.
pub command_written_exactly : (source : List ℕ) (c : MmcCommand) → ((command_item source c).stop ≡ None) ↔ Writes source c
unfolding command_item command_pair
command_written_exactly source C.Stop = (λ _. tt, λ _. refl)
command_written_exactly source C.Play = (λ _. tt, λ _. refl)
command_written_exactly source C.DeferredPlay = (λ _. tt, λ _. refl)
command_written_exactly source C.FastForward = (λ _. tt, λ _. refl)
command_written_exactly source C.Rewind = (λ _. tt, λ _. refl)
command_written_exactly source C.RecordStrobe = (λ _. tt, λ _. refl)
command_written_exactly source C.RecordExit = (λ _. tt, λ _. refl)
command_written_exactly source C.Pause = (λ _. tt, λ _. refl)
command_written_exactly source C.Reset = (λ _. tt, λ _. refl)
command_written_exactly source (C.Write d) = (
  λ h. (
    write_is_inside source d h,
    accepted_writable Commands (64 ∷ []) (part_of source d) _ (item_accepted Commands (given Commands source (C.Write d)) h),
  ),
  λ w. sent_whole (write_item source d) _ (write_sent source d w.0 w.1),
)
command_written_exactly source (C.LocateField r) = (
  λ h. let t = locate_field_checks r h in (t.0, omega (arith, t.1)),
  λ w. sent_whole (locate_field_item r) _ (locate_field_sent r w),
)
command_written_exactly source (C.LocateTarget c) = (
  λ h. (target_form c h, sym (fits_by_page c) ∙ (locate_target_checks c h).0),
  λ w. sent_whole (locate_target_item c) _ (locate_target_sent c w.0 (fits_by_page c ∙ w.1)),
)
command_written_exactly source (C.Move d s) = (
  λ h. let t = move_checks d s h in (t.0, omega (arith, t.1), t.2, omega (arith, t.3)),
  λ w. sent_whole (move_item d s) _ (page_move_sent d s w),
)
command_written_exactly source (C.Other n d) = (
  λ h.
      let i = other_inside Commands source n d h in (
        i.0,
        i.1,
        accepted_writable Commands (part_of source n) (part_of source d) _ (item_accepted Commands (given Commands source (C.Other n d)) h),
      ),
  λ w. sent_whole (other_item Commands source n d) _ (other_sent Commands source n d w.0 w.1 w.2),
)

-- ---- a field's name and form

-- The form rule of the code, told by the name.
form_kept : (f : ℕ) (negative : Bool) (l : FinalByte) → form_fits f negative l ≡ true
    → (f ≡ 1 → HasForm SELECTED-TIME-CODE negative l) × (f ≡ 8 → HasForm GP0 negative l)
form_kept f negative (Subframes b) h = (λ e. absurd (true≢false (sym (rw e at h))), λ _. tt)
form_kept f negative (Status s) h = (λ e. positive negative (rw e at h), λ e. absurd (true≢false (sym (rw e at h))))
  where
    positive : (b : Bool) → not b ≡ true → b ≡ false
    positive true q = absurd (true≢false (sym q))
    positive false q = refl

form_of : (f : ℕ) (negative : Bool) (l : FinalByte) → (f ≡ 1 → HasForm SELECTED-TIME-CODE negative l)
    → (f ≡ 8 → HasForm GP0 negative l) → form_fits f negative l ≡ true
form_of f negative (Subframes b) s g = go (eqb f 1) refl
  where
    go : (b : Bool) → eqb f 1 ≡ b → not (eqb f 1) ≡ true
    go true e = absurd (s (eqb-true f 1 e))
    go false e = rw e
form_of f negative (Status st) s g = go (eqb f 1) (eqb f 8) refl refl
  where
    go : (a b : Bool) → eqb f 1 ≡ a → eqb f 8 ≡ b → cond a (not negative) (not b) ≡ true
    go true b e k = rw (s (eqb-true f 1 e))
    go false true e k = absurd (g (eqb-true f 8 k))
    go false false e k = refl

in_form : (f : ℕ) (negative : Bool) (l : FinalByte) → (code_fits f negative l ≡ true) ↔ InForm f negative l
unfolding code_fits
in_form f negative l = (
  λ h.
      let t = and_parts (within 1 32 f) (form_fits f negative l) h in
      let r = within_told 1 32 f t.0 in
      let k = form_kept f negative l t.1 in
      record { name = record { from = r.0; to = omega (arith, r.1) }; selected = k.0; gp0 = k.1 },
  λ i.
      and_all (within 1 32 f) (form_fits f negative l) (within_range 1 32 f i.name.from (omega (arith, i.name.to)))
      (form_of f negative l i.selected i.gp0),
)

module _ (f : ℕ) where
  time_code_form : (c : StandardTimeCode) → (time_code_item f c).stop ≡ None → code_fits f c.negative c.final_byte ≡ true
  unfolding time_code_item
  time_code_form c h = check_held (code_fits f c.negative c.final_byte) 3 (then_accepted (check (code_fits f c.negative c.final_byte) 3) (sent (f ∷ []) then standard_item c) h).0

  short_code_form : (c : ShortTimeCode) → (short_code_item f c).stop ≡ None → code_fits f c.negative c.final_byte ≡ true
  unfolding short_code_item
  short_code_form c h = check_held (code_fits f c.negative c.final_byte) 3 (then_accepted (check (code_fits f c.negative c.final_byte) 3) (sent ((f + 32) ∷ []) then short_item c) h).0

  time_code_sent : (c : StandardTimeCode) → code_fits f c.negative c.final_byte ≡ true → standard_fits c ≡ true
      → time_code_item f c ≡ sent (f ∷ standard_list c)
  unfolding time_code_item standard_item
  time_code_sent c h k = rw (h, k)

  short_code_sent : (c : ShortTimeCode) → code_fits f c.negative c.final_byte ≡ true → short_fits c ≡ true
      → short_code_item f c ≡ sent ((f + 32) ∷ short_list c)
  unfolding short_code_item short_item
  short_code_sent c h k = rw (h, k)

-- A field is accepted exactly where it is said that it may be written; any other is refused.
pub field_written_exactly : (source : List ℕ) (x : InfoField) → ((field_item source x).stop ≡ None) ↔ FieldWrites source x
unfolding field_item field_pair
field_written_exactly source (F.TimeCode f c) = (
  λ h. (
    (in_form f c.negative c.final_byte).0 (time_code_form f c h),
    sym (fits_by_page c) ∙ (time_code_checks f c h).2,
  ),
  λ w. sent_whole (time_code_item f c) _ (time_code_sent f c ((in_form f c.negative c.final_byte).1 w.0) (fits_by_page c ∙ w.1)),
)
field_written_exactly source (F.Short f c) = (
  λ h. (
    (in_form f c.negative c.final_byte).0 (short_code_form f c h),
    sym (short_fits_by_page c) ∙ (short_code_checks f c h).2,
  ),
  λ w. sent_whole (short_code_item f c) _ (short_code_sent f c ((in_form f c.negative c.final_byte).1 w.0) (short_fits_by_page c ∙ w.1)),
)
field_written_exactly source (F.Other n d) = (
  λ h.
      let i = other_inside Fields source n d h in (
        i.0,
        i.1,
        accepted_writable Fields (part_of source n) (part_of source d) _ (item_accepted Fields (given Fields source (F.Other n d)) h),
      ),
  λ w. sent_whole (other_item Fields source n d) _ (other_sent Fields source n d w.0 w.1 w.2),
)
