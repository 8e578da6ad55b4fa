-- The page's bytes of commands and fields are read as what stands for them; and which names and data are read as each case,
-- exactly. Assumes nothing.
use Rattle.std.specs.Prelude.{None}
use Prim.Native.Nat.{ℕ, suc, ◌+◌, ◌-◌, ◌≤◌, ◌<◌, zero-le}
use native.Mathlib.Nat.{zero-add}
use mathlib.Core.Path.{◌≡◌, refl, sym, ap, ap₂, subst, ◌∙◌}
use mathlib.Core.Bool.{Bool, true, false, cond, true≢false}
use mathlib.Core.Logic.{◌↔◌, ◌≢◌}
use mathlib.Core.List.{List, [], ◌∷◌, ◌++◌}
use native.Mathlib.Omega.{arith}
use borrow.Author.Tests.{eq-eqb, ne_eqb, eqb-true, eqb-false, le-leb, le-ltb}
use lib.Dec.{ltb, eqb}
use lib.ListN.{length, get_or, length-append}
use lib.Seq.{take-length}
use Rattle.mmc.specs.declared.command.MmcCommand.{MmcCommand}
use Rattle.mmc.specs.declared.command.MmcCommand.TheVariants as C
use Rattle.mmc.specs.declared.field.InfoField.{InfoField}
use Rattle.mmc.specs.declared.field.InfoField.TheVariants as F
use Rattle.mmc.specs.declared.length.Kind.{Kind}
use Rattle.mmc.specs.declared.length.Kind.TheVariants.{Commands, Fields}
use Rattle.mmc.specs.declared.length.Length.{Length}
use Rattle.mmc.specs.declared.length.Length.TheVariants.{Fixed, Count}
use Rattle.mmc.specs.ByPage.{StandsFor, FieldStandsFor, CommandAt, FieldAt, ReadsAs, FieldReadsAs}
use Rattle.mmc.specs.Command.{CommandCase, stop, play, deferred_play, fast_forward, rewind, record_strobe, record_exit, pause, reset, write, other, locate_field, locate_target, move, read_locate, read_move, command_by_name, read_command, command_of_case}
use Rattle.mmc.specs.Field.{FieldCase, time_code_field, short_field, read_field, field_by_name, other_field}
use Rattle.mmc.specs.Length.{within, command_length, length_of}
use Rattle.mmc.specs.Named.{name_fits}
use Rattle.mmc.specs.Part.{is_inside, part_of, part}
use Rattle.mmc.specs.Rp013.{Item}
use Rattle.mmc.specs.Rp013Commands.{Command, STOP, PLAY, DEFERRED-PLAY, FAST-FORWARD, REWIND, RECORD-STROBE, RECORD-EXIT, PAUSE, MMC-RESET, WRITE, LOCATE_FIELD, LOCATE_TARGET, MOVE, command_bytes, received_bytes, IsCommand, field_name, Field, FULL, SHORT, field_bytes, IsField}
use Rattle.mmc.specs.Split.{ItemPlace}
use Rattle.mmc.specs.Strings.{item, item_fits, command_back, command_pair, count_bytes, rule_of, with_count, item_bytes, item_place, Found, Given, given, pair_of, emission, back, AcceptedItem}
use Rattle.codes.proofs.Laws.{zeroed_same, read_only, page_reads_back}
use Rattle.codes.specs.Rp013Code as page
use Rattle.codes.specs.declared.time_code.StandardTimeCode.{StandardTimeCode}
use Rattle.codes.specs.TimeCode.{read_five, read_two, read_standard, read_short}
use Rattle.universal.specs.Emission.{Emission, sent}
use Rattle.universal.specs.Refusals.{gives}
use Rattle.mmc.proofs.Writing.CommandWriting.{command_written_by_page, field_written_by_page}
use Rattle.mmc.proofs.RangeTests.{within_range, above_range, within_told}
use Rattle.mmc.proofs.StringLaws.{item_split, item_accepted, item_read, meaning_back, command_back_lem}

-- ---- the page's bytes are read

-- A whole list as a part of itself.
inside_all : (l : List ℕ) → is_inside l (part 0 (length l)) ≡ true
unfolding is_inside
inside_all l = rw (le-leb 0 (length l) zero-le, le-leb (length l) (length l - 0) (omega arith))

part_all : (l : List ℕ) → part_of l (part 0 (length l)) ≡ l
unfolding part_of
part_all l = rw (inside_all l) (take-length l)

-- A command of the code that stands for one of the page.
record Made (p : Command) : Type 0 where
  source : List ℕ
  command : MmcCommand
  stands : StandsFor source p command

made : (p : Command) → Made p
made STOP = record { source = []; command = C.Stop; stands = refl }
made PLAY = record { source = []; command = C.Play; stands = refl }
made DEFERRED-PLAY = record { source = []; command = C.DeferredPlay; stands = refl }
made FAST-FORWARD = record { source = []; command = C.FastForward; stands = refl }
made REWIND = record { source = []; command = C.Rewind; stands = refl }
made RECORD-STROBE = record { source = []; command = C.RecordStrobe; stands = refl }
made RECORD-EXIT = record { source = []; command = C.RecordExit; stands = refl }
made PAUSE = record { source = []; command = C.Pause; stands = refl }
made MMC-RESET = record { source = []; command = C.Reset; stands = refl }
made (WRITE fields) =
    record {
      source = fields;
      command = C.Write (part 0 (length fields));
      stands = (part 0 (length fields), refl, inside_all fields, part_all fields);
    }
made (LOCATE_FIELD field) = record { source = []; command = C.LocateField field; stands = refl }
made (LOCATE_TARGET c) = record { source = []; command = C.LocateTarget c; stands = refl }
made (MOVE destination from) = record { source = []; command = C.Move destination from; stands = refl }

-- It as it is given to be written.
as_given : (p : Command) → Given Commands
as_given p = given Commands (made p).source (made p).command

-- What it comes back as stands for the same, in the bytes that it was read from.
stands_back : (p : Command) → IsCommand p → (body : List ℕ) (l : ItemPlace) → is_inside body l.«data» ≡ true
    → part_of body l.«data» ≡ (pair_of Commands (as_given p)).«data» → StandsFor body p (back Commands (as_given p) l)
unfolding command_pair as_given made
stands_back STOP h body l i e = refl
stands_back PLAY h body l i e = refl
stands_back DEFERRED-PLAY h body l i e = refl
stands_back FAST-FORWARD h body l i e = refl
stands_back REWIND h body l i e = refl
stands_back RECORD-STROBE h body l i e = refl
stands_back RECORD-EXIT h body l i e = refl
stands_back PAUSE h body l i e = refl
stands_back MMC-RESET h body l i e = refl
stands_back (WRITE fields) h body l i e = (l.«data», refl, i, e ∙ part_all fields)
stands_back (LOCATE_FIELD field) h body l i e = refl
stands_back (LOCATE_TARGET c) h body l i e = ap C.LocateTarget (zeroed_same c h.0)
stands_back (MOVE destination from) h body l i e = refl

-- The data of an item that stands in a string lie in it.
data_inside : (kind : Kind) (body pre : List ℕ) (x : Item) (post : List ℕ) (place : ℕ) → body ≡ pre ++ (item_bytes kind x ++ post)
    → place ≡ length pre → is_inside body (item_place kind place x).«data» ≡ true
unfolding is_inside item_bytes
data_inside kind body pre x post place e p =
    let rest : List ℕ = with_count (rule_of kind x) x.«data» in
    let a : length body ≡ length pre + (length (x.name ++ rest) + length post) =
    ap length e ∙ length-append pre ((x.name ++ rest) ++ post) ∙ ap (λ (k : ℕ). length pre + k) (length-append (x.name ++ rest) post) in
    let b : length (x.name ++ rest) ≡ length x.name + length rest = length-append x.name rest in
    let c : length rest ≡ count_bytes (rule_of kind x) + length x.«data» = counted_length (rule_of kind x) x.«data» in
    rw (
      le-leb (place + length x.name + count_bytes (rule_of kind x)) (length body) (omega arith),
      le-leb (length x.«data») (length body - (place + length x.name + count_bytes (rule_of kind x))) (omega arith),
    )
  where
    counted_length : (rule : Length) (d : List ℕ) → length (with_count rule d) ≡ count_bytes rule + length d
    counted_length (Fixed n) d = sym (zero-add (length d))
    counted_length Count d = omega arith

field_meant : Field → InfoField
field_meant (FULL f c) = F.TimeCode (field_name f) c
field_meant (SHORT f rate c) = F.Short (field_name f) c

stands_of : (p : Field) → FieldStandsFor p (field_meant p)
unfolding field_meant
stands_of (FULL f c) = refl
stands_of (SHORT f rate c) = refl

field_stands_back : (p : Field) → IsField p → (l : ItemPlace) → FieldStandsFor p (back Fields (given Fields [] (field_meant p)) l)
unfolding field_meant
field_stands_back (FULL f c) h l = ap (F.TimeCode (field_name f)) (zeroed_same c h.0)
field_stands_back (SHORT f rate c) h l = refl

-- The page's bytes of a field are read as one that stands for it.
pub field_read_by_page : (p : Field) (body pre post : List ℕ) (place : ℕ) → IsField p → body ≡ pre ++ (field_bytes p ++ post)
    → place ≡ length pre → FieldAt body place p
field_read_by_page p body pre post place h e q =
    let g : Given Fields = given Fields [] (field_meant p) in
    let w : emission Fields g ≡ sent (field_bytes p) = field_written_by_page p [] (field_meant p) h (stands_of p) in
    let ok : (emission Fields g).stop ≡ None = ap (λ (x : Emission). x.stop) w in
    let s : AcceptedItem Fields (pair_of Fields g) (emission Fields g).bytes = item_accepted Fields g ok in
    let x : Item = pair_of Fields g in
    let b : field_bytes p ≡ item_bytes Fields x = ap (λ (y : Emission). y.bytes) (sym w) ∙ s.are_item_bytes in
    let e₁ : body ≡ pre ++ (item_bytes Fields x ++ post) = e ∙ ap (λ (l : List ℕ). pre ++ (l ++ post)) b in
    record {
      field = back Fields g (item_place Fields place x);
      read =
          item_read Fields body pre x post place s.fits e₁ q
          ∙ ap₂ (λ (c : InfoField) (k : ℕ). record { answer = gives c; place = place + k })
          (meaning_back Fields g ok (item_place Fields place x)) (ap length (sym b));
      stands = field_stands_back p h (item_place Fields place x);
    }

-- ---- what is read, exactly

-- By the test of two numbers.
module _ {A : Type 0} (P : A → Type 0) where
  where_same : (n m : ℕ) {x y : A} → (n ≡ m → P x) → (n ≢ m → P y) → P (cond (eqb n m) x y)
  where_same n m {x} {y} f g = go (eqb n m) refl
    where
      go : (b : Bool) → eqb n m ≡ b → P (cond b x y)
      go true e = f (eqb-true n m e)
      go false e = g (eqb-false n m e)

-- What a name and data are read as is what they are said to be read as, or another command.
data View (name d : List ℕ) : CommandCase → Type 0 where
  known_name : {k : CommandCase} → ReadsAs k name d → View name d k
  another : View name d other

two_or_more : (a b : ℕ) (l : List ℕ) → ltb (length (a ∷ b ∷ l)) 2 ≡ false
two_or_more a b l = le-ltb (length (a ∷ b ∷ l)) 2 (omega arith)

target_view : (a b : ℕ) (past : List ℕ) → a ≡ 1
    → View (68 ∷ []) (a ∷ b ∷ past)
    (cond (ltb (length (a ∷ b ∷ past)) 6) other
    (locate_target (read_standard b (get_or past 0 0) (get_or past 1 0) (get_or past 2 0) (get_or past 3 0))))
target_view a b [] e = another
target_view a b (c ∷ []) e = another
target_view a b (c ∷ d ∷ []) e = another
target_view a b (c ∷ d ∷ f ∷ []) e = another
target_view a b (c ∷ d ∷ f ∷ g ∷ past) e =
    rw (le-ltb (length (a ∷ b ∷ c ∷ d ∷ f ∷ g ∷ past)) 6 (omega arith))
    (known_name {k = locate_target (read_standard b c d f g)} (refl, b ∷ c ∷ d ∷ f ∷ g ∷ [], past, refl, ap (λ (k : ℕ). k ∷ b ∷ c ∷ d ∷ f ∷ g ∷ past) e, refl))

locate_view : (d : List ℕ) → View (68 ∷ []) d (read_locate d)
unfolding read_locate
locate_view [] = another
locate_view (a ∷ []) = another
locate_view (a ∷ b ∷ past) =
    rw (two_or_more a b past)
    (where_same (View (68 ∷ []) (a ∷ b ∷ past)) a 0
    (λ e.
    where_same (View (68 ∷ []) (a ∷ b ∷ past)) b 0 (λ _. another)
    (λ n. known_name {k = locate_field b} (refl, past, ap (λ (k : ℕ). k ∷ b ∷ past) e, n)))
    (λ _. where_same (View (68 ∷ []) (a ∷ b ∷ past)) a 1 (λ e. target_view a b past e) (λ _. another)))

move_view : (d : List ℕ) → View (76 ∷ []) d (read_move d)
unfolding read_move
move_view [] = another
move_view (a ∷ []) = another
move_view (a ∷ b ∷ past) =
    rw (two_or_more a b past)
    (where_same (View (76 ∷ []) (a ∷ b ∷ past)) a 0 (λ _. another)
    (λ m.
    where_same (View (76 ∷ []) (a ∷ b ∷ past)) b 0 (λ _. another) (λ n. known_name {k = move a b} (refl, past, refl, m, n))))

byte_view : (n : ℕ) (d : List ℕ) → View (n ∷ []) d (command_by_name n d)
unfolding command_by_name
byte_view n d =
    plain 1 (λ e. known_name e)
    (plain 2 (λ e. known_name e)
    (plain 3 (λ e. known_name e)
    (plain 4 (λ e. known_name e)
    (plain 5 (λ e. known_name e)
    (plain 6 (λ e. known_name e)
    (plain 7 (λ e. known_name e)
    (plain 9 (λ e. known_name e)
    (plain 13 (λ e. known_name e)
    (plain 64 (λ e. known_name e)
    (plain 68 (λ e. subst (λ (l : List ℕ). View l d (read_locate d)) (sym e) (locate_view d))
    (plain 76 (λ e. subst (λ (l : List ℕ). View l d (read_move d)) (sym e) (move_view d)) another)))))))))))
  where
    plain : (m : ℕ) {x y : CommandCase} → (n ∷ [] ≡ m ∷ [] → View (n ∷ []) d x) → View (n ∷ []) d y
        → View (n ∷ []) d (cond (eqb n m) x y)
    plain m f g = where_same (View (n ∷ []) d) n m (λ e. f (ap (λ (k : ℕ). k ∷ []) e)) (λ _. g)

command_view : (name d : List ℕ) → View name d (read_command name d)
unfolding read_command
command_view [] d = another
command_view (n ∷ []) d = byte_view n d
command_view (n ∷ m ∷ l) d =
    rw (ne_eqb (length (n ∷ m ∷ l)) 1 (λ e. omega arith)) another

-- A case other than another command.
is_other : CommandCase → Bool
is_other other = true
is_other stop = false
is_other play = false
is_other deferred_play = false
is_other fast_forward = false
is_other rewind = false
is_other record_strobe = false
is_other record_exit = false
is_other pause = false
is_other reset = false
is_other write = false
is_other (locate_field r) = false
is_other (locate_target c) = false
is_other (move a b) = false

differs : (k : CommandCase) → is_other k ≡ false → k ≢ other
unfolding is_other
differs k h e = true≢false (ap is_other (sym e) ∙ h)

reads_known : (k : CommandCase) (name d : List ℕ) → ReadsAs k name d → (read_command name d ≡ k) × (k ≢ other)
unfolding read_command command_by_name read_locate read_move is_other
reads_known stop name d e = (rw e, differs stop refl)
reads_known play name d e = (rw e, differs play refl)
reads_known deferred_play name d e = (rw e, differs deferred_play refl)
reads_known fast_forward name d e = (rw e, differs fast_forward refl)
reads_known rewind name d e = (rw e, differs rewind refl)
reads_known record_strobe name d e = (rw e, differs record_strobe refl)
reads_known record_exit name d e = (rw e, differs record_exit refl)
reads_known pause name d e = (rw e, differs pause refl)
reads_known reset name d e = (rw e, differs reset refl)
reads_known write name d e = (rw e, differs write refl)
reads_known (locate_field r) name d (e, past, f, n) = (rw (e, f, two_or_more 0 r past, ne_eqb r 0 n), differs (locate_field r) refl)
reads_known (locate_target c) name d (e, five, past, l, f, q) = (by five l f q, differs (locate_target c) refl)
  where
    by : (five : List ℕ) → length five ≡ 5 → d ≡ 1 ∷ (five ++ past) → c ≡ read_five five → read_command name d ≡ locate_target c
    by [] l f q = absurd (omega arith)
    by (v ∷ []) l f q = absurd (omega arith)
    by (v ∷ w ∷ []) l f q = absurd (omega arith)
    by (v ∷ w ∷ x ∷ []) l f q = absurd (omega arith)
    by (v ∷ w ∷ x ∷ y ∷ []) l f q = absurd (omega arith)
    by (v ∷ w ∷ x ∷ y ∷ z ∷ []) l f q =
        rw (e, f, two_or_more 1 v (w ∷ x ∷ y ∷ z ∷ past), le-ltb (length (1 ∷ v ∷ w ∷ x ∷ y ∷ z ∷ past)) 6 (omega arith)) (ap locate_target (sym q))
    by (v ∷ w ∷ x ∷ y ∷ z ∷ u ∷ rest) l f q = absurd (omega arith)
reads_known (move a b) name d (e, past, f, m, n) = (rw (e, f, two_or_more a b past, ne_eqb a 0 m, ne_eqb b 0 n), differs (move a b) refl)
reads_known other name d h = absurd h

-- A name and data are read as a case, and not as another command, exactly where they are said to be.
pub command_read_exactly : (k : CommandCase) (name d : List ℕ)
    → ((read_command name d ≡ k) × (k ≢ other)) ↔ ReadsAs k name d
command_read_exactly k name d = (λ t. go (read_command name d) (command_view name d) t.0 t.1, reads_known k name d)
  where
    go : (j : CommandCase) → View name d j → j ≡ k → k ≢ other → ReadsAs k name d
    go j (known_name r) e n = subst (λ (x : CommandCase). ReadsAs x name d) e r
    go j another e n = absurd (n (sym e))

-- ---- fields, likewise

data FieldView (name d : List ℕ) : FieldCase → Type 0 where
  named_field : {k : FieldCase} → FieldReadsAs k name d → FieldView name d k
  another_field : FieldView name d other_field

-- By a range, from one number up to, not including, another.
module _ (P : FieldCase → Type 0) where
  where_within : (from to n : ℕ) {x y : FieldCase} → (from ≤ n → n < to → P x) → P y → P (cond (within from to n) x y)
  where_within from to n {x} {y} f g = go (within from to n) refl
    where
      go : (b : Bool) → within from to n ≡ b → P (cond b x y)
      go true e = let t = within_told from to n e in f t.0 t.1
      go false e = g

five_of : (n : ℕ) (d : List ℕ) → 1 ≤ n → n < 32
    → FieldView (n ∷ []) d
    (cond (eqb (length d) 5) (time_code_field n (read_standard (get_or d 0 0) (get_or d 1 0) (get_or d 2 0) (get_or d 3 0) (get_or d 4 0))) other_field)
five_of n d l h =
    where_same (FieldView (n ∷ []) d) (length d) 5
    (λ e. named_field {k = time_code_field n (read_five d)} (record { from = l; to = omega arith }, refl, e, refl)) (λ _. another_field)

two_of : (n : ℕ) (d : List ℕ) → 33 ≤ n → n < 64
    → FieldView (n ∷ []) d (cond (eqb (length d) 2) (short_field (n - 32) (read_short (get_or d 0 0) (get_or d 1 0))) other_field)
two_of n d l h =
    let m : n ≡ n - 32 + 32 = omega arith in
    where_same (FieldView (n ∷ []) d) (length d) 2
    (λ e.
    named_field {k = short_field (n - 32) (read_two d)}
    (record { from = omega arith; to = omega arith }, ap (λ (k : ℕ). k ∷ []) m, e, refl)) (λ _. another_field)

field_view : (name d : List ℕ) → FieldView name d (read_field name d)
unfolding read_field field_by_name
field_view [] d = another_field
field_view (n ∷ []) d =
    where_within (FieldView (n ∷ []) d) 1 32 n (five_of n d) (where_within (FieldView (n ∷ []) d) 33 64 n (two_of n d) another_field)
field_view (n ∷ m ∷ l) d = rw (ne_eqb (length (n ∷ m ∷ l)) 1 (λ e. omega arith)) another_field

is_other_field : FieldCase → Bool
is_other_field (time_code_field f c) = false
is_other_field (short_field f c) = false
is_other_field other_field = true

field_reads_known : (k : FieldCase) (name d : List ℕ) → FieldReadsAs k name d → (read_field name d ≡ k) × (k ≢ other_field)
unfolding read_field field_by_name is_other_field
field_reads_known (time_code_field f c) name d (b, e, l, q) = (
  rw (e, within_range 1 32 f b.from (omega (arith, b.to)), eq-eqb (length d) 5 l) (ap (time_code_field f) (sym q)),
  λ z. true≢false (ap is_other_field (sym z)),
)
field_reads_known (short_field f c) name d (b, e, l, q) =
    let n : f + 32 - 32 ≡ f = omega arith in (
      rw (
        e,
        above_range 1 32 (f + 32) (omega arith) (omega arith),
        within_range 33 64 (f + 32) (omega (arith, b.from)) (omega (arith, b.to)),
        eq-eqb (length d) 2 l,
        n,
      )
          (ap (short_field f) (sym q)),
      λ z. true≢false (ap is_other_field (sym z)),
    )
field_reads_known other_field name d h = absurd h

-- A field's name and data are read as a time code exactly where they are said to be.
pub field_read_exactly : (k : FieldCase) (name d : List ℕ) → ((read_field name d ≡ k) × (k ≢ other_field)) ↔ FieldReadsAs k name d
field_read_exactly k name d = (λ t. go (read_field name d) (field_view name d) t.0 t.1, field_reads_known k name d)
  where
    go : (j : FieldCase) → FieldView name d j → j ≡ k → k ≢ other_field → FieldReadsAs k name d
    go j (named_field r) e n = subst (λ (x : FieldCase). FieldReadsAs x name d) e r
    go j another_field e n = absurd (n (sym e))

-- ---- the page's bytes of a command are read

-- An item that has a command's bytes, with data past its own or none: what it is read as stands for the command wherever it is.
record ItemOf (p : Command) (past : List ℕ) : Type 0 where
  x : Item
  fits : item_fits Commands x ≡ true
  bytes : received_bytes p past ≡ item_bytes Commands x
  k : CommandCase
  reads : read_command x.name x.«data» ≡ k
  stands : (body : List ℕ) (l : ItemPlace) → is_inside body l.«data» ≡ true → part_of body l.«data» ≡ x.«data»
      → StandsFor body p (command_of_case k l.name l.«data»)

-- A command as it is written.
own_item : (p : Command) (past : List ℕ) → IsCommand p → received_bytes p past ≡ command_bytes p → ItemOf p past
unfolding as_given
own_item p past h e =
    let g : Given Commands = as_given p in
    let w : emission Commands g ≡ sent (command_bytes p) = command_written_by_page p (made p).source (made p).command h (made p).stands in
    let ok : (emission Commands g).stop ≡ None = ap (λ (y : Emission). y.stop) w in
    let s : AcceptedItem Commands (pair_of Commands g) (emission Commands g).bytes = item_accepted Commands g ok in
    record {
      x = pair_of Commands g;
      fits = s.fits;
      bytes = e ∙ ap (λ (y : Emission). y.bytes) (sym w) ∙ s.are_item_bytes;
      k = command_back (made p).source (made p).command;
      reads = command_back_lem (made p).source (made p).command ok;
      stands = λ body l i q. stands_back p h body l i q;
    }

-- A Locate or a Move, by its sub-command or names and what stands past them.
counted_item : (name : ℕ) (p : Command) (past d : List ℕ) (k : CommandCase) → item_fits Commands (item (name ∷ []) d) ≡ true
    → received_bytes p past ≡ item_bytes Commands (item (name ∷ []) d) → ReadsAs k (name ∷ []) d
    → ((body : List ℕ) (l : ItemPlace) → StandsFor body p (command_of_case k l.name l.«data»)) → ItemOf p past
counted_item name p past d k f b r s =
    record {
      x = item (name ∷ []) d;
      fits = f;
      bytes = b;
      k = k;
      reads = (reads_known k (name ∷ []) d r).0;
      stands = λ body l i q. s body l;
    }

-- The bytes of a code that the page has are read as it.
page_code_back : (c : StandardTimeCode) → page.allowed c ≡ true → c ≡ read_five (page.written c)
page_code_back c h = sym (read_only _ _ _ _ _ c (page_reads_back c h))

received : (p : Command) (past : List ℕ) → IsCommand p → ItemOf p past
unfolding item_fits item_bytes name_fits length_of command_length
received STOP past h = own_item STOP past h refl
received PLAY past h = own_item PLAY past h refl
received DEFERRED-PLAY past h = own_item DEFERRED-PLAY past h refl
received FAST-FORWARD past h = own_item FAST-FORWARD past h refl
received REWIND past h = own_item REWIND past h refl
received RECORD-STROBE past h = own_item RECORD-STROBE past h refl
received RECORD-EXIT past h = own_item RECORD-EXIT past h refl
received PAUSE past h = own_item PAUSE past h refl
received MMC-RESET past h = own_item MMC-RESET past h refl
received (WRITE fields) past h = own_item (WRITE fields) past h refl
received (LOCATE_FIELD register) past h =
    let n : 2 + length past ≡ suc (suc (length past)) = omega arith in
    counted_item 68 (LOCATE_FIELD register) past (0 ∷ register ∷ past) (locate_field register) refl
    (ap (λ (k : ℕ). 68 ∷ k ∷ 0 ∷ register ∷ past) n) (refl, past, refl, λ e. omega (arith, h.0)) (λ body l. refl)
received (LOCATE_TARGET c) past h =
    let n : 6 + length past ≡ suc (suc (suc (suc (suc (suc (length past)))))) = omega arith in
    counted_item 68 (LOCATE_TARGET c) past (1 ∷ (page.written c ++ past)) (locate_target c) refl
    (ap (λ (k : ℕ). 68 ∷ k ∷ 1 ∷ (page.written c ++ past)) n) (refl, page.written c, past, refl, refl, page_code_back c h.0) (λ body l. refl)
received (MOVE destination from) past h =
    let n : 2 + length past ≡ suc (suc (length past)) = omega arith in
    counted_item 76 (MOVE destination from) past (destination ∷ from ∷ past) (move destination from) refl
    (ap (λ (k : ℕ). 76 ∷ k ∷ destination ∷ from ∷ past) n)
    (refl, past, refl, λ e. omega (arith, h.0), λ e. omega (arith, h.2)) (λ body l. refl)

-- The page's bytes of a command, with data past its own or none, are read as one that stands for it.
pub command_read_by_page : (p : Command) (past body pre post : List ℕ) (place : ℕ) → IsCommand p
    → body ≡ pre ++ (received_bytes p past ++ post) → place ≡ length pre → CommandAt body place p past
command_read_by_page p past body pre post place h e q =
    let i : ItemOf p past = received p past h in
    let e₁ : body ≡ pre ++ (item_bytes Commands i.x ++ post) = e ∙ ap (λ (l : List ℕ). pre ++ (l ++ post)) i.bytes in
    let f : Found Commands body place i.x = item_split Commands body pre i.x post place i.fits e₁ q in
    let l : ItemPlace = item_place Commands place i.x in
    record {
      command = command_of_case i.k l.name l.«data»;
      read =
          item_read Commands body pre i.x post place i.fits e₁ q
          ∙ ap₂ (λ (c : CommandCase) (k : ℕ). record { answer = gives (command_of_case c l.name l.«data»); place = place + k })
          i.reads (ap length (sym i.bytes));
      stands = i.stands body l (data_inside Commands body pre i.x post place e₁ q) f.data_bytes;
    }
