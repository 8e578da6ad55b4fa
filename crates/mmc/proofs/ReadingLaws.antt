-- The read at a place of a string, for crates above: what the bytes there make of it, where it goes on, and a whole walk one read
-- at a time. Assumes nothing.
use Rattle.std.specs.Prelude.{Result, None, Ok, Err}
use Prim.Native.Nat.{ℕ, zero, suc, ◌+◌, ◌-◌, ◌≤◌, ◌<◌}
use mathlib.Core.Path.{◌≡◌, refl, sym, ap, ◌∙◌}
use mathlib.Core.Bool.{Bool, true, false, cond, true≢false}
use mathlib.Core.List.{List, [], ◌∷◌, ◌++◌, map}
use native.Mathlib.Nat.{add-zero, le_refl, not-suc-le-zero}
use native.Mathlib.Omega.{arith}
use borrow.Author.Tests.{le-leb}
use lib.ListN.{length, get_or, take, drop, length-append}
use lib.Seq.{drop-cons}
use Rattle.mmc.specs.Names.{NamesRead}
use Rattle.mmc.specs.declared.command.MmcCommand.{MmcCommand}
use Rattle.mmc.specs.declared.command.MmcCommand.TheVariants.{Other}
use Rattle.mmc.specs.declared.length.Kind.{Kind}
use Rattle.mmc.specs.declared.length.Kind.TheVariants.{Commands, Fields}
use Rattle.mmc.specs.declared.length.Length.{Length}
use Rattle.mmc.specs.declared.length.Length.TheVariants.{Fixed, Count}
use Rattle.mmc.specs.declared.part.Part.{Part}
use Rattle.mmc.specs.Command.{command_by_name, read_command, command_of_case, next_command}
use Rattle.mmc.specs.Field.{read_field, field_of_case, next_field}
use Rattle.mmc.specs.Length.{length_of, command_length, within}
use Rattle.mmc.specs.Part.{part, part_of, is_inside}
use Rattle.mmc.specs.Rp013 as R
use Rattle.mmc.specs.Split.{ItemPlace, Next, measured, split_at, next, next_as, parts_as, next_item_of, parts_of}
use Rattle.mmc.specs.Strings.{Walk, before, walk_from, reads_of, item_at, walk, next_of, read_from, item_places, FoundThere}
use Rattle.universal.specs.Refusals.{Refusal, Answer, gives, refused, refusal, refusal_of}
use Rattle.universal.specs.declared.error.SysexError.{SysexError}
use Rattle.universal.proofs.Tests.{and_all}
-- A Locate, a Move and a name by their bytes, as the parts that they stand at.
pub use Rattle.mmc.proofs.Reading.CommandTests.{locate_short, locate_no_register, locate_register, locate_unknown, locate_cut, locate_to_time, move_short, move_no_destination, move_no_source, move_both, long_name, by_byte, unknown_byte, unknown_name}
-- A byte of a range, below it, and from its end on.
pub use Rattle.mmc.proofs.RangeTests.{within_range, below_range, above_range}
use Rattle.mmc.proofs.Reading.ItemsFound
use Rattle.mmc.proofs.Reading.NextPlace
use Rattle.mmc.proofs.Reading.PrefixedNames
use Rattle.mmc.proofs.Reading.SplitTests.{no_zero, fixed_data, no_count, counted_data, too_few, enough, next_end, next_cut, next_item, read_found, read_refused}
use Rattle.mmc.proofs.StringLaws.{found_inside, read_goes_on}
use Rattle.mmc.proofs.Reading.Walks

-- ---- parts, lengths and names

-- A part that lies inside is the bytes from its start.
pub part_inside : (body : List ℕ) (start len : ℕ) → start + len ≤ length body → take len (drop start body) ≡ part_of body (part start len)
unfolding part_of is_inside
part_inside body start len h = rw (le-leb start (length body) (omega arith), le-leb len (length body - start) (omega arith))

-- A command's name from 40H to 77H has a count byte, any other no data.
pub command_length_lem : (n : ℕ) → command_length n ≡ cond (within 64 120 n) Count (Fixed 0)
unfolding command_length
command_length_lem n = refl

-- Each known name of one byte is read as its case.
pub names_read : (d : List ℕ) → NamesRead d
unfolding command_by_name
names_read d =
    record {
      stop = refl;
      play = refl;
      deferred_play = refl;
      fast_forward = refl;
      rewind = refl;
      record_strobe = refl;
      record_exit = refl;
      pause = refl;
      reset = refl;
      write = refl;
      locate = refl;
      move = refl;
    }

-- ---- the next command

-- What is read of the parts that the splitter answers.
abbrev command_in : List ℕ → Next ItemPlace → Next MmcCommand
command_in body x = next_as (parts_as (λ (n d : List ℕ). command_of_case (read_command n d)) body) x

-- The next command is what the parts found there are read as.
pub command_of_parts : (body : List ℕ) (place : ℕ)
    → next_command body place ≡ next_as (parts_as (λ (n d : List ℕ). command_of_case (read_command n d)) body) (next Commands body place)
unfolding next_command
command_of_parts body place = refl

-- The next field, likewise.
pub field_of_parts : (body : List ℕ) (place : ℕ)
    → next_field body place ≡ next_as (parts_as (λ (n d : List ℕ). field_of_case (read_field n d)) body) (next Fields body place)
unfolding next_field
field_of_parts body place = refl

module _ (body : List ℕ) (place at : ℕ) (k : Result ItemPlace SysexError)
    (e : next_item_of (record { answer = k; place = at }) ≡ next Commands body place) where
  -- So it is by what `next_parts` answered.
  pub command_found : (n d : Part) → k ≡ Ok (record { name = n; «data» = d })
      → next_command body place ≡ record { answer = gives (command_of_case (read_command (part_of body n) (part_of body d)) n d); place = at }
  command_found n d q =
      command_of_parts body place
      ∙ sym (read_found (parts_as (λ (n d : List ℕ). command_of_case (read_command n d)) body) (next Commands body place) k at e n d _ q refl)

  pub command_refused : (r : SysexError) → k ≡ Err r
      → next_command body place ≡ record { answer = refused (refusal_of r); place = at }
  command_refused r q =
      command_of_parts body place
      ∙ sym (read_refused (parts_as (λ (n d : List ℕ). command_of_case (read_command n d)) body) (next Commands body place) k at e r q)

  -- A name that begins with 00H is no known command.
  pub command_prefixed : (n d : Part) → place < length body → get_or body place 0 ≡ 0 → k ≡ Ok (record { name = n; «data» = d })
      → next_command body place ≡ record { answer = gives (Other n d); place = at }
  command_prefixed n d l z q =
      command_found n d q
      ∙ ap (λ (c : MmcCommand). record { answer = gives c; place = at })
      (sym (long_name (part_of body d) n d (part_of body n) (PrefixedNames.long Commands body place at l z k e n d q)))

-- 9 at the end and past it.
pub command_end : (body : List ℕ) (place : ℕ) → length body ≤ place
    → next_command body place ≡ record { answer = refused (refusal 9); place = place }
command_end body place h = command_of_parts body place ∙ sym (ap (command_in body) (next_end Commands body place h))

module _ (body : List ℕ) (place : ℕ) (l : place < length body) where
  cut_command : None ≡ split_at Commands body place → next_command body place ≡ record { answer = refused (refusal 2); place = length body }
  cut_command e = command_of_parts body place ∙ sym (ap (command_in body) (next_cut Commands body place l (sym e)))

  item_command : (n d : Part) (after : ℕ) → parts_of n d after ≡ split_at Commands body place
      → next_command body place ≡ record { answer = gives (command_of_case (read_command (part_of body n) (part_of body d)) n d); place = after }
  item_command n d after e = command_of_parts body place ∙ sym (ap (command_in body) (next_item Commands body place n d after l (sym e)))

  -- ---- a name without data

  one_byte : get_or body place 0 ∷ [] ≡ part_of body (part place 1)
  one_byte = sym (ap (take 1) (drop-cons body place 0 l)) ∙ part_inside body place 1 (omega arith)

  -- A name without prefixes and data is read as what the byte says.
  pub command_alone : (n : ℕ) → get_or body place 0 ≡ n → (n ≡ 0 → ⊥) → command_length n ≡ Fixed 0
      → next_command body place
      ≡ record {
        answer = gives (command_of_case (command_by_name n (part_of body (part (place + 1) 0))) (part place 1) (part (place + 1) 0));
        place = place + 1;
      }
  unfolding length_of
  command_alone n e z f =
      let k : length_of Commands (get_or body (place + 0) 0) ≡ Fixed 0 = rw (add-zero place) (ap command_length e ∙ f) in
      item_command (part place 1) (part (place + 1) 0) (place + 1)
      ((rw (add-zero (place + 1)) at (enough body (part place 1) (place + 1) 0 (omega arith) (omega arith)))
      ∙ (rw (add-zero place) at (fixed_data Commands body place 0 (no_zero body place l (λ (q : get_or body place 0 ≡ 0). z (sym e ∙ q)))
      (omega arith) 0 k)))
      ∙ ap (λ (c : MmcCommand). record { answer = gives c; place = place + 1 })
      (sym
      (by_byte (part_of body (part (place + 1) 0)) (part place 1) (part (place + 1) 0) (part_of body (part place 1)) n
      (ap length (sym one_byte)) (ap (λ (x : List ℕ). get_or x 0 0) (sym one_byte) ∙ e)))

  -- ---- a name with a count

  module _ (k : command_length (get_or body place 0) ≡ Count) where
    not_zero : get_or body place 0 ≡ 0 → ⊥
    unfolding command_length
    not_zero z = true≢false (sym (ap counts k) ∙ ap (λ (n : ℕ). counts (command_length n)) z)
      where
        counts : Length → Bool
        counts (Fixed n) = false
        counts Count = true

    kind : length_of Commands (get_or body (place + 0) 0) ≡ Count
    unfolding length_of
    kind = rw (add-zero place) k

    measured_data : place + 1 < length body
        → measured body (part place 1) (place + 1 + 1) (get_or body (place + 1) 0) ≡ split_at Commands body place
    measured_data h =
        rw (add-zero place) at (counted_data Commands body place 0 (no_zero body place l not_zero) (omega arith) kind (omega arith))

    -- 2 where the count byte is missing, or data.
    pub command_no_count : length body ≤ place + 1 → next_command body place ≡ record { answer = refused (refusal 2); place = length body }
    command_no_count h =
        cut_command (no_count Commands body place 0 (no_zero body place l not_zero) (omega arith) kind (omega arith))

    pub command_few_data : place + 1 < length body → length body - (place + 1 + 1) < get_or body (place + 1) 0
        → next_command body place ≡ record { answer = refused (refusal 2); place = length body }
    command_few_data h f =
        cut_command (too_few body (part place 1) (place + 1 + 1) (get_or body (place + 1) 0) (omega arith) f ∙ measured_data h)

    -- Else the name and so many data are read.
    pub command_counted : place + 1 < length body → get_or body (place + 1) 0 ≤ length body - (place + 1 + 1)
        → next_command body place
        ≡ record {
          answer =
              gives
              (command_of_case
              (read_command (part_of body (part place 1)) (part_of body (part (place + 1 + 1) (get_or body (place + 1) 0))))
              (part place 1) (part (place + 1 + 1) (get_or body (place + 1) 0)));
          place = place + 1 + 1 + get_or body (place + 1) 0;
        }
    command_counted h f =
        item_command (part place 1) (part (place + 1 + 1) (get_or body (place + 1) 0)) (place + 1 + 1 + get_or body (place + 1) 0)
        (enough body (part place 1) (place + 1 + 1) (get_or body (place + 1) 0) (omega arith) f ∙ measured_data h)

-- ---- where a read goes on

-- A read that found an item goes on past its place, and inside the string.
pub next_goes_on : (kind : Kind) (body : List ℕ) (place : ℕ) (l : ItemPlace) → (next kind body place).answer ≡ gives l
    → (place < (next kind body place).place) × ((next kind body place).place ≤ length body)
next_goes_on = NextPlace.moves

-- What a read found is an item that fits, which lies there; reading goes on after its bytes.
pub next_found : (kind : Kind) (body : List ℕ) (place : ℕ) (l : ItemPlace) → (next kind body place).answer ≡ gives l
    → FoundThere kind body place l (next kind body place).place
next_found = ItemsFound.there

-- Its name and data are parts inside the string.
pub found_parts : (kind : Kind) (body : List ℕ) (place : ℕ) (l : ItemPlace) → (next kind body place).answer ≡ gives l
    → (is_inside body l.name ≡ true) × (is_inside body l.«data» ≡ true)
unfolding is_inside
found_parts kind body place l e =
    let f = found_inside kind body place l e in
    let name_first : l.name.start ≤ length body = omega (arith, f.name_end) in
    let name_last : l.name.len ≤ length body - l.name.start = omega (arith, f.name_end) in
    let data_first : l.«data».start ≤ length body = omega (arith, f.data_end, f.end) in
    let data_last : l.«data».len ≤ length body - l.«data».start = omega (arith, f.data_end, f.end) in (
      and_all _ _ (le-leb l.name.start (length body) name_first) (le-leb l.name.len (length body - l.name.start) name_last),
      and_all _ _ (le-leb l.«data».start (length body) data_first) (le-leb l.«data».len (length body - l.«data».start) data_last),
    )

-- At the end and past it a read is refused by 9, which changes nothing; before it by nothing but 2.
pub next_at_end : (kind : Kind) (body : List ℕ) (place : ℕ) → length body ≤ place
    → next kind body place ≡ record { answer = refused (refusal 9); place = place }
next_at_end kind body place h = sym (next_end kind body place h)

pub next_cut_short : (kind : Kind) (body : List ℕ) (place : ℕ) → place < length body → (r : Refusal)
    → (next kind body place).answer ≡ refused r → r ≡ refusal 2
next_cut_short = NextPlace.cut_short

-- What comes after a read counts only where it gave something.
before_same : {A : Type 0} (a : Answer A) (v w : Walk A) → ((x : A) → a ≡ gives x → v ≡ w) → before a v ≡ before a w
before_same (gives x) v w h = ap (before (gives x)) (h x refl)
before_same (refused r) v w h = refl

-- Reads that go on past their place: as many as there are bytes left, and one more, are enough.
enough_reads : {A : Type 0} (read : ℕ → Next A) (end : ℕ)
    → ((p : ℕ) (x : A) → (read p).answer ≡ gives x → (p < (read p).place) × ((read p).place ≤ end)) → (m n place : ℕ)
    → end - place < m → end - place < n → walk_from read m place ≡ walk_from read n place
unfolding walk_from
enough_reads read end on zero n place h k = absurd (not-suc-le-zero h)
enough_reads read end on (suc m) zero place h k = absurd (not-suc-le-zero k)
enough_reads read end on (suc m) (suc n) place h k =
    before_same (read place).answer (walk_from read m (read place).place) (walk_from read n (read place).place)
    (λ x e.
    let p = on place x e in
    let past : place < (read place).place = p.0 in
    let inside : (read place).place ≤ end = p.1 in
    enough_reads read end on m n (read place).place (omega arith) (omega arith))

one_step : {A : Type 0} (read : ℕ → Next A) (end : ℕ)
    → ((p : ℕ) (x : A) → (read p).answer ≡ gives x → (p < (read p).place) × ((read p).place ≤ end)) → (place : ℕ)
    → walk_from read (suc end) place ≡ before (read place).answer (walk_from read (suc end) (read place).place)
unfolding walk_from
one_step read end on place =
    before_same (read place).answer (walk_from read end (read place).place) (walk_from read (suc end) (read place).place)
    (λ x e.
    let p = on place x e in
    let past : place < (read place).place = p.0 in
    let inside : (read place).place ≤ end = p.1 in
    enough_reads read end on end (suc end) (read place).place (omega arith) (omega arith))

-- ---- a walk

-- A walk from a place is what the read there gives, before the walk from the place where it goes on, whatever is made of the items.
pub walk_as_step : {A : Type 0} (f : ItemPlace → A) (kind : Kind) (body : List ℕ) (place : ℕ)
    → walk_from (λ (p : ℕ). next_as f (next kind body p)) (reads_of body) place
    ≡ before (next_as f (next kind body place)).answer
    (walk_from (λ (p : ℕ). next_as f (next kind body p)) (reads_of body) (next kind body place).place)
walk_as_step f kind body place =
    one_step (λ (p : ℕ). next_as f (next kind body p)) (length body) (λ p x. NextPlace.read_moves f x kind body p) place

pub walk_step : (kind : Kind) (body : List ℕ) (place : ℕ)
    → walk kind body place ≡ before (next_as (item_at body) (next kind body place)).answer (walk kind body (next kind body place).place)
unfolding walk
walk_step kind body place = walk_as_step (item_at body) kind body place

-- So are the commands or fields that are read from a place on.
pub read_step : (kind : Kind) (body : List ℕ) (place : ℕ)
    → read_from kind body place ≡ before (next_of kind body place).answer (read_from kind body (next_of kind body place).place)
unfolding read_from
read_step kind body place = one_step (next_of kind body) (length body) (read_goes_on kind body) place

-- The items of a walk lie at their places, one after another, whatever is read of them there.
pub walk_places : {A : Type 0} (f : ItemPlace → A) (kind : Kind) (pre s : List ℕ)
    → walk_from (λ (p : ℕ). next_as f (next kind (pre ++ s) p)) (reads_of (pre ++ s)) (length pre)
    ≡ record { items = map f (item_places kind (length pre) (walk kind s 0).items); stop = (walk kind s 0).stop }
walk_places f kind pre s =
    let t = Walks.items_taken kind (length s) s (le_refl (length s)) in
    let room : length s < reads_of (pre ++ s) = omega (arith, length-append pre s) in
    Walks.walk_taken f kind (pre ++ s) pre s t refl (reads_of (pre ++ s)) room
    ∙ ap (λ (w : Walk R.Item). record { items = map f (item_places kind (length pre) w.items); stop = w.stop })
    (sym (Walks.walked kind [] s t))
