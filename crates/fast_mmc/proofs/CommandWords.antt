-- The command of a word and the word of a command are each other's inverse. Assumes nothing.
use Rattle.std.specs.Prelude.{Option, Some, None}
use Prim.Native.Nat.{ℕ, zero, suc, ◌+◌, ◌*◌, ◌/◌, ◌%◌, ◌≤◌, ◌<◌}
use mathlib.Core.Path.{◌≡◌, refl, sym, ap, ap₂, ◌∙◌}
use mathlib.Core.Bool.{Bool, true, false, cond, true≢false}
use mathlib.Core.List.{List, [], ◌∷◌, map}
use native.Mathlib.Omega.{arith}
use borrow.Author.Tests.{eq-eqb, ne_eqb, eqb-true, lt-ltb, le-ltb}
use native.Mathlib.Nat.{le_refl}
use lib.Dec.{eqb, lit≤}
use lib.ListN.{length}
use Rattle.mmc.specs.declared.command.MmcCommand.{MmcCommand}
use Rattle.mmc.specs.declared.command.MmcCommand.TheVariants.{Stop, Play, DeferredPlay, FastForward, Rewind, RecordStrobe, RecordExit, Pause, Reset, Write, LocateField, LocateTarget, Move, Other}
use Rattle.mmc.specs.Item.{command_item}
use Rattle.codes.specs.declared.time_code.StandardTimeCode.{StandardTimeCode}
use Rattle.codes.specs.declared.time_code.FinalByte.TheVariants.{Subframes, Status}
use Rattle.codes.specs.TimeCode.{bit, flag, read_status, read_final, final_value, read_standard}
use Rattle.codes.proofs.Laws.{standard_parts}
use Rattle.mmc.specs.declared.length.Kind.TheVariants.{Commands}
use Rattle.mmc.specs.Strings.{given}
use Rattle.mmc.specs.Write.{Writing, opened_commands, begun, admitted, whole_message}
use Rattle.mmc.specs.Write as W
use Rattle.mmc.specs.Writings.{State, after_items, string_answer, string_left}
use Rattle.mmc.proofs.WritingSteps.{after_none, after_cons, string_answer_lem, string_left_lem}
use Rattle.labels.specs.Time.{bits_of, type_of}
use Rattle.labels.specs.declared.time.TimeCodeType.{TimeCodeType}
use Rattle.labels.specs.declared.time.TimeCodeType.TheVariants.{Fps24, Fps25, Fps30Drop, Fps30}
use Rattle.universal.specs.Emission.{Emission, refusing}
use Rattle.universal.specs.Overlay.{overlay}
use Rattle.fast_mmc.specs.Words.{after_words, closed_out, words_answer, words_left, OneWords, given_all}
use Rattle.fast_mmc.specs.Code.{is_status}
use Rattle.fast_mmc.specs.Word.{with_bytes, four_marks, target_bytes, target_word, command_word, plain_command, byte_at, marked_code, word_code, said_command, if_word, word_command, word_item, OneWord}
use Rattle.fast_mmc.proofs.FlatBack.{final_back}

-- ---- what a number says

module _ (w : ℕ) where
  pub said_plain : w % 256 < 9 → said_command w ≡ Some (plain_command (w % 256))
  unfolding said_command
  said_plain h = rw (lt-ltb (w % 256) 9 h)

  pub said_field : 9 ≤ w % 256 → w % 256 ≡ 10 → said_command w ≡ Some (LocateField (byte_at 256 w))
  unfolding said_command
  said_field h e = rw (le-ltb (w % 256) 9 h, eq-eqb (w % 256) 10 e)

  pub said_target : 9 ≤ w % 256 → w % 256 ≡ 11 → said_command w ≡ Some (LocateTarget (word_code w))
  unfolding said_command
  said_target h e = rw (le-ltb (w % 256) 9 h, ne_eqb (w % 256) 10 (λ (k : w % 256 ≡ 10). omega arith), eq-eqb (w % 256) 11 e)

  pub said_move : 9 ≤ w % 256 → w % 256 ≡ 12 → said_command w ≡ Some (Move (byte_at 256 w) (byte_at 65536 w))
  unfolding said_command
  said_move h e =
      rw (
        le-ltb (w % 256) 9 h,
        ne_eqb (w % 256) 10 (λ (k : w % 256 ≡ 10). omega arith),
        ne_eqb (w % 256) 11 (λ (k : w % 256 ≡ 11). omega arith),
        eq-eqb (w % 256) 12 e,
      )

  pub said_none : 9 ≤ w % 256 → (w % 256 ≡ 10 → ⊥) → (w % 256 ≡ 11 → ⊥) → (w % 256 ≡ 12 → ⊥) → said_command w ≡ None
  unfolding said_command
  said_none h p q r =
      rw (le-ltb (w % 256) 9 h, ne_eqb (w % 256) 10 p, ne_eqb (w % 256) 11 q, ne_eqb (w % 256) 12 r)

  -- ---- the command that it is the word of

  pub is_word : (c : MmcCommand) → said_command w ≡ Some c → command_word c ≡ w → Some c ≡ word_command w
  unfolding word_command
  is_word c s e = sym (ap (if_word w) s ∙ rw (eq-eqb (command_word c) w e))

  pub not_word : (c : MmcCommand) → said_command w ≡ Some c → (command_word c ≡ w → ⊥) → None ≡ word_command w
  unfolding word_command
  not_word c s n = sym (ap (if_word w) s ∙ rw (ne_eqb (command_word c) w n))

  pub no_word : said_command w ≡ None → None ≡ word_command w
  unfolding word_command
  no_word s = sym (ap (if_word w) s)

  -- What goes out of it.
  pub item_of : (c : MmcCommand) → Some c ≡ word_command w → command_item [] c ≡ word_item w
  unfolding word_item
  item_of c e = rw (sym e)

  pub item_none : None ≡ word_command w → refusing 3 ≡ word_item w
  unfolding word_item
  item_none e = rw (sym e)

-- ---- a word of two bytes, or of a time code

module _ (w r : ℕ) (above : 9 ≤ w % 256) where
  pub field_is : w % 256 ≡ 10 → r ≡ with_bytes 10 (byte_at 256 w) 0 → r ≡ w → Some (LocateField (byte_at 256 w)) ≡ word_command w
  unfolding command_word
  field_is e p q = is_word w _ (said_field w above e) (sym p ∙ q)

  pub field_not : w % 256 ≡ 10 → r ≡ with_bytes 10 (byte_at 256 w) 0 → (r ≡ w → ⊥) → None ≡ word_command w
  unfolding command_word
  field_not e p n = not_word w _ (said_field w above e) (λ q. n (p ∙ q))

  pub move_is : w % 256 ≡ 12 → r ≡ with_bytes 12 (byte_at 256 w) (byte_at 65536 w) → r ≡ w
      → Some (Move (byte_at 256 w) (byte_at 65536 w)) ≡ word_command w
  unfolding command_word
  move_is e p q = is_word w _ (said_move w above e) (sym p ∙ q)

  pub move_not : w % 256 ≡ 12 → r ≡ with_bytes 12 (byte_at 256 w) (byte_at 65536 w) → (r ≡ w → ⊥) → None ≡ word_command w
  unfolding command_word
  move_not e p n = not_word w _ (said_move w above e) (λ q. n (p ∙ q))

module _ (w r : ℕ) (c : StandardTimeCode) (above : 9 ≤ w % 256) where
  pub target_is : w % 256 ≡ 11 → c ≡ word_code w → r ≡ target_word c → r ≡ w → Some (LocateTarget c) ≡ word_command w
  unfolding command_word
  target_is e k p q =
      is_word w (LocateTarget c) (said_target w above e ∙ ap (λ (d : StandardTimeCode). Some (LocateTarget d)) (sym k)) (sym p ∙ q)

  pub target_not : w % 256 ≡ 11 → c ≡ word_code w → r ≡ target_word c → (r ≡ w → ⊥) → None ≡ word_command w
  unfolding command_word
  target_not e k p n =
      not_word w (LocateTarget c) (said_target w above e ∙ ap (λ (d : StandardTimeCode). Some (LocateTarget d)) (sym k)) (λ q. n (p ∙ q))

-- ---- names alone

-- The word of a name alone is its case.
pub plain_word : (n : ℕ) → n < 9 → command_word (plain_command n) ≡ n
unfolding command_word plain_command
plain_word zero h = refl
plain_word (suc zero) h = refl
plain_word (suc (suc zero)) h = refl
plain_word (suc (suc (suc zero))) h = refl
plain_word (suc (suc (suc (suc zero)))) h = refl
plain_word (suc (suc (suc (suc (suc zero))))) h = refl
plain_word (suc (suc (suc (suc (suc (suc zero)))))) h = refl
plain_word (suc (suc (suc (suc (suc (suc (suc zero))))))) h = refl
plain_word (suc (suc (suc (suc (suc (suc (suc (suc zero)))))))) h = refl
plain_word (suc (suc (suc (suc (suc (suc (suc (suc (suc n))))))))) h = absurd (omega arith)

-- It is so of a number below 9, and of no other with such a case.
pub plain_is : (w : ℕ) → w < 9 → Some (plain_command w) ≡ word_command w
plain_is w h =
    let e : w % 256 ≡ w = omega arith in
    let l : w % 256 < 9 = omega (arith, e) in
    let s : said_command w ≡ Some (plain_command w) = said_plain w l ∙ ap (λ (n : ℕ). Some (plain_command n)) e in
    is_word w (plain_command w) s (plain_word w h)

pub plain_not : (w : ℕ) → w % 256 < 9 → 9 ≤ w → None ≡ word_command w
plain_not w l h =
    not_word w (plain_command (w % 256)) (said_plain w l) (λ e. omega (arith, sym (plain_word (w % 256) l) ∙ e))

-- ---- the marks of a time code

word_rate_back : (r : TimeCodeType) (x : ℕ) → type_of ((bits_of r + x * 8) % 256) ≡ r
word_rate_back Fps24 x = let e : (0 + x * 8) % 256 % 4 ≡ 0 = omega arith in rw e
word_rate_back Fps25 x = let e : (1 + x * 8) % 256 % 4 ≡ 1 = omega arith in rw e
word_rate_back Fps30Drop x = let e : (2 + x * 8) % 256 % 4 ≡ 2 = omega arith in rw e
word_rate_back Fps30 x = let e : (3 + x * 8) % 256 % 4 ≡ 3 = omega arith in rw e

pub rate_low : (r : TimeCodeType) → bits_of r < 4
rate_low Fps24 = omega arith
rate_low Fps25 = omega arith
rate_low Fps30Drop = omega arith
rate_low Fps30 = omega arith

abbrev four_flags : Bool → Bool → Bool → Bool → ℕ
four_flags k b g s = flag 1 b + flag 64 k + flag 128 s + flag 256 g

pub record FourBack (x : ℕ) (k b g s : Bool) : Type 0 where
  pub color : bit 64 x ≡ k
  pub blank : eqb (x % 2) 1 ≡ b
  pub sign : bit 256 x ≡ g
  pub status : bit 128 x ≡ s

four_back : (k b g s : Bool) → FourBack (four_flags k b g s) k b g s
four_back true true true true = record { color = refl; blank = refl; sign = refl; status = refl }
four_back true true true false = record { color = refl; blank = refl; sign = refl; status = refl }
four_back true true false true = record { color = refl; blank = refl; sign = refl; status = refl }
four_back true true false false = record { color = refl; blank = refl; sign = refl; status = refl }
four_back true false true true = record { color = refl; blank = refl; sign = refl; status = refl }
four_back true false true false = record { color = refl; blank = refl; sign = refl; status = refl }
four_back true false false true = record { color = refl; blank = refl; sign = refl; status = refl }
four_back true false false false = record { color = refl; blank = refl; sign = refl; status = refl }
four_back false true true true = record { color = refl; blank = refl; sign = refl; status = refl }
four_back false true true false = record { color = refl; blank = refl; sign = refl; status = refl }
four_back false true false true = record { color = refl; blank = refl; sign = refl; status = refl }
four_back false true false false = record { color = refl; blank = refl; sign = refl; status = refl }
four_back false false true true = record { color = refl; blank = refl; sign = refl; status = refl }
four_back false false true false = record { color = refl; blank = refl; sign = refl; status = refl }
four_back false false false true = record { color = refl; blank = refl; sign = refl; status = refl }
four_back false false false false = record { color = refl; blank = refl; sign = refl; status = refl }

four_marks_back : (c : StandardTimeCode)
    → FourBack (four_marks c) c.color_frame c.blank c.negative (is_status c.final_byte)
unfolding four_marks
four_marks_back c = four_back c.color_frame c.blank c.negative (is_status c.final_byte)

-- A time code by its rate, counts, last byte and marks is itself.
marked_back : (c : StandardTimeCode)
    → marked_code ((bits_of c.time.rate + four_marks c * 8) % 256) c.time.hours c.time.minutes c.time.seconds c.time.frames
    (final_value c.final_byte) (four_marks c)
    ≡ c
unfolding marked_code
marked_back c =
    let m = four_marks_back c in
    rw (word_rate_back c.time.rate (four_marks c), m.color, m.blank, m.sign, m.status, final_back c.final_byte)

-- ---- the bytes of a Locate's word

-- Its case and its six bytes are told from it.
pub record WordTold (w h m s f l k : ℕ) : Type 0 where
  pub case : w % 256 ≡ 11
  pub hours : byte_at 256 w ≡ h
  pub minutes : byte_at 65536 w ≡ m
  pub seconds : byte_at 16777216 w ≡ s
  pub frames : byte_at 4294967296 w ≡ f
  pub last : byte_at 1099511627776 w ≡ l
  pub rate : byte_at 281474976710656 w ≡ k % 256
  pub marks : w / 2251799813685248 ≡ k / 8

word_told : (h m s f l k : ℕ) → h < 256 → m < 256 → s < 256 → f < 256 → l < 256 → WordTold (target_bytes h m s f l k) h m s f l k
word_told h m s f l k hh hm hs hf hl =
    record {
      case = omega arith;
      hours = omega arith;
      minutes = omega arith;
      seconds = omega arith;
      frames = omega arith;
      last = omega arith;
      rate = omega arith;
      marks = omega arith;
    }

target_told : (c : StandardTimeCode) → OneWord (LocateTarget c)
    → WordTold (target_word c) c.time.hours c.time.minutes c.time.seconds c.time.frames (final_value c.final_byte)
    (bits_of c.time.rate + four_marks c * 8)
unfolding target_word
target_told c (h, (m, (s, (f, l)))) =
    word_told _ _ _ _ _ _ h m s f l

target_code : (c : StandardTimeCode) → OneWord (LocateTarget c) → word_code (target_word c) ≡ c
target_code c o =
    let t = target_told c o in
    let q : (bits_of c.time.rate + four_marks c * 8) / 8 ≡ four_marks c = omega (arith, rate_low c.time.rate) in
    rw (t.hours, t.minutes, t.seconds, t.frames, t.last, t.rate, t.marks, q) (marked_back c)

-- ---- the laws

abbrev is_some : Option MmcCommand → Bool
is_some None = false
is_some (Some c) = true

abbrev the_command : MmcCommand → Option MmcCommand → MmcCommand
the_command d None = d
the_command d (Some c) = c

if_word_lem : (w : ℕ) (o : Option MmcCommand) (c : MmcCommand) → if_word w o ≡ Some c → command_word c ≡ w
if_word_lem w None c e = absurd (true≢false (sym (ap is_some e)))
if_word_lem w (Some d) c e = go (eqb (command_word d) w) refl e
  where
    go : (b : Bool) → eqb (command_word d) w ≡ b → cond b (Some d) None ≡ Some c → command_word c ≡ w
    go true q e = sym (ap (λ (o : Option MmcCommand). command_word (the_command d o)) e) ∙ eqb-true (command_word d) w q
    go false q e = absurd (true≢false (sym (ap is_some e)))

-- A number that is written as a command is the command's word: read back, it is the same number.
pub word_back : (w : ℕ) (c : MmcCommand) → word_command w ≡ Some c → command_word c ≡ w
unfolding word_command
word_back w c e = if_word_lem w (said_command w) c e

plain_back : (n : ℕ) (c : MmcCommand) → n < 9 → plain_command n ≡ c → word_command n ≡ Some c
plain_back n c h e = sym (plain_is n h) ∙ ap Some e

-- A case and two bytes above it are told from them.
told_two : (k a b : ℕ) → k < 256 → a < 256 → b < 256
    → (with_bytes k a b % 256 ≡ k) × ((byte_at 256 (with_bytes k a b) ≡ a) × (byte_at 65536 (with_bytes k a b) ≡ b))
told_two k a b hk ha hb = (omega arith, (omega arith, omega arith))

word_register_back : (r : ℕ) → r < 256 → word_command (with_bytes 10 r 0) ≡ Some (LocateField r)
unfolding command_word
word_register_back r h =
    let t = told_two 10 r 0 (lit≤ tt) h (lit≤ tt) in
    sym (is_word (with_bytes 10 r 0) (LocateField r) (said_field (with_bytes 10 r 0) (omega (arith, t.0)) t.0 ∙ ap (λ (n : ℕ). Some (LocateField n)) t.1.0) refl)

target_back : (c : StandardTimeCode) → OneWord (LocateTarget c) → word_command (target_word c) ≡ Some (LocateTarget c)
unfolding command_word
target_back c o =
    let e : target_word c % 256 ≡ 11 = (target_told c o).case in
    sym (is_word (target_word c) (LocateTarget c) (said_target (target_word c) (omega (arith, e)) e ∙ ap (λ (d : StandardTimeCode). Some (LocateTarget d)) (target_code c o)) refl)

word_move_back : (a b : ℕ) → a < 256 → b < 256 → word_command (with_bytes 12 a b) ≡ Some (Move a b)
unfolding command_word
word_move_back a b h k =
    let t = told_two 12 a b (lit≤ tt) h k in
    sym (is_word (with_bytes 12 a b) (Move a b) (said_move (with_bytes 12 a b) (omega (arith, t.0)) t.0 ∙ ap₂ (λ (m n : ℕ). Some (Move m n)) t.1.0 t.1.1) refl)

-- The word of a name alone, of a Locate or of a Move with values of a byte is written as that command.
pub command_word_back : (c : MmcCommand) → OneWord c → word_command (command_word c) ≡ Some c
unfolding command_word plain_command
command_word_back Stop o = plain_back 0 Stop (lit≤ tt) refl
command_word_back Play o = plain_back 1 Play (lit≤ tt) refl
command_word_back DeferredPlay o = plain_back 2 DeferredPlay (lit≤ tt) refl
command_word_back FastForward o = plain_back 3 FastForward (lit≤ tt) refl
command_word_back Rewind o = plain_back 4 Rewind (lit≤ tt) refl
command_word_back RecordStrobe o = plain_back 5 RecordStrobe (lit≤ tt) refl
command_word_back RecordExit o = plain_back 6 RecordExit (lit≤ tt) refl
command_word_back Pause o = plain_back 7 Pause (lit≤ tt) refl
command_word_back Reset o = plain_back 8 Reset (lit≤ tt) refl
command_word_back (Write d) o = absurd o
command_word_back (LocateField r) o = word_register_back r o
command_word_back (LocateTarget c) o = target_back c o
command_word_back (Move a b) o = word_move_back a b o.0 o.1
command_word_back (Other n d) o = absurd o

status_low : (e v d n : Bool) → flag 64 e + flag 32 v + flag 16 d + flag 8 n < 256
status_low e v d n = omega (arith, low 64 e, low 32 v, low 16 d, low 8 n)
  where
    low : (weight : ℕ) (b : Bool) → flag weight b ≤ weight
    low weight true = le_refl weight
    low weight false = omega arith

final_value_byte : (fr ff : ℕ) → final_value (read_final fr ff) < 256
final_value_byte fr ff = go (bit 32 fr)
  where
    go : (b : Bool) → final_value (cond b (Status (read_status ff)) (Subframes (ff % 128))) < 256
    go true = status_low (bit 64 ff) (bit 32 ff) (bit 16 ff) (bit 8 ff)
    go false = omega arith

-- So is that of a Locate to a time that was read, whatever its five bytes.
pub read_target_back : (hr mn sc fr ff : ℕ)
    → word_command (command_word (LocateTarget (read_standard hr mn sc fr ff))) ≡ Some (LocateTarget (read_standard hr mn sc fr ff))
read_target_back hr mn sc fr ff =
    command_word_back (LocateTarget (read_standard hr mn sc fr ff))
    (rw (standard_parts hr mn sc fr ff) (omega arith, (omega arith, (omega arith, (omega arith, final_value_byte fr ff)))))

-- ---- a message of the words of commands

after_commands : (w : Writing) (out : List ℕ) (cs : List MmcCommand) → OneWords cs
    → after_words w out (map command_word cs) ≡ after_items Commands (record { writing = w; out = out }) (given_all cs)
unfolding after_words
after_commands w out [] o = sym (after_none Commands (record { writing = w; out = out }))
after_commands w out (c ∷ cs) o =
    let e : word_item (command_word c) ≡ command_item [] c = sym (item_of (command_word c) c (sym (command_word_back c o.0))) in
    ap (λ (x : Emission). after_words (W.writing_after w x) (overlay out w.at (admitted w x).bytes) (map command_word cs)) e
    ∙ after_commands (W.writing_after w (command_item [] c)) (overlay out w.at (admitted w (command_item [] c)).bytes) cs o.1
    ∙ sym (after_cons Commands (record { writing = w; out = out }) (given Commands [] c) (given_all cs))

-- A message of the words of commands is the writing of these commands.
pub words_as_commands : (device : ℕ) (cs : List MmcCommand) (out : List ℕ) → OneWords cs
    → (words_answer device (map command_word cs) out ≡ string_answer Commands device (given_all cs) out)
    × (words_left device (map command_word cs) out ≡ string_left Commands device (given_all cs) out)
unfolding words_answer words_left
words_as_commands device cs out o =
    let s = after_commands (begun (opened_commands device)) (overlay out 0 (opened_commands device).bytes) cs o in (
      ap (λ (x : State). whole_message x.writing (length out)) s ∙ sym (string_answer_lem Commands device (given_all cs) out),
      ap closed_out s ∙ sym (string_left_lem Commands device (given_all cs) out),
    )
