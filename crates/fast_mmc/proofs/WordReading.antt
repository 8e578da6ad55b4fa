-- Reading a word: the bytes of a time code, a name alone, and the next command of a string. Assumes nothing.
use Rattle.std.specs.Prelude.{Result, Ok, Err, Some, None}
use Prim.Native.Nat.{ℕ, zero, suc, ◌+◌, ◌-◌, ◌*◌, ◌/◌, ◌%◌, ◌≤◌, ◌<◌}
use mathlib.Core.Path.{◌≡◌, refl, sym, ap, subst, ◌∙◌}
use mathlib.Core.Bool.{Bool, true, false, cond, true≢false}
use mathlib.Core.Logic.{⊎_elim}
use mathlib.Core.List.{List, [], ◌∷◌}
use native.Mathlib.Omega.{arith}
use borrow.Author.Tests.{leb-true, ltb-true, eqb-true, eqb-false}
use lib.Dec.{eqb, leb, ltb, lit<}
use Rattle.universal.proofs.Tests.{and_parts}
use lib.ListN.{length, get_or, take}
use lib.Seq.{drop-cons}
use Rattle.mmc.specs.declared.command.MmcCommand.TheVariants.{Other}
use Rattle.mmc.specs.declared.length.Kind.TheVariants.{Commands}
use Rattle.mmc.specs.declared.length.Length.TheVariants.{Fixed, Count}
use Rattle.mmc.specs.declared.part.Part.{Part}
use Rattle.mmc.specs.Command as K
use Rattle.mmc.specs.Command.{CommandCase, command_by_name, read_command, read_locate, command_of_case, next_command}
use Rattle.mmc.specs.Length.{command_length, within}
use Rattle.mmc.specs.Part.{part, part_of}
use Rattle.mmc.specs.Split.{next, next_item_of}
use Rattle.mmc.specs.declared.split.ItemPlace.{ItemPlace}
use Rattle.codes.specs.declared.time_code.FinalByte.TheVariants.{Subframes, Status}
use Rattle.codes.specs.TimeCode.{bit, flag, read_status, read_final, final_value, read_standard}
use Rattle.labels.specs.Time.{bits_of, rate_at, type_of}
use Rattle.fast_mmc.specs.Code.{is_status}
use Rattle.fast_mmc.specs.Word.{four_marks, target_bytes, target_word, command_word, answer_word, next_word}
use Rattle.fast_mmc.specs.Clauses.{AloneWord, ShortWord, longer, alone_word}
use Rattle.universal.specs.Refusals.{refusal_of}
use Rattle.universal.specs.declared.error.SysexError.{SysexError}
use Rattle.codes.proofs.Laws.{standard_parts}
use Rattle.mmc.proofs.ReadingLaws.{command_length_lem, names_read, locate_cut, locate_unknown, unknown_byte, below_range, by_byte, part_inside, command_refused, command_prefixed, command_end, command_alone, command_no_count, command_few_data, command_counted}

-- ---- the bytes of a time code

bits_back : (n : ℕ) → n < 4 → bits_of (rate_at n) ≡ n
bits_back zero h = refl
bits_back (suc zero) h = refl
bits_back (suc (suc zero)) h = refl
bits_back (suc (suc (suc zero))) h = refl
bits_back (suc (suc (suc (suc n)))) h = absurd (omega arith)

-- A bit of a byte by its weight in another.
flag_of_bit : (weight n : ℕ) → n < 2 → flag weight (eqb n 1) ≡ n * weight
flag_of_bit weight zero h = omega arith
flag_of_bit weight (suc zero) h = omega arith
flag_of_bit weight (suc (suc n)) h = absurd (omega arith)

status_told : (fr ff : ℕ) → is_status (read_final fr ff) ≡ bit 32 fr
unfolding is_status
status_told fr ff = go (bit 32 fr)
  where
    go : (b : Bool) → is_status (cond b (Status (read_status ff)) (Subframes (ff % 128))) ≡ b
    go true = refl
    go false = refl

-- What stands at the places of four bytes that are one number.
record Beside (hr mn sc fr four : ℕ) : Type 0 where
  hours : four % 32 ≡ hr % 32
  minutes : four / 256 % 64 ≡ mn % 64
  seconds : four / 65536 % 64 ≡ sc % 64
  frames : four / 16777216 % 32 ≡ fr % 32
  rate : four / 32 % 4 ≡ hr / 32 % 4
  color : four / 32 / 512 % 2 ≡ mn / 64 % 2
  blank : four / 524288 / 8 % 2 ≡ sc / 64 % 2
  upper : four / 524288 / 1024 % 4 ≡ fr / 32 % 4

beside : (hr mn sc fr : ℕ) → hr < 256 → mn < 256 → sc < 256 → fr < 256 → Beside hr mn sc fr (hr + mn * 256 + sc * 65536 + fr * 16777216)
beside hr mn sc fr a b c d =
    record {
      hours = omega arith;
      minutes = omega arith;
      seconds = omega arith;
      frames = omega arith;
      rate = omega arith;
      color = omega arith;
      blank = omega arith;
      upper = omega arith;
    }

-- Each count without the bits beside it, and these in the marks.
pub target_read : (hr mn sc fr ff four : ℕ) → hr < 256 → mn < 256 → sc < 256 → fr < 256
    → four ≡ hr + mn * 256 + sc * 65536 + fr * 16777216
    → 11
    + (four % 32 + four / 256 % 64 * 256 + four / 65536 % 64 * 65536 + four / 16777216 % 32 * 16777216) * 256
    + final_value (read_final fr ff) * 1099511627776
    + (four / 32 % 4 + four / 32 / 512 % 2 * 512 + four / 524288 / 8 % 2 * 8 + four / 524288 / 1024 % 4 * 1024) * 281474976710656
    ≡ target_word (read_standard hr mn sc fr ff)
unfolding target_word four_marks
target_read hr mn sc fr ff four hh hm hs hf e =
    let k : Beside hr mn sc fr four = subst (Beside hr mn sc fr) (sym e) (beside hr mn sc fr hh hm hs hf) in
    let r : bits_of (type_of (hr / 32)) ≡ hr / 32 % 4 = bits_back (hr / 32 % 4) (omega arith) in
    let c : flag 64 (bit 64 mn) ≡ mn / 64 % 2 * 64 = flag_of_bit 64 (mn / 64 % 2) (omega arith) in
    let b : flag 1 (bit 64 sc) ≡ sc / 64 % 2 * 1 = flag_of_bit 1 (sc / 64 % 2) (omega arith) in
    let g : flag 256 (bit 64 fr) ≡ fr / 64 % 2 * 256 = flag_of_bit 256 (fr / 64 % 2) (omega arith) in
    let i : flag 128 (is_status (read_final fr ff)) ≡ fr / 32 % 2 * 128 =
    ap (flag 128) (status_told fr ff) ∙ flag_of_bit 128 (fr / 32 % 2) (omega arith) in
    rw (standard_parts hr mn sc fr ff, r, c, b, g, i, k.hours, k.minutes, k.seconds, k.frames, k.rate, k.color, k.blank, k.upper)
    (sum (hr % 32) (mn % 64) (sc % 64) (fr % 32) (final_value (read_final fr ff)) (hr / 32 % 4) (mn / 64 % 2) (sc / 64 % 2) (fr / 32 % 4) (fr / 32 % 2)
    (fr / 64 % 2) (two fr))
  where
    two : (fr : ℕ) → fr / 32 % 4 ≡ fr / 32 % 2 + fr / 64 % 2 * 2
    two fr = omega arith

    sum : (h m s f l r c b u i g : ℕ) → u ≡ i + g * 2
        → 11 + (h + m * 256 + s * 65536 + f * 16777216) * 256 + l * 1099511627776 + (r + c * 512 + b * 8 + u * 1024) * 281474976710656
        ≡ target_bytes h m s f l (r + (b * 1 + c * 64 + i * 128 + g * 256) * 8)
    sum h m s f l r c b u i g e = omega (arith, e)

-- ---- a name alone

name_known : (name r : ℕ) (m : CommandCase) → ((d : List ℕ) → command_by_name name d ≡ m) → ((n a : Part) → r ≡ command_word (command_of_case m n a)) → AloneWord name r
name_known name r m e h d n a l z = h n a ∙ sym (ap (λ (c : CommandCase). command_word (command_of_case c n a)) (e d))

-- The first seven names are one more than the case.
pub alone_low : (r : ℕ) → r < 7 → AloneWord (r + 1) r
unfolding command_word
alone_low zero h = name_known 1 0 K.stop (λ d. (names_read d).stop) (λ n a. refl)
alone_low (suc zero) h = name_known 2 1 K.play (λ d. (names_read d).play) (λ n a. refl)
alone_low (suc (suc zero)) h = name_known 3 2 K.deferred_play (λ d. (names_read d).deferred_play) (λ n a. refl)
alone_low (suc (suc (suc zero))) h = name_known 4 3 K.fast_forward (λ d. (names_read d).fast_forward) (λ n a. refl)
alone_low (suc (suc (suc (suc zero)))) h = name_known 5 4 K.rewind (λ d. (names_read d).rewind) (λ n a. refl)
alone_low (suc (suc (suc (suc (suc zero))))) h = name_known 6 5 K.record_strobe (λ d. (names_read d).record_strobe) (λ n a. refl)
alone_low (suc (suc (suc (suc (suc (suc zero)))))) h = name_known 7 6 K.record_exit (λ d. (names_read d).record_exit) (λ n a. refl)
alone_low (suc (suc (suc (suc (suc (suc (suc n))))))) h = absurd (omega arith)

pub alone_first : (name r : ℕ) → r + 1 ≡ name → name < 8 → AloneWord name r
alone_first name r e h = subst (λ (n : ℕ). AloneWord n r) e (alone_low r (omega arith))

pub alone_pause : (name : ℕ) → name ≡ 9 → AloneWord name 7
unfolding command_word
alone_pause name e = subst (λ (n : ℕ). AloneWord n 7) (sym e) (name_known 9 7 K.pause (λ d. (names_read d).pause) (λ n a. refl))

pub alone_reset : (name : ℕ) → name ≡ 13 → AloneWord name 8
unfolding command_word
alone_reset name e = subst (λ (n : ℕ). AloneWord n 8) (sym e) (name_known 13 8 K.reset (λ d. (names_read d).reset) (λ n a. refl))

outside : (name k : ℕ) → within 64 120 name ≡ false → within 64 120 k ≡ true → name ≡ k → ⊥
outside name k f t e = true≢false (sym t ∙ sym (ap (within 64 120) e) ∙ f)

-- Any other is told by its length, 1, and that of its data, 0.
alone_other : (name : ℕ) → (name ≡ 1 → ⊥) → (name ≡ 2 → ⊥) → (name ≡ 3 → ⊥) → (name ≡ 4 → ⊥) → (name ≡ 5 → ⊥) → (name ≡ 6 → ⊥)
    → (name ≡ 7 → ⊥) → (name ≡ 9 → ⊥) → (name ≡ 13 → ⊥) → within 64 120 name ≡ false → AloneWord name 269
unfolding command_word
alone_other name a₁ a₂ a₃ a₄ a₅ a₆ a₇ p r f d n a l z =
    let other : command_by_name name d ≡ K.other =
    unknown_byte d n a name
    (((((((((((((tt, a₁), a₂), a₃), a₄), a₅), a₆), a₇), p), r), outside name 64 f refl), outside name 68 f refl), outside name 76 f refl)) in
    rw (other, l, z)

-- A name with its word, as the contract says it.
pub short_known : (r name : ℕ) → name ≡ r + 1 → r < 7 → ShortWord name (Some r)
short_known r name e h =
    alone_word {word = r} (λ (z : name ≡ 0). omega (arith, e, z)) (below_range 64 120 name (omega (arith, e, h)))
    (alone_first name r (sym e) (omega (arith, e, h)))

pub short_pause : (name : ℕ) → name ≡ 9 → ShortWord name (Some 7)
short_pause name e =
    alone_word {word = 7} (λ (z : name ≡ 0). omega (arith, e, z)) (below_range 64 120 name (omega (arith, e))) (alone_pause name e)

pub short_reset : (name : ℕ) → name ≡ 13 → ShortWord name (Some 8)
short_reset name e =
    alone_word {word = 8} (λ (z : name ≡ 0). omega (arith, e, z)) (below_range 64 120 name (omega (arith, e))) (alone_reset name e)

pub short_other : (name : ℕ) → (name ≡ 0 → ⊥) → (name ≡ 1 → ⊥) → (name ≡ 2 → ⊥) → (name ≡ 3 → ⊥) → (name ≡ 4 → ⊥) → (name ≡ 5 → ⊥)
    → (name ≡ 6 → ⊥) → (name ≡ 7 → ⊥) → (name ≡ 9 → ⊥) → (name ≡ 13 → ⊥) → within 64 120 name ≡ false → ShortWord name (Some 269)
short_other name z a b c d e g h p r f =
    alone_word {word = 269} z f
    (alone_other name a b c d e g h p r f)

-- Where there is one it is the whole word, and any other name but 00H has a count.
pub short_alone : (name r : ℕ) → ShortWord name (Some r) → (name ≡ 0 → ⊥) × ((within 64 120 name ≡ false) × AloneWord name r)
short_alone name r (alone_word z f a) = (z, (f, a))

pub short_counted : (name : ℕ) → ShortWord name None → (name ≡ 0 → ⊥) → within 64 120 name ≡ true
short_counted name (longer h) z = ⊎_elim (λ e. absurd (z e)) (λ t. t) h

pub counted_bounds : (name : ℕ) → within 64 120 name ≡ true → (64 ≤ name) × (name < 120)
counted_bounds name h = let p = and_parts (leb 64 name) (ltb name 120) h in (leb-true _ _ p.0, ltb-true _ _ p.1)

-- ---- a name with a count

-- A name's word is that of the case that its byte is read as.
pub byte_word : (d : List ℕ) (n a : Part) (x k : ℕ) (m : CommandCase) → x ≡ k → command_by_name k d ≡ m
    → command_word (command_of_case m n a) ≡ command_word (command_of_case (command_by_name x d) n a)
byte_word d n a x k m e r =
    ap (λ (c : CommandCase). command_word (command_of_case c n a)) (sym r ∙ ap (λ (y : ℕ). command_by_name y d) (sym e))

-- A name that has a count, and is none of the known ones, is another command.
pub counted_other : (d : List ℕ) (n a : Part) (x : ℕ) → 64 ≤ x → (x ≡ 64 → ⊥) → (x ≡ 68 → ⊥) → (x ≡ 76 → ⊥)
    → command_word (Other n a) ≡ command_word (command_of_case (command_by_name x d) n a)
counted_other d n a x h p q r =
    let apart : (k : ℕ) → k < 64 → x ≡ k → ⊥ = λ k l e. omega (arith, h, l, e) in
    let other : command_by_name x d ≡ K.other =
    unknown_byte d n a x
    (((((((((((((tt, apart 1 (lit< tt)), apart 2 (lit< tt)), apart 3 (lit< tt)), apart 4 (lit< tt)), apart 5 (lit< tt)), apart 6 (lit< tt)), apart 7 (lit< tt)), apart 9 (lit< tt)), apart 13 (lit< tt)), p), q), r)) in
    sym (ap (λ (c : CommandCase). command_word (command_of_case c n a)) other)

-- Data of a Locate that is too short for a time, and does not begin with the sub-command of a register, is another command.
pub locate_few : (d : List ℕ) (n a : Part) → 2 ≤ length d → length d < 6 → (get_or d 0 0 ≡ 0 → ⊥)
    → Other n a ≡ command_of_case (read_locate d) n a
locate_few d n a few short none = go (eqb (get_or d 0 0) 1) refl
  where
    go : (b : Bool) → eqb (get_or d 0 0) 1 ≡ b → Other n a ≡ command_of_case (read_locate d) n a
    go true e = locate_cut d n a few (eqb-true _ _ e) short
    go false e = locate_unknown d n a few none (eqb-false _ _ e)

-- ---- the next command of a string

module _ (body : List ℕ) (place : ℕ) (l : place < length body) where
  -- It is read as what the byte says, and has no data.
  pub alone_next : (w : ℕ) → (get_or body place 0 ≡ 0 → ⊥) → within 64 120 (get_or body place 0) ≡ false → AloneWord (get_or body place 0) w
      → record { word = w; place = place + 1 } ≡ next_word (next_command body place)
  unfolding next_word answer_word
  alone_next w z f h =
      ap (λ (v : ℕ). record { word = v; place = place + 1 }) (h (part_of body (part (place + 1) 0)) (part place 1) (part (place + 1) 0) refl refl)
      ∙ sym (ap next_word (command_alone body place l (get_or body place 0) refl z (command_length_lem _ ∙ ap (λ (b : Bool). cond b Count (Fixed 0)) f)))

-- From 40H to 77H a name has a count.
pub counted_name : (b : ℕ) → within 64 120 b ≡ true → command_length b ≡ Count
counted_name b h = command_length_lem b ∙ ap (λ (x : Bool). cond x Count (Fixed 0)) h

-- ---- an item that the splitter found, or its refusal

module _ (body : List ℕ) (place at : ℕ) (k : Result ItemPlace SysexError)
    (e : next_item_of (record { answer = k; place = at }) ≡ next Commands body place) where
  pub prefixed_word : place < length body → get_or body place 0 ≡ 0 → (l : ItemPlace) (w : ℕ) → k ≡ Ok l → w ≡ command_word (Other l.name l.«data»)
      → record { word = w; place = at } ≡ next_word (next_command body place)
  unfolding next_word answer_word
  prefixed_word h z l w q p =
      ap (λ (v : ℕ). record { word = v; place = at }) p ∙ sym (ap next_word (command_prefixed body place at k e l.name l.«data» h z q))

  pub word_refused : (r : SysexError) (w : ℕ) → k ≡ Err r → w ≡ 128 + (refusal_of r).number
      → record { word = w; place = at } ≡ next_word (next_command body place)
  unfolding next_word answer_word
  word_refused r w q p =
      ap (λ (v : ℕ). record { word = v; place = at }) p ∙ sym (ap next_word (command_refused body place at k e r q))

-- ---- the end, and a name with a count

pub end_word : (body : List ℕ) (place : ℕ) → length body ≤ place → record { word = 137; place = place } ≡ next_word (next_command body place)
unfolding next_word answer_word
end_word body place h = sym (ap next_word (command_end body place h))

module _ (body : List ℕ) (place : ℕ) (l : place < length body) (k : command_length (get_or body place 0) ≡ Count) where
  pub no_count_word : length body ≤ place + 1 → record { word = 130; place = length body } ≡ next_word (next_command body place)
  unfolding next_word answer_word
  no_count_word h = sym (ap next_word (command_no_count body place l k h))

  pub few_data_word : place + 1 < length body → length body - (place + 1 + 1) < get_or body (place + 1) 0
      → record { word = 130; place = length body } ≡ next_word (next_command body place)
  unfolding next_word answer_word
  few_data_word h f = sym (ap next_word (command_few_data body place l k h f))

  -- A name with a count is its one byte.
  pub counted_word : (y : List ℕ) (w : ℕ) → place + 1 < length body → get_or body (place + 1) 0 ≤ length body - (place + 1 + 1)
      → w ≡ command_word (command_of_case (command_by_name (get_or body place 0) y) (part place 1) (part (place + 1 + 1) (get_or body (place + 1) 0)))
      → y ≡ part_of body (part (place + 1 + 1) (get_or body (place + 1) 0))
      → record { word = w; place = place + 1 + 1 + get_or body (place + 1) 0 } ≡ next_word (next_command body place)
  unfolding next_word answer_word
  counted_word y w h f p t =
      let name : get_or body place 0 ∷ [] ≡ part_of body (part place 1) =
      sym (ap (take 1) (drop-cons body place 0 l)) ∙ part_inside body place 1 (omega arith) in
      let read : command_of_case (command_by_name (get_or body place 0) y) (part place 1) (part (place + 1 + 1) (get_or body (place + 1) 0))
      ≡ command_of_case (read_command (part_of body (part place 1)) y) (part place 1) (part (place + 1 + 1) (get_or body (place + 1) 0)) =
      by_byte y _ _ (part_of body (part place 1)) (get_or body place 0) (ap length (sym name)) (ap (λ (x : List ℕ). get_or x 0 0) (sym name)) in
      ap (λ (v : ℕ). record { word = v; place = place + 1 + 1 + get_or body (place + 1) 0 })
      (p
      ∙ ap command_word read
      ∙ ap
      (λ (b : List ℕ). command_word (command_of_case (read_command (part_of body (part place 1)) b) (part place 1) (part (place + 1 + 1) (get_or body (place + 1) 0))))
      t)
      ∙ sym (ap next_word (command_counted body place l k h f))
