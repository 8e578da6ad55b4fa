-- A message from words, word by word, and one word into an open writing. Assumes nothing.
use Rattle.std.specs.Prelude.{Option, Some, None}
use Prim.Native.Nat.{ℕ, ◌+◌, ◌-◌, ◌*◌, ◌/◌, ◌%◌, ◌≤◌, ◌<◌}
use mathlib.Core.Path.{◌≡◌, refl, sym, ap, ap₂, subst, ◌∙◌}
use mathlib.Core.List.{List, [], ◌∷◌}
use native.Mathlib.Numerals.{add-one}
use native.Mathlib.Omega.{arith}
use borrow.Author.Tests.{le-leb, lt-leb}
use lib.Dec.{lit≤}
use lib.ListN.{length, drop, get_or, drop_of_length-le}
use lib.Seq.{drop-cons}
use Rattle.fast_mmc.specs.declared.numbers.WrittenNumbers.{WrittenNumbers}
use Rattle.mmc.specs.Item.{command_item}
use Rattle.fast_mmc.specs.Numbers.{written_numbers}
use Rattle.fast_mmc.specs.Word.{plain_command, byte_at, word_item}
use Rattle.fast_mmc.specs.Clauses.{open_writing, WentWhole, PutOne}
use Rattle.fast_mmc.specs.Refusal.{flat_stop}
use Rattle.fast_mmc.specs.Write.{checked_at, writer_of, writing_at, flat_writer}
use Rattle.fast_mmc.specs.Words.{after_words, closed_out, words_state, words_answer, words_left}
use Rattle.mmc.specs.Length.{within}
use Rattle.mmc.specs.Named.{extent_of}
use Rattle.mmc.specs.Write.{Writing, opened_commands, begun, admitted, item_count_after, writing_past, writing_after, or_failed, closed_message, whole_message}
use Rattle.mmc.specs.Writings.{State}
use Rattle.universal.specs.Emission.{Emission, sent, refusing, check, resume, ◌then◌, answer_in}
use Rattle.universal.specs.Overlay.{overlay}
use Rattle.universal.specs.Refusals.{Refusal, Answer, gives, refused, refusal, too_small}
use Rattle.universal.proofs.Laws.{length_overlay, overlay_none}
use Rattle.fast_mmc.proofs.WordItems.{word_name, Usual, usual_sent}
use Rattle.mmc.proofs.WritingSteps.{as_it_is, ready_kept, ready_failed, repeats, takes, close_repeats, close_empty, close_long, close_sent, commands_refused, commands_opened, begun_after, writing_after_moves, closed_after, whole_answer}

-- ---- what is put of a word

module _ (word at : ℕ) (out left : List ℕ) where
  put_known : (bs : List ℕ) → length bs ≤ 8 → word_item word ≡ sent bs → left ≡ overlay out at bs
      → WentWhole word at out (at + length bs) left
  put_known bs h e p =
      record {
        whole = ap (λ (x : Emission). x.stop) e;
        moves = ap (λ (x : Emission). at + length x.bytes) (sym e);
        near = omega (arith, h);
        bytes = p ∙ ap (λ (x : Emission). overlay out at x.bytes) (sym e);
      }

  pub put_name : (k : ℕ) → word < 9 → command_item [] (plain_command word) ≡ sent (k ∷ []) → left ≡ overlay out at (k ∷ [])
      → WentWhole word at out (at + 1) left
  put_name k h e p = put_known (k ∷ []) (lit≤ tt) (word_name word k h e) p

  pub put_four : (a b c d : ℕ) → word_item word ≡ sent (a ∷ b ∷ c ∷ d ∷ []) → left ≡ overlay out at (a ∷ b ∷ c ∷ d ∷ [])
      → WentWhole word at out (at + 4) left
  put_four a b c d e p = put_known (a ∷ b ∷ c ∷ d ∷ []) (lit≤ tt) e p

  pub put_usual : word % 256 ≡ 11 → word / 1125899906842624 ≡ 0
      → Usual (byte_at 256 word) (byte_at 65536 word) (byte_at 16777216 word) (byte_at 4294967296 word) (byte_at 1099511627776 word)
      (byte_at 281474976710656 word)
      → left
      ≡ overlay out at
      (68
      ∷ 6
      ∷ 1
      ∷ (byte_at 256 word + byte_at 281474976710656 word * 32)
      ∷ byte_at 65536 word
      ∷ byte_at 16777216 word
      ∷ byte_at 4294967296 word
      ∷ byte_at 1099511627776 word
      ∷ [])
      → WentWhole word at out (at + 8) left
  put_usual n z u p = put_known _ (lit≤ tt) (usual_sent word n z u) p

-- ---- the list

words_turn : (w : Writing) (out ws : List ℕ) (i : ℕ) → i < length ws
    → after_words w out (drop i ws)
    ≡ after_words (writing_after w (word_item (get_or ws i 0))) (overlay out w.at (admitted w (word_item (get_or ws i 0))).bytes) (drop (i + 1) ws)
unfolding after_words
words_turn w out ws i h = rw (add-one, drop-cons ws i 0 h)

words_end : (w : Writing) (out ws : List ℕ) (i : ℕ) → length ws ≤ i → after_words w out (drop i ws) ≡ record { writing = w; out = out }
unfolding after_words
words_end w out ws i h = rw (drop_of_length-le ws h)

-- A close of a state gives this answer, and leaves this buffer.
abbrev pub ClosesWith : State → ℕ → WrittenNumbers → List ℕ → Type 0
ClosesWith s room a left = (a ≡ written_numbers (whole_message s.writing room)) × (left ≡ closed_out s)

-- From a writing and its buffer the words from one on lead where those from another lead from where it has come to.
pub record Gone (w₀ : Writing) (out₀ : List ℕ) (from : ℕ) (ws : List ℕ) (w : Writing) (out : List ℕ) (i : ℕ) : Type 0 where
  pub rest : after_words w₀ out₀ (drop from ws) ≡ after_words w out (drop i ws)
  pub room : length out ≡ length out₀

module _ (w₀ : Writing) (out₀ : List ℕ) (from : ℕ) (ws : List ℕ) where
  module _ (w : Writing) (out : List ℕ) (i : ℕ) (g : Gone w₀ out₀ from ws w out i) where
    -- One more word, by its emission.
    pub gone_word : (v : Writing) (left : List ℕ) → i < length ws → v ≡ writing_after w (word_item (get_or ws i 0))
        → left ≡ overlay out w.at (admitted w (word_item (get_or ws i 0))).bytes
        → Gone w₀ out₀ from ws v left (i + 1)
    gone_word v left h p q =
        record {
          rest =
              g.rest
              ∙ words_turn w out ws i h
              ∙ ap₂ (λ (x : Writing) (l : List ℕ). after_words x l (drop (i + 1) ws)) (sym p) (sym q);
          room = ap length q ∙ length_overlay out w.at _ ∙ g.room;
        }

    -- The rest of the words and the close are those of all.
    pub gone_rest : (a : WrittenNumbers) (left : List ℕ) → ClosesWith (after_words w out (drop i ws)) (length out) a left
        → ClosesWith (after_words w₀ out₀ (drop from ws)) (length out₀) a left
    gone_rest a left p =
        subst (λ (s : State). ClosesWith s (length out₀) a left) (sym g.rest)
        (subst (λ (n : ℕ). ClosesWith (after_words w out (drop i ws)) n a left) g.room p)

    -- After the last one the close is that of all.
    pub gone_all : (a : WrittenNumbers) (left : List ℕ) → length ws ≤ i → ClosesWith (record { writing = w; out = out }) (length out) a left
        → ClosesWith (after_words w₀ out₀ (drop from ws)) (length out₀) a left
    gone_all a left h p = gone_rest a left (subst (λ (s : State). ClosesWith s (length out) a left) (sym (words_end w out ws i h)) p)

-- ---- with the position alone

module _ (at i : ℕ) (few : i < 256) (near : at ≤ 40000) where
  -- Nothing has refused it.
  pub going_sound : (or_failed (open_writing at i)).stop ≡ None
  going_sound = sym (as_it_is (open_writing at i) (omega arith) near)

  going_takes : (e : Emission) → admitted (open_writing at i) e ≡ e
  going_takes e = takes (open_writing at i) e (sym (ready_kept (open_writing at i) few near))

  going_on : (e : Emission) → e.stop ≡ None → open_writing (at + length e.bytes) (i + 1) ≡ writing_after (open_writing at i) e
  going_on e n =
      sym
      (writing_after_moves (open_writing at i) e
      ∙ ap (λ (x : Emission). writing_past (open_writing at i) (extent_of x)) (going_takes e)
      ∙ ap (λ (s : Option Refusal). record { at = at + length e.bytes; items = item_count_after s i; stop = s }) n)

  -- A word that went out whole moves the position.
  pub gone_whole : (w₀ : Writing) (out₀ : List ℕ) (from : ℕ) (ws out left : List ℕ) (next : ℕ) → Gone w₀ out₀ from ws (open_writing at i) out i
      → i < length ws → WentWhole (get_or ws i 0) at out next left → Gone w₀ out₀ from ws (open_writing next (i + 1)) left (i + 1)
  gone_whole w₀ out₀ from ws out left next g h p =
      gone_word w₀ out₀ from ws (open_writing at i) out i g (open_writing next (i + 1)) left h
      (ap (λ (k : ℕ). open_writing k (i + 1)) p.moves ∙ going_on _ p.whole)
      (p.bytes ∙ ap (λ (x : Emission). overlay out at x.bytes) (sym (going_takes _)))

-- ---- with the writer as one number

-- A number below 2^40 is that of a writing that nothing has refused, with fewer than 256 items.
writing_open : (v : ℕ) → v / 1099511627776 ≡ 0 → writing_at v ≡ open_writing (v % 4294967296) (v / 4294967296)
unfolding writer_of checked_at
writing_open v z =
    let r : v / 281474976710656 % 256 ≡ 0 = omega (arith, z) in
    let i : v / 4294967296 % 65536 ≡ v / 4294967296 = omega (arith, z) in
    rw (r, i)

-- A word that went out whole moves the position and counts an item.
pub put_one : (word v at next after : ℕ) (out left : List ℕ) → v / 1099511627776 ≡ 0 → at ≡ v % 4294967296 → at ≤ 40000
    → after ≡ v - at + next + 4294967296 → WentWhole word at out next left → PutOne word v out (Some after) left
unfolding flat_writer flat_stop
put_one word v at next after out left z p h q s =
    let w : writing_at v ≡ open_writing at (v / 4294967296) =
    writing_open v z ∙ ap (λ (x : ℕ). open_writing x (v / 4294967296)) (sym p) in
    let few : v / 4294967296 < 256 = omega (arith, z) in
    let g : open_writing next (v / 4294967296 + 1) ≡ writing_after (open_writing at (v / 4294967296)) (word_item word) =
    ap (λ (x : ℕ). open_writing x (v / 4294967296 + 1)) s.moves ∙ going_on at (v / 4294967296) few h (word_item word) s.whole in (
      number z p h s.near q ∙ ap flat_writer (g ∙ ap (λ (x : Writing). writing_after x (word_item word)) (sym w)),
      s.bytes
          ∙ ap (λ (x : Emission). overlay out at x.bytes) (sym (going_takes at (v / 4294967296) few h (word_item word)))
          ∙ ap (λ (x : Writing). overlay out x.at (admitted x (word_item word)).bytes) (sym w),
    )
  where
    number : v / 1099511627776 ≡ 0 → at ≡ v % 4294967296 → at ≤ 40000 → next ≤ at + 8
        → after ≡ v - at + next + 4294967296 → after ≡ flat_writer (open_writing next (v / 4294967296 + 1))
    number z p h k q =
        let n : next % 4294967296 ≡ next = omega (arith, h, k) in
        let i : (v / 4294967296 + 1) % 65536 ≡ v / 4294967296 + 1 = omega (arith, z) in
        rw (n, i) (omega (arith, p, q))

-- A word of which nothing went out leaves it where it was.
pub gone_still : (w₀ : Writing) (out₀ : List ℕ) (from : ℕ) (ws : List ℕ) (w : Writing) (out left : List ℕ) (i : ℕ)
    → Gone w₀ out₀ from ws w out i → left ≡ out → Gone w₀ out₀ from ws w left i
gone_still w₀ out₀ from ws w out left i g e = subst (λ (l : List ℕ). Gone w₀ out₀ from ws w l i) (sym e) g

-- ---- the close, by the position

-- How many items were put decides nothing.
pub any_items : (at i : ℕ) → i < 256 → at ≤ 40000 → closed_message (open_writing at 0) ≡ closed_message (open_writing at i)
any_items at i few near =
    closed_after (open_writing at 0)
    ∙ ap (λ (s : Option Refusal). resume [] s (check (within 5 53 at) 2 then sent (247 ∷ [])))
    (going_sound at 0 (omega arith) near ∙ sym (going_sound at i few near))
    ∙ sym (closed_after (open_writing at i))

-- A close as that of a writing without items.
pub ends_any : (at i : ℕ) (out : List ℕ) (a : WrittenNumbers) (left : List ℕ) → i < 256 → at ≤ 40000
    → ClosesWith (record { writing = open_writing at 0; out = out }) (length out) a left
    → ClosesWith (record { writing = open_writing at i; out = out }) (length out) a left
ends_any at i out a left few near p =
    let same : whole_message (open_writing at 0) (length out) ≡ whole_message (open_writing at i) (length out) =
    whole_answer (open_writing at 0) (length out)
    ∙ ap (λ (e : Emission). answer_in e.stop (at + 1) (length out)) (any_items at i few near)
    ∙ sym (whole_answer (open_writing at i) (length out)) in
    (p.0 ∙ ap written_numbers same, p.1 ∙ ap (λ (e : Emission). overlay out at e.bytes) (any_items at i few near))

module _ (at : ℕ) (near : at ≤ 40000) (out : List ℕ) where
  ends_as : (e : Emission) (a : Answer ℕ) (left : List ℕ) → closed_message (open_writing at 0) ≡ e → a ≡ answer_in e.stop (at + 1) (length out)
      → left ≡ overlay out at e.bytes → ClosesWith (record { writing = open_writing at 0; out = out }) (length out) (written_numbers a) left
  ends_as e a left q p l = (
    ap written_numbers
        (p ∙ sym (whole_answer (open_writing at 0) (length out) ∙ ap (λ (x : Emission). answer_in x.stop (at + 1) (length out)) q)),
    l ∙ ap (λ (x : Emission). overlay out at x.bytes) (sym q),
  )

  -- 2 outside 5 to 52.
  pub ends_short : at < 5 → ClosesWith (record { writing = open_writing at 0; out = out }) (length out) (record { refusal = 2; length = 0 }) out
  unfolding written_numbers
  ends_short h =
      ends_as (refusing 2) (refused (refusal 2)) out (close_empty (open_writing at 0) (going_sound at 0 (omega arith) near) h) refl
      (sym (overlay_none out at))

  pub ends_long : 5 ≤ at → 52 < at → ClosesWith (record { writing = open_writing at 0; out = out }) (length out) (record { refusal = 2; length = 0 }) out
  unfolding written_numbers
  ends_long l h =
      ends_as (refusing 2) (refused (refusal 2)) out (close_long (open_writing at 0) (going_sound at 0 (omega arith) near) l h) refl
      (sym (overlay_none out at))

  same_room : (left : List ℕ) → left ≡ overlay out at (247 ∷ []) → length left ≡ length out
  same_room left p = ap length p ∙ length_overlay out at (247 ∷ [])

  -- Else F7H, and the length where it fits.
  pub ends_fit : (left : List ℕ) → 5 ≤ at → at ≤ 52 → at < length left → left ≡ overlay out at (247 ∷ [])
      → ClosesWith (record { writing = open_writing at 0; out = out }) (length out) (record { refusal = 0; length = at + 1 }) left
  unfolding written_numbers
  ends_fit left l h room p =
      ends_as (sent (247 ∷ [])) (gives (at + 1)) left (close_sent (open_writing at 0) (going_sound at 0 (omega arith) near) l (omega arith))
      (rw (le-leb (at + 1) (length out) (omega (arith, same_room left p)))) p

  pub ends_full : (left : List ℕ) → 5 ≤ at → at ≤ 52 → length left ≤ at → left ≡ overlay out at (247 ∷ [])
      → ClosesWith (record { writing = open_writing at 0; out = out }) (length out) (record { refusal = 4; length = at + 1 }) left
  unfolding written_numbers
  ends_full left l h room p =
      ends_as (sent (247 ∷ [])) (refused (too_small (at + 1))) left (close_sent (open_writing at 0) (going_sound at 0 (omega arith) near) l (omega arith))
      (rw (lt-leb (at + 1) (length out) (omega (arith, same_room left p)))) p

-- ---- the whole message

-- The answer and the buffer of a whole message of words.
abbrev pub WordsWhole : ℕ → List ℕ → List ℕ → WrittenNumbers → List ℕ → Type 0
WordsWhole device ws out a left = (a ≡ written_numbers (words_answer device ws out)) × (left ≡ words_left device ws out)

-- From the opening on the words lead where the message leads.
message_words : (device : ℕ) (out₀ ws : List ℕ) (w : Writing) (out : List ℕ) (a : WrittenNumbers) (left : List ℕ)
    → w ≡ begun (opened_commands device) → out ≡ overlay out₀ 0 (opened_commands device).bytes
    → ClosesWith (after_words w out ws) (length out) a left → WordsWhole device ws out₀ a left
unfolding words_answer words_left
message_words device out₀ ws w out a left p q r =
    subst (λ (n : ℕ). ClosesWith (words_state device ws out₀) n a left) (ap length q ∙ length_overlay out₀ 0 _)
    (subst (λ (s : State). ClosesWith s (length out) a left) (ap₂ (λ (x : Writing) (l : List ℕ). after_words x l ws) p q) r)

-- A writing that was refused before anything went out.
abbrev barred : Refusal → Writing
barred r = record { at = 0; items = 0; stop = Some r }

barred_stop : (r : Refusal) → (or_failed (barred r)).stop ≡ Some r
barred_stop r = sym (as_it_is (barred r) (lit≤ tt) (lit≤ tt))

-- No item changes it.
barred_item : (r : Refusal) (out : List ℕ) (e : Emission)
    → ◌≡◌ {A = State} (record { writing = writing_after (barred r) e; out = overlay out 0 (admitted (barred r) e).bytes }) (record { writing = barred r; out = out })
barred_item r out e =
    let a : admitted (barred r) e ≡ record { bytes = []; stop = Some r } =
    repeats (barred r) e r (sym (ready_failed (barred r) r (barred_stop r))) in
    ap₂ (λ (w : Writing) (l : List ℕ). record { writing = w; out = l })
    (writing_after_moves (barred r) e ∙ ap (λ (x : Emission). writing_past (barred r) (extent_of x)) a)
    (ap (λ (x : Emission). overlay out 0 x.bytes) a ∙ overlay_none out 0)

barred_words : (r : Refusal) (out ws : List ℕ) → after_words (barred r) out ws ≡ record { writing = barred r; out = out }
unfolding after_words
barred_words r out [] = refl
barred_words r out (x ∷ ws) =
    ap (λ (s : State). after_words s.writing s.out ws) (barred_item r out (word_item x)) ∙ barred_words r out ws

barred_ends : (out : List ℕ) → ClosesWith (record { writing = barred (refusal 5); out = out }) (length out) (record { refusal = 5; length = 0 }) out
unfolding written_numbers
barred_ends out =
    let c = close_repeats (barred (refusal 5)) (refusal 5) (barred_stop (refusal 5)) in (
      ap written_numbers
          (sym (whole_answer (barred (refusal 5)) (length out) ∙ ap (λ (x : Emission). answer_in x.stop 1 (length out)) c)),
      sym (ap (λ (x : Emission). overlay out 0 x.bytes) c ∙ overlay_none out 0),
    )

-- A device above 127 is refused with 5 before anything goes out.
pub refused_words : (device : ℕ) (out ws : List ℕ) → 127 < device → WordsWhole device ws out (record { refusal = 5; length = 0 }) out
refused_words device out ws h =
    let e : opened_commands device ≡ refusing 5 = commands_refused device h in
    message_words device out ws (barred (refusal 5)) out (record { refusal = 5; length = 0 }) out
    (sym (ap begun e ∙ begun_after (refusing 5)))
    (sym (overlay_none out 0) ∙ ap (λ (x : Emission). overlay out 0 x.bytes) (sym e))
    (subst (λ (s : State). ClosesWith s (length out) (record { refusal = 5; length = 0 }) out) (sym (barred_words (refusal 5) out ws)) (barred_ends out))

-- For one up to 127 four bytes go out first.
pub opened_words : (device : ℕ) (out₀ ws out : List ℕ) (a : WrittenNumbers) (left : List ℕ) → device ≤ 127
    → out ≡ overlay out₀ 0 (240 ∷ 127 ∷ device ∷ 6 ∷ []) → ClosesWith (after_words (open_writing 4 0) out ws) (length out) a left
    → WordsWhole device ws out₀ a left
opened_words device out₀ ws out a left h q =
    let e : opened_commands device ≡ sent (240 ∷ 127 ∷ device ∷ 6 ∷ []) = commands_opened device h in
    message_words device out₀ ws (open_writing 4 0) out a left (sym (ap begun e ∙ begun_after (sent (240 ∷ 127 ∷ device ∷ 6 ∷ []))))
    (q ∙ ap (λ (x : Emission). overlay out₀ 0 x.bytes) (sym e))
