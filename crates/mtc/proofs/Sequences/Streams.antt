-- The stream law. Assumes nothing.
use Rattle.mtc.specs.declared.reader.MtcSequence.{MtcSequence}
use Rattle.std.specs.Prelude.{Option, Some, None}
use Prim.Native.Nat.{ℕ, zero, suc, ◌+◌}
use mathlib.Core.Bool.{Bool, true, false, not, cond}
use mathlib.Core.List.{List, [], ◌∷◌, ◌++◌, map, reverse, reverse_aux, append-nil}
use mathlib.Core.Logic.{◌⊎◌, inl, inr, ◌≢◌}
use mathlib.Core.Path.{◌≡◌, refl, sym, ◌∙◌, ap, ap₂}
use native.Mathlib.Omega.{arith}
use borrow.Author.Tests.{eq-eqb}
use lib.Dec.{T}
use lib.ListN.{length, take, set, get_or}
use Rattle.mtc.specs.Generator.{first, sequence_frames, opposite}
use Rattle.mtc.specs.QuarterFrame.{piece_of, is_heard, heard, pieces}
use Rattle.mtc.specs.Reader.{Sound, fresh, is_sound, nibbles_fit, offset, same_time, jumps, sequence_of_label, report_of, after_piece, after_heard, after_byte, after_full_message}
use Rattle.mtc.specs.Ready.{after_bytes}
use Rattle.mtc.specs.Rp004.{InWidths}
use Rattle.labels.specs.St12.{is_valid}
use Rattle.mtc.specs.Stream.{Call, byte, full, run_from, bytes_sent, after_calls, events, silent, newest, last_seven, nth_report, frames, shifted, report_with, seven_before, Answers, StreamLaw}
use Rattle.mtc.specs.SourceReader.{source_events}
use Rattle.labels.specs.Time.{add_frames, bits_of}
use Rattle.labels.specs.declared.time.MtcTime.{MtcTime}
use Rattle.mtc.specs.declared.generator.Direction.{Direction}
use Rattle.mtc.specs.declared.generator.Direction.TheVariants.{Forward, Reverse}
use Rattle.mtc.specs.declared.generator.MtcGenerator.{MtcGenerator}
use Rattle.mtc.specs.declared.reader.MtcEvent.{MtcEvent}
use Rattle.mtc.specs.declared.reader.MtcReader.{MtcReader}
use Rattle.labels.proofs.Laws.{moved_valid, moved_by_sum}
use Rattle.mtc.proofs.Widths.{valid_in_widths}
use Rattle.mtc.proofs.Sequences.LabelNibbles.{first_value, nibbles_in_order, assembled, values, split, split_pieces, raw_values}
use Rattle.mtc.proofs.Sequences.WholeSequences.{run, leave, left, round, run_first, Eighth, eighth}
use Rattle.mtc.proofs.Sequences.Sending.{later_label, eight_bytes, sends_three}
use Rattle.mtc.proofs.Sequences.ReaderShapes.{history, Shape, idle, piece_shape, Begun, Quiet, first_byte}
use Rattle.mtc.proofs.Sequences.SequenceStarts.{starts_next}
use Rattle.mtc.proofs.Sequences.SoundCalls.{by_piece, report_by_piece, heard_sound, byte_sound, full_sound, same_length}
use Rattle.mtc.proofs.Sequences.HeardBytes.{events_of_heard, all_heard, each_answered, sent_heard}

-- ---- lists

map_reverse_aux : {A B : Type 0} (f : A → B) (l r : List A) → map f (reverse_aux l r) ≡ reverse_aux (map f l) (map f r)
map_reverse_aux f [] r = refl
map_reverse_aux f (x ∷ l) r = map_reverse_aux f l (x ∷ r)

map_append : {A B : Type 0} (f : A → B) (l r : List A) → map f (l ++ r) ≡ map f l ++ map f r
map_append f [] r = refl
map_append f (x ∷ l) r = ap (λ (t : List _). f x ∷ t) (map_append f l r)

-- Where n reports are silent and then one is not, no other place among them reports.
silent_at : (n k : ℕ) (s : Option MtcSequence) (rest : List (Option MtcSequence)) → (k ≡ n → ⊥)
    → ((j : ℕ) → k ≡ suc (n + j) → get_or rest j None ≡ None) → get_or (silent n ++ (s ∷ rest)) k None ≡ None
silent_at zero zero s rest h q = absurd (h refl)
silent_at zero (suc k) s rest h q = q k (omega arith)
silent_at (suc n) zero s rest h q = refl
silent_at (suc n) (suc k) s rest h q = silent_at n k s rest (λ e. h (ap suc e)) (λ j e. q j (omega arith))

-- The reports of twenty-four bytes, all silent but the first, the eighth, the sixteenth and the last.
abbrev spaced : (a b c d : Option MtcSequence) → List (Option MtcSequence)
spaced a b c d = a ∷ (silent 6 ++ (b ∷ (silent 7 ++ (c ∷ (silent 7 ++ (d ∷ []))))))

silent_else : (a b c d : Option MtcSequence) (n : ℕ) → suc n ≢ 1 → suc n ≢ 8 → suc n ≢ 16 → suc n ≢ 24
    → get_or (spaced a b c d) n None ≡ None
silent_else a b c d n h1 h8 h16 h24 =
    let r24 : List (Option MtcSequence) = silent 7 ++ (d ∷ []) in
    let r16 : List (Option MtcSequence) = silent 7 ++ (c ∷ r24) in
    silent_at 0 n a (silent 6 ++ (b ∷ r16)) (λ e. h1 (ap suc e))
    (λ i x. silent_at 6 i b r16 (λ e. h8 (omega arith))
    (λ j y. silent_at 7 j c r24 (λ e. h16 (omega arith))
    (λ k z. silent_at 7 k d [] (λ e. h24 (omega arith)) (λ l w. refl))))

-- ---- any list of calls

-- What any list of calls from fresh on leaves, with the bytes heard since the last full message.
pub record Past (bs : List ℕ) (r : MtcReader) : Type 0 where
  pub sound : Sound r
  pub shape : Shape bs r

pub fresh_sound : Sound fresh
unfolding is_sound nibbles_fit
fresh_sound = record { is_sound_record = tt; eight = refl }

pub fresh_past : Past [] fresh
fresh_past = record { sound = fresh_sound; shape = idle refl }

pub past : (cs : List Call) (bs : List ℕ) (r : MtcReader) → Past bs r → Past (newest bs cs) (after_calls r cs)
unfolding newest after_calls
past [] bs r h = h
past (byte b ∷ cs) bs r h = past cs (cond (is_heard b) (b ∷ bs) bs) (after_byte r b) (go (is_heard b))
  where
    go : (t : Bool) → Past (cond t (b ∷ bs) bs) (cond t (after_heard r b) r)
    go true = record { sound = heard_sound r h.sound b; shape = rw (by_piece r h.sound b) (piece_shape bs r h.shape b _) }
    go false = h
past (full t ∷ cs) bs r h =
    past cs [] (after_full_message r t) (record { sound = full_sound r h.sound t; shape = idle refl })

-- No list of calls from fresh on leaves a record that is taken as fresh.
pub calls_sound : (cs : List Call) → T (is_sound (after_calls fresh cs))
calls_sound cs = (past cs [] fresh fresh_past).sound.is_sound_record

-- ---- reports of bytes

abbrev pub reports_of : List MtcEvent → List (Option MtcSequence)
reports_of = map (λ (e : MtcEvent). e.sequence)

heard_run : (bs : List ℕ) (r : MtcReader) → Sound r → reports_of (source_events r bs) ≡ run r (map split bs)
unfolding source_events run
heard_run [] r h = refl
heard_run (b ∷ bs) r h =
    ap₂ ◌∷◌ (report_by_piece r h b)
    (heard_run bs (after_heard r b) (heard_sound r h b) ∙ ap (λ (s : MtcReader). run s (map split bs)) (by_piece r h b))

-- Those of any bytes are those of the heard pieces.
pub reports_run : (bs : List ℕ) (r : MtcReader) → Sound r → reports_of (events r bs) ≡ run r (map split (heard bs))
reports_run bs r h = ap reports_of (events_of_heard r bs) ∙ heard_run (heard bs) r h

-- The reader that bytes leave: it is sound, and the one that the heard pieces leave.
pub bytes_sound : (bs : List ℕ) (r : MtcReader) → Sound r → Sound (after_bytes r bs)
unfolding after_calls
bytes_sound [] r h = h
bytes_sound (b ∷ bs) r h = bytes_sound bs (after_byte r b) (byte_sound r h b)

pub bytes_leave : (bs : List ℕ) (r : MtcReader) → Sound r → after_bytes r bs ≡ leave r (map split (heard bs))
unfolding after_calls leave
bytes_leave [] r h = refl
bytes_leave (b ∷ bs) r h = go (is_heard b) (bytes_leave bs)
  where
    go : (t : Bool) → ((s : MtcReader) → Sound s → after_bytes s bs ≡ leave s (map split (heard bs)))
        → after_bytes (cond t (after_heard r b) r) bs ≡ leave r (map split (cond t (b ∷ heard bs) (heard bs)))
    go true more = more (after_heard r b) (heard_sound r h b) ∙ ap (λ (s : MtcReader). leave s (map split (heard bs))) (by_piece r h b)
    go false more = more r h

length_heard : (bs : List ℕ) (r : MtcReader) → length (source_events r bs) ≡ length bs
unfolding source_events
length_heard [] r = refl
length_heard (b ∷ bs) r = ap suc (length_heard bs (after_heard r b))

-- The nibbles of three sequences.
three : (a b c : MtcTime) (d : Direction) → map split (eight_bytes d a ++ (eight_bytes d b ++ eight_bytes d c))
    ≡ nibbles_in_order d (values a) ++ (nibbles_in_order d (values b) ++ (nibbles_in_order d (values c) ++ []))
three a b c d =
    map_append split (eight_bytes d a) (eight_bytes d b ++ eight_bytes d c)
    ∙ ap₂ ◌++◌ (split_pieces a d)
    (map_append split (eight_bytes d b) (eight_bytes d c)
    ∙ ap₂ ◌++◌ (split_pieces b d) (split_pieces c d ∙ sym (append-nil (nibbles_in_order d (values c)))))

-- What the bytes of three sequences report.
module _ (a b c : MtcTime) (d : Direction) (bs : List ℕ) (r : MtcReader) (h : Past bs r) where
  abbrev first_nibble : ℕ
  first_nibble = first_value d (values a)

  abbrev second : MtcReader
  second = after_piece r (first d) first_nibble

  begun : Begun d (set r.nibbles (first d) first_nibble) second × Quiet d bs (report_of r (first d) first_nibble)
  begun = first_byte bs r h.shape d first_nibble

  after_eight : Eighth (values a) d second
  after_eight =
      eighth (values a) second d r.nibbles h.sound.eight (same_length r (first d) first_nibble ∙ h.sound.eight) begun.0

  -- The four that may report.
  abbrev report1 : Option MtcSequence
  report1 = report_of r (first d) first_nibble

  report16 : Option MtcSequence
  report16 = Some (sequence_of_label (assembled (values b)) d after_eight.next.previous)

  abbrev report24 : Option MtcSequence
  report24 = Some (sequence_of_label (assembled (values c)) d (Some (assembled (values b))))

  all_reports : run r (nibbles_in_order d (values a) ++ (nibbles_in_order d (values b) ++ (nibbles_in_order d (values c) ++ [])))
      ≡ spaced report1 after_eight.report report16 report24
  unfolding report16 run
  all_reports =
      run_first (values a) r d (nibbles_in_order d (values b) ++ (nibbles_in_order d (values c) ++ []))
      ∙ ap (λ (l : List (Option MtcSequence)). report1 ∷ l)
      (after_eight.runs (nibbles_in_order d (values b) ++ (nibbles_in_order d (values c) ++ []))
      ∙ ap (λ (l : List (Option MtcSequence)). silent 6 ++ (after_eight.report ∷ l))
      (round (values b) after_eight.next d after_eight.eights after_eight.starts (nibbles_in_order d (values c) ++ [])
      ∙ ap (λ (l : List (Option MtcSequence)). silent 7 ++ (report16 ∷ l))
      (round (values c) (left (values b) d) d refl (starts_next d (first d) (Some d)) [])))

-- ---- times from T

same_self : (t : MtcTime) → same_time t t ≡ true
same_self t =
    rw (
      eq-eqb t.hours _ refl,
      eq-eqb t.minutes _ refl,
      eq-eqb t.seconds _ refl,
      eq-eqb t.frames _ refl,
      eq-eqb (bits_of t.rate) _ refl,
    )

module _ (t : MtcTime) where
  on_2_1 : (d : Direction) → add_frames t (offset d) ≡ shifted t d 2 1
  on_2_1 Forward = refl
  on_2_1 Reverse = refl

  on_2_2 : (d : Direction) → later_label d t ≡ shifted t d 2 2
  on_2_2 Forward = refl
  on_2_2 Reverse = refl

  on_4_3 : (d : Direction) → add_frames (later_label d t) (offset d) ≡ shifted t d 4 3
  on_4_3 Forward = moved_by_sum t (sequence_frames Forward) (offset Forward)
  on_4_3 Reverse = moved_by_sum t (sequence_frames Reverse) (offset Reverse)

  on_4_4 : (d : Direction) → later_label d (later_label d t) ≡ shifted t d 4 4
  on_4_4 Forward = moved_by_sum t (sequence_frames Forward) (sequence_frames Forward)
  on_4_4 Reverse = moved_by_sum t (sequence_frames Reverse) (sequence_frames Reverse)

  on_6_5 : (d : Direction) → add_frames (later_label d (later_label d t)) (offset d) ≡ shifted t d 6 5
  on_6_5 d = ap (λ (u : MtcTime). add_frames u (offset d)) (on_4_4 d) ∙ go d
    where
      go : (x : Direction) → add_frames (add_frames t (frames x 4 4)) (offset x) ≡ add_frames t (frames x 6 5)
      go Forward = moved_by_sum t (frames Forward 4 4) (offset Forward)
      go Reverse = moved_by_sum t (frames Reverse 4 4) (offset Reverse)

-- A label that was put together from its own values.
own_values : (t : MtcTime) → InWidths t → (d : Direction) (p : Option MtcTime)
    → Some (sequence_of_label (assembled (values t)) d p) ≡ report_with d t (add_frames t (offset d)) (jumps p d t)
own_values t w d p = ap (λ (u : MtcTime). Some (sequence_of_label u d p)) (raw_values t w)

-- ---- the law

length_three : (a b c : MtcTime) (d : Direction) → length (eight_bytes d a ++ (eight_bytes d b ++ eight_bytes d c)) ≡ 24
unfolding pieces
length_three a b c Forward = refl
length_three a b c Reverse = refl

seven_before_lem : (d : Direction) (bs : List ℕ) → map piece_of (take 7 bs) ≡ history (opposite d) 7
    → map piece_of (reverse (take 7 bs)) ≡ seven_before d
seven_before_lem d bs h = map_reverse_aux piece_of (take 7 bs) [] ∙ ap reverse h ∙ go d
  where
    go : (x : Direction) → reverse (history (opposite x) 7) ≡ seven_before x
    go Forward = refl
    go Reverse = refl

module _ (calls : List Call) (g : MtcGenerator) (t : MtcTime) (d : Direction) (bs : List ℕ) (valid : T (is_valid t))
    (sent : heard bs ≡ bytes_sent 24 (run_from g t d)) where
  abbrev bytes : List ℕ
  bytes = newest [] calls

  abbrev reader : MtcReader
  reader = after_calls fresh calls

  before : Past bytes reader
  before = past calls [] fresh fresh_past

  abbrev t₂ : MtcTime
  t₂ = later_label d t

  abbrev t₄ : MtcTime
  t₄ = later_label d t₂

  abbrev es : List MtcEvent
  es = events reader bs

  abbrev after8 : Eighth (values t) d (second t t₂ t₄ d bytes reader before)
  after8 = after_eight t t₂ t₄ d bytes reader before

  abbrev listed_reports : List (Option MtcSequence)
  listed_reports =
      spaced (report1 t t₂ t₄ d bytes reader before) after8.report (report16 t t₂ t₄ d bytes reader before)
      (report24 t t₂ t₄ d bytes reader before)

  reported_are : reports_of es ≡ listed_reports
  reported_are =
      reports_run bs reader before.sound
      ∙ ap (λ (l : List ℕ). run reader (map split l)) (sent ∙ sends_three g t d)
      ∙ ap (run reader) (three t t₂ t₄ d)
      ∙ all_reports t t₂ t₄ d bytes reader before

  place : (n : ℕ) → nth_report (suc n) es ≡ get_or listed_reports n None
  place n = ap (λ (l : List (Option MtcSequence)). get_or l n None) reported_are

  first_report : (nth_report 1 es ≡ None) ⊎ (map piece_of (last_seven calls) ≡ seven_before d)
  first_report = go (begun t t₂ t₄ d bytes reader before).1
    where
      go : Quiet d bytes (report1 t t₂ t₄ d bytes reader before)
          → (nth_report 1 es ≡ None) ⊎ (map piece_of (last_seven calls) ≡ seven_before d)
      go (inl e) = inl (place 0 ∙ e)
      go (inr e) = inr (seven_before_lem d bytes e)

  eighth_report : (nth_report 8 es ≡ None)
      ⊎ ((jump : Bool) × (nth_report 8 es ≡ report_with d t (shifted t d 2 1) jump))
  eighth_report = go after8.is
    where
      q : Option MtcTime
      q = (second t t₂ t₄ d bytes reader before).previous

      go : (after8.report ≡ None) ⊎ (after8.report ≡ Some (sequence_of_label (assembled (values t)) d q))
          → (nth_report 8 es ≡ None)
          ⊎ ((jump : Bool) × (nth_report 8 es ≡ report_with d t (shifted t d 2 1) jump))
      go (inl e) = inl (place 7 ∙ e)
      go (inr e) =
          inr (
            jumps q d t,
            place 7 ∙ e ∙ own_values t (valid_in_widths t valid) d q
                ∙ ap (λ (u : MtcTime). report_with d t u (jumps q d t)) (on_2_1 t d),
          )

  sixteenth_report : (jump : Bool)
      × (nth_report 16 es ≡ report_with d (shifted t d 2 2) (shifted t d 4 3) jump)
  unfolding report16
  sixteenth_report =
      let q = after8.next.previous in (
        jumps q d t₂,
        place 15 ∙ own_values t₂ (valid_in_widths t₂ (moved_valid t (sequence_frames d))) d q
            ∙ ap₂ (λ (x y : MtcTime). report_with d x y (jumps q d t₂)) (on_2_2 t d) (on_4_3 t d),
      )

  last_report : nth_report 24 es ≡ report_with d (shifted t d 4 4) (shifted t d 6 5) false
  last_report =
      let w₂ = valid_in_widths t₂ (moved_valid t (sequence_frames d)) in
      let w₄ = valid_in_widths t₄ (moved_valid t₂ (sequence_frames d)) in
      place 23
      ∙ ap (λ (u : MtcTime). Some (sequence_of_label (assembled (values t₄)) d (Some u))) (raw_values t₂ w₂)
      ∙ own_values t₄ w₄ d (Some t₂)
      ∙ ap (λ (x : Bool). report_with d t₄ (add_frames t₄ (offset d)) (not x)) (same_self t₄)
      ∙ ap₂ (λ (x y : MtcTime). report_with d x y false) (on_4_4 t d) (on_6_5 t d)

  no_other : (n : ℕ) → n ≢ 1 → n ≢ 8 → n ≢ 16 → n ≢ 24 → nth_report n es ≡ None
  no_other zero a b c e = refl
  no_other (suc n) a b c e = place n ∙ silent_else _ _ _ _ n a b c e

  twenty_four : length es ≡ 24
  twenty_four =
      ap length (events_of_heard reader bs) ∙ length_heard (heard bs) reader ∙ ap length (sent ∙ sends_three g t d)
      ∙ length_three t t₂ t₄ d

pub stream_law : StreamLaw
stream_law calls g t d bs valid sent =
    record {
      each = each_answered (after_calls fresh calls) bs;
      answers =
          record {
            count = twenty_four calls g t d bs valid sent;
            first = first_report calls g t d bs valid sent;
            eighth = eighth_report calls g t d bs valid sent;
            sixteenth = sixteenth_report calls g t d bs valid sent;
            twenty_fourth = last_report calls g t d bs valid sent;
            others = no_other calls g t d bs valid sent;
          };
    }

-- The twenty-four alone.
pub stream_alone : (calls : List Call) (g : MtcGenerator) (t : MtcTime) (d : Direction) → T (is_valid t)
    → Answers calls d t (events (after_calls fresh calls) (bytes_sent 24 (run_from g t d)))
stream_alone calls g t d valid =
    let sent : List ℕ = bytes_sent 24 (run_from g t d) in
    (stream_law calls g t d sent valid (all_heard sent (sent_heard (run_from g t d) 24))).answers
