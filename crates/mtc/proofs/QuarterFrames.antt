-- Laws of quarter frames: data bytes, the pieces of a label, the sequences that a generator sends and those that a reader reads
-- are RP-004/008's, where the label's counts fit their widths, so of every valid one; what is sent and read beyond that; and which
-- readers are ready. Assumes nothing.
use Rattle.std.specs.Prelude.{Option, Some, None}
use Prim.Native.Nat.{ℕ, zero, suc, ◌+◌, ◌*◌, ◌/◌, ◌%◌, ◌≤◌, ◌<◌}
use mathlib.Core.Bool.{Bool, true, false, not, cond, ◌&&◌}
use mathlib.Core.List.{List, [], ◌∷◌, ◌++◌, map, reverse, append-nil}
use mathlib.Core.Logic.{inl}
use mathlib.Core.Path.{◌≡◌, refl, sym, ◌∙◌, ap, ap₂, subst}
use native.Mathlib.Omega.{arith}
use lib.Dec.{T, eqb, eqb→eq, leb→le, le→leb}
use lib.IntN.{pos, negsuc}
use lib.ListN.{length, get_or}
use Rattle.mtc.specs.Generator.{first, final, sequence_frames, sent_at}
use Rattle.mtc.specs.QuarterFrame.{piece_of, value_of, quarter_frame, is_heard, heard, from_byte, to_byte, pieces, masked}
use Rattle.mtc.specs.Reader.{fresh, Sound, or_fresh, control, raw_of, same_time, sequence_of_label, event_heard, after_byte, after_full_message}
use Rattle.mtc.specs.Ready.{Starts, Ready, NotAgainst, eight_pieces, label_of_bytes, after_bytes, ReadsLabel}
use Rattle.mtc.specs.Rp004.{data_byte, type_code, InWidths, data_bytes, sequence, next_label, sequences_from, is_boundary, current_time}
use Rattle.labels.specs.St12.{label, is_valid, label_after, label_before}
use Rattle.mtc.specs.Stream.{Call, byte, run_from, bytes_sent, after_calls, events, newest, silent, in_order}
use Rattle.labels.specs.Time.{add_frames, bits_of, rate_at, type_of}
use Rattle.labels.specs.declared.time.MtcTime.{MtcTime}
use Rattle.mtc.specs.declared.generator.Direction.{Direction}
use Rattle.mtc.specs.declared.generator.Direction.TheVariants.{Forward, Reverse}
use Rattle.mtc.specs.declared.generator.MtcGenerator.{MtcGenerator}
use Rattle.mtc.specs.declared.quarter_frame.QuarterFrame.{QuarterFrame}
use Rattle.mtc.specs.declared.reader.MtcReader.{MtcReader}
use Rattle.universal.specs.Refusals.{gives, refused, refusal}
use Rattle.universal.proofs.Tests.{holds_true}
use Rattle.std.specs.List.{list_all}
use borrow.Author.Tests.{lt-leb}
use Rattle.mtc.proofs.Sequences.HeardBytes.{heard_byte, all_heard, sent_heard}
use Rattle.mtc.proofs.Sequences.LabelNibbles.{bits_code, nibble, Values, nibbles_in_order, assembled, values, split, split_pieces, raw_values}
use Rattle.labels.proofs.Laws.{rate_back, moved_valid, moved_by_sum, moved_by_one, moved_back_one}
use Rattle.mtc.proofs.Widths.{valid_in_widths}
use Rattle.mtc.proofs.Sequences.WholeSequences.{run, leave, Eight, eight, eight_of, left, round, round_left}
use Rattle.mtc.proofs.Sequences.Sending.{later_label, sends_first, sends_next}
use Rattle.mtc.proofs.Sequences.SoundCalls.{as_is, last_is, full_sound}
use Rattle.mtc.proofs.Sequences.SequenceStarts.{starts_anew, starts_next, starts_after_last}
use Rattle.mtc.proofs.Sequences.Streams.{fresh_sound, fresh_past, past, reports_of, reports_run, bytes_sound, bytes_leave}

-- ---- a data byte

-- A piece and its value go out as RP-004/008's data byte, and come back from it.
pub byte_written : (n d : ℕ) → n < 8 → d < 16 → to_byte (quarter_frame n d) ≡ data_byte n d
byte_written n d h k =
    let i : n % 8 ≡ n = omega arith in
    let j : d % 16 ≡ d = omega arith in
    ap₂ data_byte i j

pub byte_read : (n d : ℕ) → n < 8 → d < 16 → from_byte (data_byte n d) ≡ gives (quarter_frame n d)
byte_read n d h k =
    let l : T (is_heard (data_byte n d)) = le→leb (data_byte n d) 0x7F (omega arith) in
    let i : data_byte n d / 16 % 8 ≡ n = omega arith in
    let j : data_byte n d % 16 ≡ d = omega arith in
    rw (holds_true (is_heard (data_byte n d)) l) (ap gives (ap₂ quarter_frame i j))

-- Every byte that is read is the data byte of what it is read as.
pub byte_again : (b : ℕ) (q : QuarterFrame) → from_byte b ≡ gives q → (data_byte q.piece q.value ≡ b) × (b < 128)
byte_again b q = go (is_heard b) refl
  where
    go : (t : Bool) → is_heard b ≡ t → cond t (gives (quarter_frame (piece_of b) (value_of b))) (refused (refusal 13)) ≡ gives q
        → (data_byte q.piece q.value ≡ b) × (b < 128)
    go true h e =
        let l : b ≤ 0x7F = leb→le b 0x7F (rw h tt) in
        let same : quarter_frame (piece_of b) (value_of b) ≡ q = cc e in
        (rw (← same) (omega arith), omega arith)
    go false h e = absurd (cc e)

-- A byte of 80H or more is refused.
pub status_refused : (b : ℕ) → 128 ≤ b → from_byte b ≡ refused (refusal 13)
status_refused b h = rw (lt-leb b 0x7F (omega arith))

-- A byte below it is heard, and one of it or more is not.
pub below_heard : (b : ℕ) → b < 128 → T (is_heard b)
below_heard b h = le→leb b 0x7F (omega arith)

pub status_unheard : (b : ℕ) → 128 ≤ b → T (not (is_heard b))
status_unheard b h = rw (lt-leb b 0x7F (omega arith)) tt

-- ---- the pieces of a label

high_hours : (k h : ℕ) → h < 32 → 0x70 + k * 2 + h / 16 % 2 ≡ 7 * 16 + (k * 32 + h) / 16
high_hours k h l =
    let e : (k * 32 + h) / 16 ≡ k * 2 + h / 16 = omega arith in
    let f : h / 16 % 2 ≡ h / 16 = omega arith in
    rw (e, f) (omega arith)

-- The data bytes are RP-004/008's.
pub pieces_practice : (t : MtcTime) → InWidths t → pieces t ≡ data_bytes t
unfolding pieces data_bytes
pieces_practice t w =
    let c : bits_of t.rate ≡ type_code t.rate = bits_code t.rate in
    let e0 : t.frames % 16 ≡ 0 * 16 + t.frames % 16 = omega arith in
    let e1 : 0x10 + t.frames / 16 % 2 ≡ 1 * 16 + t.frames / 16 = omega (arith, w.frames) in
    let e3 : 0x30 + t.seconds / 16 % 4 ≡ 3 * 16 + t.seconds / 16 = omega (arith, w.seconds) in
    let e5 : 0x50 + t.minutes / 16 % 4 ≡ 5 * 16 + t.minutes / 16 = omega (arith, w.minutes) in
    let e6 : 0x60 + t.hours % 16 ≡ 6 * 16 + (type_code t.rate * 32 + t.hours) % 16 = omega (arith, w.hours) in
    let e7 : 0x70 + bits_of t.rate * 2 + t.hours / 16 % 2 ≡ 7 * 16 + (type_code t.rate * 32 + t.hours) / 16 =
    rw c (high_hours (type_code t.rate) t.hours w.hours) in
    λ i.
    e0 i
    ∷ e1 i
    ∷ (0x20 + t.seconds % 16)
    ∷ e3 i
    ∷ (0x40 + t.minutes % 16)
    ∷ e5 i
    ∷ e6 i
    ∷ e7 i
    ∷ []

-- The high bits that go out are kept by the mask: bit 4 of five, bits 4 and 5 of six.
high_of_five : (n : ℕ) → n / 16 % 2 ≡ n % 32 / 16 % 2
high_of_five n = let e : n % 32 / 16 ≡ n / 16 % 2 = omega arith in rw e (omega arith)

high_of_six : (n : ℕ) → n / 16 % 4 ≡ n % 64 / 16 % 4
high_of_six n = let e : n % 64 / 16 ≡ n / 16 % 4 = omega arith in rw e (omega arith)

-- So they are of every label, with its counts masked to their widths.
pub pieces_masked : (t : MtcTime) → pieces t ≡ data_bytes (masked t)
unfolding pieces
pieces_masked t =
    let e0 : t.frames % 16 ≡ t.frames % 32 % 16 = omega arith in
    let e1 : 0x10 + t.frames / 16 % 2 ≡ 0x10 + t.frames % 32 / 16 % 2 = rw (high_of_five t.frames) in
    let e2 : 0x20 + t.seconds % 16 ≡ 0x20 + t.seconds % 64 % 16 = omega arith in
    let e3 : 0x30 + t.seconds / 16 % 4 ≡ 0x30 + t.seconds % 64 / 16 % 4 = rw (high_of_six t.seconds) in
    let e4 : 0x40 + t.minutes % 16 ≡ 0x40 + t.minutes % 64 % 16 = omega arith in
    let e5 : 0x50 + t.minutes / 16 % 4 ≡ 0x50 + t.minutes % 64 / 16 % 4 = rw (high_of_six t.minutes) in
    let e6 : 0x60 + t.hours % 16 ≡ 0x60 + t.hours % 32 % 16 = omega arith in
    let e7 = ap (λ (n : ℕ). 0x70 + bits_of t.rate * 2 + n) (high_of_five t.hours) in
    let same : pieces t ≡ pieces (masked t) = λ i. e0 i ∷ e1 i ∷ e2 i ∷ e3 i ∷ e4 i ∷ e5 i ∷ e6 i ∷ e7 i ∷ [] in
    same
    ∙ pieces_practice (masked t)
    (record { frames = omega arith; seconds = omega arith; minutes = omega arith; hours = omega arith })

in_practice : (t : MtcTime) (d : Direction) → InWidths t → in_order d (pieces t) ≡ sequence d t
in_practice t Forward w = pieces_practice t w
in_practice t Reverse w = ap reverse (pieces_practice t w)

-- ---- the next sequence

-- The generator's and the reader's move of two frames is RP-004/008's.
pub moves_practice : (t : MtcTime) (d : Direction) → T (is_valid t) → add_frames t (sequence_frames d) ≡ next_label d t
moves_practice t Forward h =
    sym (moved_by_sum t (pos 1) (pos 1)) ∙ moved_by_one (add_frames t (pos 1)) (moved_valid t (pos 1)) ∙ ap label_after (moved_by_one t h)
moves_practice t Reverse h =
    sym (moved_by_sum t (negsuc 0) (negsuc 0))
    ∙ moved_back_one (add_frames t (negsuc 0)) (moved_valid t (negsuc 0))
    ∙ ap label_before (moved_back_one t h)

eight_more : (n : ℕ) → suc n * 8 ≡ suc (suc (suc (suc (suc (suc (suc (suc (n * 8))))))))
eight_more n = omega arith

-- After a sequence, so many more.
sends_on : (n : ℕ) (t : MtcTime) (d : Direction) → T (is_valid t)
    → bytes_sent (n * 8) (sent_at t d (final d)) ≡ sequences_from d (next_label d t) n
unfolding bytes_sent sequences_from
sends_on zero t d h = refl
sends_on (suc n) t d h =
    let moves : later_label d t ≡ next_label d t = moves_practice t d h in
    let valid : T (is_valid (later_label d t)) = moved_valid t (sequence_frames d) in
    ap (λ (k : ℕ). bytes_sent k (sent_at t d (final d))) (eight_more n)
    ∙ sends_next t d (n * 8)
    ∙ ap₂ ◌++◌ (in_practice (later_label d t) d (valid_in_widths (later_label d t) valid)) (sends_on n (later_label d t) d valid)
    ∙ ap (λ (u : MtcTime). sequence d u ++ sequences_from d (next_label d u) n) moves

-- A generator located at a valid time and set running sends RP-004/008's sequences from that time on, as many as are asked for.
pub sends_practice : (g : MtcGenerator) (t : MtcTime) (d : Direction) (n : ℕ) → T (is_valid t)
    → bytes_sent (n * 8) (run_from g t d) ≡ sequences_from d t n
unfolding bytes_sent sequences_from
sends_practice g t d zero h = refl
sends_practice g t d (suc n) h =
    ap (λ (k : ℕ). bytes_sent k (run_from g t d)) (eight_more n)
    ∙ sends_first g t d (n * 8)
    ∙ ap₂ ◌++◌ (in_practice t d (valid_in_widths t h)) (sends_on n t d h)

-- ---- what a reader says of it

-- Forward the reported current time is RP-004/008's; in reverse it is the label before.
pub current_forward : (t : MtcTime) (p : Option MtcTime) → T (is_valid t) → (sequence_of_label t Forward p).current ≡ current_time t
current_forward t p h = moves_practice t Forward h

pub current_reverse : (t : MtcTime) (p : Option MtcTime) → T (is_valid t) → (sequence_of_label t Reverse p).current ≡ label_before t
current_reverse t p h = moved_back_one t h

-- The event of a data byte has its piece.
pub event_piece : (r : MtcReader) (n d : ℕ) → n < 8 → d < 16 → (event_heard r (data_byte n d)).piece ≡ n
event_piece r n d h k = omega arith

-- Every event has RP-004/008's boundary mark of its piece.
pub event_boundary : (r : MtcReader) (b : ℕ) → (event_heard r b).boundary ≡ is_boundary (event_heard r b).piece
event_boundary r b = refl

-- ---- eight bytes, read

-- Bytes, those heard among which are of eight pieces in a direction's order, are read as the label of their values.
module _ (r : MtcReader) (d : Direction) (bs : List ℕ) (v : Values) (h : Ready d r) (e : map split (heard bs) ≡ nibbles_in_order d v) where
  reports_are : reports_of (events r bs) ≡ silent 7 ++ (Some (sequence_of_label (assembled v) d r.previous) ∷ [])
  unfolding run
  reports_are =
      reports_run bs r h.sound
      ∙ ap (run r) (e ∙ sym (append-nil (nibbles_in_order d v)))
      ∙ round v r d h.sound.eight h.starts []

  leaves : after_bytes r bs ≡ left v d
  leaves = bytes_leave bs r h.sound ∙ ap (leave r) e ∙ round_left v r d h.sound.eight h.starts

  values_read : ReadsLabel d bs (assembled v) r
  values_read =
      record {
        reports = reports_are;
        ready =
            record {
              sound = bytes_sound bs r h.sound;
              starts = subst (λ (x : MtcReader). Starts d (control x)) (sym leaves) (starts_next d (first d) (Some d));
            };
        previous = ap (λ (x : MtcReader). x.previous) leaves;
      }

-- A reader that is ready for a sequence reads it.
pub sequence_read : (r : MtcReader) (d : Direction) (t : MtcTime) (bs : List ℕ) → Ready d r → InWidths t → heard bs ≡ sequence d t
    → ReadsLabel d bs t r
sequence_read r d t bs h w k =
    let e : map split (heard bs) ≡ nibbles_in_order d (values t) = ap (map split) (k ∙ sym (in_practice t d w)) ∙ split_pieces t d in
    subst (λ (u : MtcTime). ReadsLabel d bs u r) (raw_values t w) (values_read r d bs (values t) h e)

-- The bytes of a sequence are heard.
pub sequence_heard : (d : Direction) (t : MtcTime) → InWidths t → heard (sequence d t) ≡ sequence d t
unfolding bytes_sent
sequence_heard d t w =
    let g : MtcGenerator = sent_at t d (final d) in
    let e : bytes_sent 8 (run_from g t d) ≡ sequence d t = sends_first g t d 0 ∙ append-nil (in_order d (pieces t)) ∙ in_practice t d w in
    all_heard (sequence d t) (subst (λ (l : List ℕ). T (list_all is_heard l)) e (sent_heard (run_from g t d) 8))

length_map : {A B : Type 0} (f : A → B) (l : List A) → length (map f l) ≡ length l
length_map f [] = refl
length_map f (x ∷ l) = ap suc (length_map f l)

-- Eight bytes by their values, where their pieces are in a direction's order.
module _ (a b c d e f g h : ℕ) where
  abbrev eight_bytes : List ℕ
  eight_bytes = a ∷ b ∷ c ∷ d ∷ e ∷ f ∷ g ∷ h ∷ []

  -- The values of eight bytes, by piece.
  abbrev values_in : Direction → Values
  values_in Forward =
      record {
        v0 = value_of a;
        v1 = value_of b;
        v2 = value_of c;
        v3 = value_of d;
        v4 = value_of e;
        v5 = value_of f;
        v6 = value_of g;
        v7 = value_of h;
      }
  values_in Reverse =
      record {
        v0 = value_of h;
        v1 = value_of g;
        v2 = value_of f;
        v3 = value_of e;
        v4 = value_of d;
        v5 = value_of c;
        v6 = value_of b;
        v7 = value_of a;
      }

  split_eight : (w : Direction) → map piece_of eight_bytes ≡ eight_pieces w → map split eight_bytes ≡ nibbles_in_order w (values_in w)
  split_eight w k = go w (at 0) (at 1) (at 2) (at 3) (at 4) (at 5) (at 6) (at 7)
    where
      at : (i : ℕ) → get_or (map piece_of eight_bytes) i 0 ≡ get_or (eight_pieces w) i 0
      at i = ap (λ (l : List ℕ). get_or l i 0) k

      go : (w : Direction) → piece_of a ≡ get_or (eight_pieces w) 0 0 → piece_of b ≡ get_or (eight_pieces w) 1 0
          → piece_of c ≡ get_or (eight_pieces w) 2 0 → piece_of d ≡ get_or (eight_pieces w) 3 0 → piece_of e ≡ get_or (eight_pieces w) 4 0
          → piece_of f ≡ get_or (eight_pieces w) 5 0 → piece_of g ≡ get_or (eight_pieces w) 6 0 → piece_of h ≡ get_or (eight_pieces w) 7 0
          → map split eight_bytes ≡ nibbles_in_order w (values_in w)
      go Forward p q r s t u v w =
          λ i.
          nibble (p i) (value_of a)
          ∷ nibble (q i) (value_of b)
          ∷ nibble (r i) (value_of c)
          ∷ nibble (s i) (value_of d)
          ∷ nibble (t i) (value_of e)
          ∷ nibble (u i) (value_of f)
          ∷ nibble (v i) (value_of g)
          ∷ nibble (w i) (value_of h)
          ∷ []
      go Reverse p q r s t u v w =
          λ i.
          nibble (p i) (value_of a)
          ∷ nibble (q i) (value_of b)
          ∷ nibble (r i) (value_of c)
          ∷ nibble (s i) (value_of d)
          ∷ nibble (t i) (value_of e)
          ∷ nibble (u i) (value_of f)
          ∷ nibble (v i) (value_of g)
          ∷ nibble (w i) (value_of h)
          ∷ []

-- It reads eight pieces in the direction's order, whatever their nibbles are.
pub any_nibbles_read : (r : MtcReader) (d : Direction) (bs : List ℕ) → Ready d r → map piece_of (heard bs) ≡ eight_pieces d
    → ReadsLabel d bs (label_of_bytes d (heard bs)) r
any_nibbles_read r d bs h k = go d (heard bs) refl h k (eight_of (heard bs) (sym (length_map piece_of (heard bs)) ∙ ap length k ∙ all d))
  where
    all : (w : Direction) → length (eight_pieces w) ≡ 8
    all Forward = refl
    all Reverse = refl

    go : (w : Direction) (l : List ℕ) → heard bs ≡ l → Ready w r → map piece_of l ≡ eight_pieces w → Eight l → ReadsLabel w bs (label_of_bytes w l) r
    go Forward l q h k (eight a b c d e f g i) =
        values_read r Forward bs (values_in a b c d e f g i Forward) h (ap (map split) q ∙ split_eight a b c d e f g i Forward k)
    go Reverse l q h k (eight a b c d e f g i) =
        values_read r Reverse bs (values_in a b c d e f g i Reverse) h (ap (map split) q ∙ split_eight a b c d e f g i Reverse k)

-- Bits that the page reserves do not count.
pub reserved_ignored : (a b c d e f g h : ℕ)
    → raw_of (a ∷ b ∷ c ∷ d ∷ e ∷ f ∷ g ∷ h ∷ []) ≡ raw_of (a ∷ b % 2 ∷ c ∷ d % 4 ∷ e ∷ f % 4 ∷ g ∷ h % 8 ∷ [])
reserved_ignored a b c d e f g h =
    let et : (g + h * 16) / 32 % 4 ≡ (g + h % 8 * 16) / 32 % 4 = omega arith in
    let eh : (g + h * 16) % 32 ≡ (g + h % 8 * 16) % 32 = omega arith in
    let em : (e + f * 16) % 64 ≡ (e + f % 4 * 16) % 64 = omega arith in
    let es : (c + d * 16) % 64 ≡ (c + d % 4 * 16) % 64 = omega arith in
    let ef : (a + b * 16) % 32 ≡ (a + b % 2 * 16) % 32 = omega arith in
    λ i. label (rate_at (et i)) (eh i) (em i) (es i) (ef i)

-- ---- ready readers

-- A fresh reader is ready for either direction.
pub fresh_ready : (d : Direction) → Ready d fresh
fresh_ready d = record { sound = fresh_sound; starts = starts_anew d 0 0 None (inl refl) }

-- So is a reader that just got a full message, unless it was going the other way.
pub full_ready : (r : MtcReader) (d : Direction) (t : MtcTime) → Sound r → NotAgainst d r.direction → Ready d (after_full_message r t)
full_ready r d t h n =
    record {
      sound = full_sound r h t;
      starts =
          starts_anew d 0 (or_fresh r).first (or_fresh r).direction (subst (λ (x : MtcReader). NotAgainst d x.direction) (sym (as_is r h)) n);
    }

-- So is one that just got the direction's last piece, whatever calls came before it.
pub last_piece_ready : (cs : List Call) (b : ℕ) (d : Direction) → T (is_heard b) → piece_of b ≡ final d
    → Ready d (after_byte (after_calls fresh cs) b)
unfolding newest after_calls
last_piece_ready cs b d h e =
    let r : MtcReader = after_calls fresh cs in
    let p = past (byte b ∷ []) (newest [] cs) r (past cs [] fresh fresh_past) in
    let last : (after_byte r b).last ≡ Some (final d) =
    ap (λ (x : MtcReader). x.last) (heard_byte r b h).1 ∙ last_is _ _ _ ∙ ap Some e in
    record { sound = p.sound; starts = starts_after_last d _ (after_byte r b) p.shape last }

-- ---- a discontinuity

five_parts : (a b c d e : Bool) → T (a && (b && (c && (d && e)))) → T a × T b × T c × T d × T e
five_parts false b c d e h = absurd h
five_parts true false c d e h = absurd h
five_parts true true false d e h = absurd h
five_parts true true true false e h = absurd h
five_parts true true true true e h = (tt, tt, tt, tt, h)

-- The two labels that the reader compares are one where its test says so.
pub same_label : (t u : MtcTime) → T (same_time t u) → t ≡ u
same_label t u h =
    let k = five_parts (eqb t.hours u.hours) (eqb t.minutes u.minutes) (eqb t.seconds u.seconds)
    (eqb t.frames u.frames) (eqb (bits_of t.rate) (bits_of u.rate)) h in
    let r : t.rate ≡ u.rate =
    sym (rate_back t.rate) ∙ ap type_of (eqb→eq (bits_of t.rate) (bits_of u.rate) k.4) ∙ rate_back u.rate in
    λ i.
    record {
      hours = eqb→eq t.hours u.hours k.0 i;
      minutes = eqb→eq t.minutes u.minutes k.1 i;
      seconds = eqb→eq t.seconds u.seconds k.2 i;
      frames = eqb→eq t.frames u.frames k.3 i;
      rate = r i;
    }
