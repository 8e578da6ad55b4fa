-- A label that comes a sequence after the previous one, with the current one, all in one second; and the words with both labels of a
-- report. Assumes nothing.
use Rattle.std.specs.Prelude.{Option, Some}
use Prim.Native.Nat.{ℕ, ◌+◌, ◌-◌, ◌*◌, ◌/◌, ◌%◌, ◌≤◌, ◌<◌}
use mathlib.Core.Bool.{true}
use mathlib.Core.List.{List}
use mathlib.Core.Path.{◌≡◌, refl, sym, ap, ◌∙◌}
use native.Mathlib.Omega.{arith}
use borrow.Author.Tests.{eq-eqb}
use lib.Dec.{lit≤}
use lib.IntN.{pos, negsuc}
use lib.ListN.{length, get_or, set}
use Rattle.fast_mtc.specs.Clauses.{SequenceEnded, SteadyLabel, steady}
use Rattle.fast_mtc.specs.Reader.{label_in, time_in, nibbles_in, reader_in, flat_event}
use Rattle.fast_mtc.proofs.LabelWords.{marked}
use Rattle.fast_mtc.proofs.LabelShortWays.{two_fit, frames_earlier}
use Rattle.fast_mtc.proofs.SpelledLists.{by_words}
use Rattle.labels.proofs.Laws.{fps_small, two_later}
use Rattle.labels.specs.St12.{label, frames_per_second}
use Rattle.labels.specs.Time.{add_frames, bits_of}
use Rattle.labels.specs.declared.time.MtcTime.{MtcTime}
use Rattle.mtc.proofs.Laws.{sequence_of_lem}
use Rattle.mtc.specs.Generator.{final}
use Rattle.mtc.specs.Reader.{raw_of, direction_of, sequence_of_label, same_time, sequence_of, event_with}
use Rattle.mtc.specs.declared.generator.Direction.{Direction}
use Rattle.mtc.specs.declared.generator.Direction.TheVariants.{Forward, Reverse}
use Rattle.mtc.specs.declared.reader.MtcSequence.{MtcSequence}

same_time_self : (t : MtcTime) → same_time t t ≡ true
same_time_self t =
    rw (eq-eqb t.hours t.hours refl, eq-eqb t.minutes t.minutes refl, eq-eqb t.seconds t.seconds refl, eq-eqb t.frames t.frames refl, eq-eqb (bits_of t.rate) (bits_of t.rate) refl)

-- ---- the previous label's word

frames_in : (t : MtcTime) (w : ℕ) → label_in t.rate w ≡ t → w / 16777216 % 256 ≡ t.frames
unfolding label_in
frames_in t w e = ap (λ (u : MtcTime). u.frames) e

-- The bytes below the frames.
byte_0 : (n : ℕ) → n % 256 ≡ n % 16777216 % 256
byte_0 n = omega arith

mod_over : (x q : ℕ) → (x + q * 256) % 256 ≡ x % 256
mod_over x q = omega arith

byte_1 : (n : ℕ) → n / 256 % 256 ≡ n % 16777216 / 256 % 256
byte_1 n =
    let a : n / 256 ≡ n % 16777216 / 256 + n / 16777216 * 256 * 256 = omega arith in
    ap (λ (x : ℕ). x % 256) a ∙ mod_over (n % 16777216 / 256) (n / 16777216 * 256)

byte_2 : (n : ℕ) → n / 65536 % 256 ≡ n % 16777216 / 65536 % 256
byte_2 n =
    let a : n / 65536 ≡ n % 16777216 / 65536 + n / 16777216 * 256 = omega arith in
    ap (λ (x : ℕ). x % 256) a ∙ mod_over (n % 16777216 / 65536) (n / 16777216)

-- A word with other frames is that of the label with these.
word_at : (t : MtcTime) (w v g : ℕ) → label_in t.rate w ≡ t → v % 16777216 ≡ w % 16777216 → v / 16777216 % 256 ≡ g
    → label_in t.rate v ≡ label t.rate t.hours t.minutes t.seconds g
unfolding label_in
word_at t w v g e below above =
    let a : v % 256 ≡ w % 256 = byte_0 v ∙ ap (λ (x : ℕ). x % 256) below ∙ sym (byte_0 w) in
    let b : v / 256 % 256 ≡ w / 256 % 256 = byte_1 v ∙ ap (λ (x : ℕ). x / 256 % 256) below ∙ sym (byte_1 w) in
    let c : v / 65536 % 256 ≡ w / 65536 % 256 = byte_2 v ∙ ap (λ (x : ℕ). x / 65536 % 256) below ∙ sym (byte_2 w) in
    rw (a, b, c, above) (ap (λ (u : MtcTime). label t.rate u.hours u.minutes u.seconds g) e)

pub word_fits : (t : MtcTime) (w : ℕ) → label_in t.rate w ≡ t → 3 ≤ t.frames → 33554432 ≤ w
word_fits t w e h = omega (arith, frames_in t w e)

pub word_room : (t : MtcTime) (w : ℕ) → label_in t.rate w ≡ t → t.frames ≤ 27 → w < 4294967296 → w + 33554432 < 4294967296
word_room t w e h k = let f : w / 16777216 % 256 ≡ t.frames = frames_in t w e in omega arith

-- ---- what is told of it

module _ (t : MtcTime) (w m p : ℕ) (e : label_in t.rate w ≡ t) (hh : t.hours ≤ 23) (hm : t.minutes ≤ 59) (hs : t.seconds ≤ 59)
    (hl : 3 ≤ t.frames) (hf : t.frames + 2 < frames_per_second t.rate) (hw : w < 4294967296) (em : m ≡ 1 + 2 * bits_of t.rate) where
  abbrev at : ℕ → MtcTime
  at f = label t.rate t.hours t.minutes t.seconds f

  few : frames_per_second t.rate ≤ 30
  few = fps_small t.rate

  steady_forward : p ≡ w - 33554432 → sequence_of_label t Forward (time_in m p) ≡ steady Forward t
  unfolding steady
  steady_forward ep =
      let f : w / 16777216 % 256 ≡ t.frames = frames_in t w e in
      let back : t.frames - 2 + 2 ≡ t.frames = omega arith in
      let before : time_in m p ≡ Some (at (t.frames - 2))
      = marked (at (t.frames - 2)) m p em (rw ep (word_at t w (w - 33554432) (t.frames - 2) e (omega arith) (omega arith))) in
      let here : add_frames (at (t.frames - 2)) (pos 2) ≡ t
      = sym (two_later t.rate t.hours t.minutes t.seconds (t.frames - 2) hh hm hs (omega arith)) ∙ rw back in
      let next : add_frames t (pos 2) ≡ at (t.frames + 2)
      = sym (two_later t.rate t.hours t.minutes t.seconds t.frames hh hm hs hf) in
      rw (before, here, next, same_time_self t)

  steady_reverse : p ≡ w + 33554432 → sequence_of_label t Reverse (time_in m p) ≡ steady Reverse t
  unfolding steady
  steady_reverse ep =
      let f : w / 16777216 % 256 ≡ t.frames = frames_in t w e in
      let more : t.frames + 2 - 2 ≡ t.frames = omega arith in
      let before : time_in m p ≡ Some (at (t.frames + 2))
      = marked (at (t.frames + 2)) m p em (rw ep (word_at t w (w + 33554432) (t.frames + 2) e (omega arith) (omega (arith, few)))) in
      let here : add_frames (at (t.frames + 2)) (negsuc 1) ≡ t
      = sym (frames_earlier t.rate t.hours t.minutes t.seconds (t.frames + 2) 2 hh hm hs (lit≤ tt) (omega arith) hf) ∙ rw more in
      let next : add_frames t (negsuc 0) ≡ at (t.frames - 1)
      = sym (frames_earlier t.rate t.hours t.minutes t.seconds t.frames 1 hh hm hs (lit≤ tt) hl (omega arith)) in
      rw (before, here, next, same_time_self t)

-- ---- as the code finds it

module _ (ws : List ℕ) (t : MtcTime) (w k x : ℕ) (d : Direction) (e : label_in t.rate w ≡ t)
    (hd : (t.hours ≤ 23) × ((t.minutes ≤ 59) × (t.seconds ≤ 59))) (hl : 3 ≤ t.frames) (ek : k ≡ frames_per_second t.rate)
    (hk : t.frames < k - 2) (hw : w < 4294967296) (em : get_or ws 11 0 ≡ x) (ex : x ≡ 1 + 2 * bits_of t.rate) where
  more : t.frames + 2 < frames_per_second t.rate
  more = omega (arith, two_fit t.rate)

  pub told_forward : d ≡ Forward → get_or ws 12 0 ≡ w - 33554432 → SteadyLabel ws t d
  told_forward ed ep =
      record {
        most = omega (arith, fps_small t.rate);
        least = omega arith;
        report = rw ed (steady_forward t w (get_or ws 11 0) (get_or ws 12 0) e hd.0 hd.1.0 hd.1.1 hl more hw (em ∙ ex) ep);
      }

  pub told_reverse : d ≡ Reverse → get_or ws 12 0 ≡ w + 33554432 → SteadyLabel ws t d
  told_reverse ed ep =
      record {
        most = omega (arith, fps_small t.rate);
        least = omega arith;
        report = rw ed (steady_reverse t w (get_or ws 11 0) (get_or ws 12 0) e hd.0 hd.1.0 hd.1.1 hl more hw (em ∙ ex) ep);
      }

-- ---- the report of words that hold eight pieces

pub reports_sequence : (ws : List ℕ) (d : Direction) (raw : MtcTime) (m : Option MtcTime) (s : MtcSequence) → (reader_in ws).direction ≡ Some d
    → raw ≡ raw_of (nibbles_in ws) → m ≡ (reader_in ws).previous → s ≡ sequence_of_label raw d m → s ≡ sequence_of (reader_in ws)
unfolding reader_in
reports_sequence ws d raw m s ed er em es =
    es ∙ rw (er, em) (sym (sym (sequence_of_lem (reader_in ws)) ∙ ap (λ (x : Option Direction). sequence_of_label (raw_of (nibbles_in ws)) (direction_of x) (reader_in ws).previous) ed))

-- The words with both labels.
with_labels : (ws : List ℕ) (a b c d : ℕ) (t u : MtcTime) → length ws ≡ 15 → time_in a b ≡ Some t → time_in c d ≡ Some u
    → reader_in (set (set (set (set (set ws 10 1) 11 a) 12 b) 13 c) 14 d)
    ≡ record { nibbles = (reader_in ws).nibbles; count = (reader_in ws).count; first = (reader_in ws).first; last = (reader_in ws).last; direction = (reader_in ws).direction; locked = true; running = (reader_in ws).running; previous = Some t; time = Some u }
unfolding reader_in nibbles_in
with_labels ws a b c d t u e et eu =
    by_words
    (λ (l : List ℕ). reader_in (set (set (set (set (set l 10 1) 11 a) 12 b) 13 c) 14 d) ≡ record { nibbles = (reader_in l).nibbles; count = (reader_in l).count; first = (reader_in l).first; last = (reader_in l).last; direction = (reader_in l).direction; locked = true; running = (reader_in l).running; previous = Some t; time = Some u })
    ws e (rw (et, eu))

pub words_complete : (ws : List ℕ) (d : Direction) (s : MtcSequence) (x a b c w : ℕ) → length ws ≡ 15
    → a ≡ 1 + 2 * bits_of s.raw.rate → label_in s.raw.rate b ≡ s.raw → c ≡ 1 + 2 * bits_of s.current.rate
    → label_in s.current.rate w ≡ s.current → x ≡ flat_event (event_with (final d) (Some s)) → s ≡ sequence_of (reader_in ws)
    → SequenceEnded (final d) ws x (set (set (set (set (set ws 10 1) 11 a) 12 b) 13 c) 14 w)
words_complete ws d s x a b c w e ea eb ec ew ex es =
    record {
      event = ex ∙ ap (λ (q : MtcSequence). flat_event (event_with (final d) (Some q))) es;
      reader = with_labels ws a b c w s.raw s.current e (marked s.raw a b ea eb) (marked s.current c w ec ew) ∙ rw es;
    }
