-- A list of bytes, one by one, and what its counts mean. Assumes nothing.
use Rattle.mtc.specs.declared.reader.MtcSequence.{MtcSequence}
use Rattle.std.specs.Prelude.{Option, Some, None}
use Prim.Native.Nat.{ℕ, zero, suc, ◌+◌, ◌/◌, ◌≤◌, ◌<◌}
use mathlib.Core.Path.{◌≡◌, refl, sym, subst, ap, ap₂, ◌∙◌}
use mathlib.Core.Bool.{Bool, true, false, not, cond}
use mathlib.Core.List.{List, [], ◌∷◌, map}
use native.Mathlib.Numerals.{add-one}
use native.Mathlib.Omega.{arith}
use borrow.Author.Tests.{lt-leb}
use Rattle.std.proofs.lemmas.Bool.{leb-false}
use lib.Dec.{T, lit≤}
use lib.ListN.{length, drop, get_or, drop_of_length-le}
use lib.Seq.{drop-cons}
use Rattle.fast_mtc.proofs.Laws.{event_small, given_number, refused_number, event_report, none_reported, some_reported, jump_reported, report_back, kept_back}
use Rattle.fast_mtc.specs.Reader.{flat_report, flat_event, flat_byte_answer, refused_from, reader_in, report_in}
use Rattle.fimbrast.specs.Feed.{Fed, unfed, fed_after, fed_refused, fed_answer, fed_by, fed_all, fed, flat_fed, flat_counted, reports_in, jump, later_report, total, last_report, Feeds}
use Rattle.fimbrast.specs.declared.feed.FlatFed.{FlatFed}
use Rattle.mtc.proofs.Laws.{Sound, as_is, byte_sound, report_labels, heard_byte, refused_byte, calls_none, calls_more, events_more, events_same}
use Rattle.mtc.specs.QuarterFrame.{piece_of, is_heard, heard, unheard}
use Rattle.mtc.specs.Reader.{ReportLabels, after_heard, event_heard, after_byte, event_of}
use Rattle.mtc.specs.Stream.{byte, after_calls, events}
use Rattle.mtc.specs.declared.reader.MtcEvent.{MtcEvent}
use Rattle.mtc.specs.declared.reader.MtcReader.{MtcReader}
use Rattle.universal.proofs.Tests.{holds_true}
use Rattle.universal.specs.Refusals.{Answer, gives, refused, refusal}

-- ---- the loop

fed_turn : (f : Fed) (bs : List ℕ) (i : ℕ) → i < length bs → fed_all f (drop i bs) ≡ fed_all (fed_by f (get_or bs i 0)) (drop (i + 1) bs)
unfolding fed_all
fed_turn f bs i h = rw (add-one, drop-cons bs i 0)

fed_end : (f : Fed) (bs : List ℕ) (i : ℕ) → length bs ≤ i → fed_all f (drop i bs) ≡ f
unfolding fed_all
fed_end f bs i h = rw (drop_of_length-le bs h)

-- A byte adds at most one to each count.
at_most_one : (b : Bool) → cond b 1 0 ≤ 1
at_most_one true = lit≤ tt
at_most_one false = lit≤ tt

record AtMostOneMore (f g : Fed) : Type 0 where
  reports : g.reports ≤ f.reports + 1
  discontinuities : g.discontinuities ≤ f.discontinuities + 1
  refused : g.refused ≤ f.refused + 1

report_adds : (f : Fed) (r : MtcReader) (s : Option MtcSequence) → AtMostOneMore f (fed_after f r s)
unfolding fed_after
report_adds f r None = record { reports = omega arith; discontinuities = omega arith; refused = omega arith }
report_adds f r (Some s) =
    let h : cond s.discontinuity 1 0 ≤ 1 = at_most_one s.discontinuity in
    record { reports = omega arith; discontinuities = omega (arith, h); refused = omega arith }

fed_adds : (f : Fed) (b : ℕ) → AtMostOneMore f (fed_by f b)
unfolding fed_by fed_refused
fed_adds f b = go (after_byte f.reader b) (event_of f.reader b)
  where
    go : (r : MtcReader) (a : Answer MtcEvent) → AtMostOneMore f (fed_answer f r a)
    go r (gives e) = report_adds f r e.sequence
    go r (refused k) = record { reports = omega arith; discontinuities = omega arith; refused = omega arith }

-- A byte that is heard, and one that is not.
fed_heard : (f : Fed) (b : ℕ) → T (is_heard b) → fed_by f b ≡ fed_after f (after_heard f.reader b) (event_heard f.reader b).sequence
unfolding fed_by
fed_heard f b h = let x = heard_byte f.reader b h in ap₂ (fed_answer f) x.1 x.0

fed_unheard : (f : Fed) (b : ℕ) → T (not (is_heard b)) → fed_by f b ≡ fed_refused f f.reader
unfolding fed_by
fed_unheard f b h = let x = refused_byte f.reader b h in ap₂ (fed_answer f) x.1 x.0

module _ (f : Fed) (r : MtcReader) where
  counted_reader : (s : Option MtcSequence) → (fed_after f r s).reader ≡ r
  unfolding fed_after
  counted_reader None = refl
  counted_reader (Some s) = refl

  counted_one : (s : Option MtcSequence) → (fed_after f r s).reports ≡ f.reports + reports_in s
  unfolding fed_after
  counted_one None = omega arith
  counted_one (Some s) = refl

  counted_jump : (s : Option MtcSequence) → (fed_after f r s).discontinuities ≡ f.discontinuities + jump s
  unfolding fed_after
  counted_jump None = omega arith
  counted_jump (Some s) = refl

  counted_last : (s : Option MtcSequence) → (fed_after f r s).last ≡ later_report f.last s
  unfolding fed_after
  counted_last None = refl
  counted_last (Some s) = refl

  counted_refusals : (s : Option MtcSequence) → (fed_after f r s).refused ≡ f.refused
  unfolding fed_after
  counted_refusals None = refl
  counted_refusals (Some s) = refl

-- Either leaves the reader that the call of `receive` leaves.
left_by : (f : Fed) (b : ℕ) → (fed_by f b).reader ≡ after_byte f.reader b
unfolding fed_by fed_refused
left_by f b = go (after_byte f.reader b) (event_of f.reader b)
  where
    go : (r : MtcReader) (a : Answer MtcEvent) → (fed_answer f r a).reader ≡ r
    go r (gives e) = counted_reader f r e.sequence
    go r (refused k) = refl

-- The number of a byte's answer, counted.
report_of_number : (f : Fed) (r : MtcReader) (s : Option MtcSequence) (e : ℕ) → e / 512 ≡ flat_report s → e < refused_from
    → flat_counted (flat_fed f) e ≡ flat_fed (fed_after f r s)
unfolding flat_counted flat_fed fed_after
report_of_number f r None e h l = rw (h, none_reported)
report_of_number f r (Some s) e h l = rw (lt-leb refused_from e l, h, some_reported s, jump_reported s)

number_counted : (f : Fed) (b : ℕ) → flat_counted (flat_fed f) (flat_byte_answer (event_of f.reader b)) ≡ flat_fed (fed_by f b)
unfolding fed_by flat_counted flat_fed fed_refused
number_counted f b = go (is_heard b)
  where
    heard_counted : flat_counted (flat_fed f) (flat_event (event_heard f.reader b)) ≡ flat_fed (fed_after f (after_heard f.reader b) (event_heard f.reader b).sequence)
    heard_counted =
        report_of_number f (after_heard f.reader b) (event_heard f.reader b).sequence (flat_event (event_heard f.reader b))
        (event_report (piece_of b) (event_heard f.reader b).sequence (omega arith)) (event_small (piece_of b) (event_heard f.reader b).sequence (omega arith))

    go : (t : Bool) → flat_counted (flat_fed f) (flat_byte_answer (cond t (gives (event_heard f.reader b)) (refused (refusal 13))))
        ≡ flat_fed (fed_answer f (cond t (after_heard f.reader b) f.reader) (cond t (gives (event_heard f.reader b)) (refused (refusal 13))))
    go true = ap (flat_counted (flat_fed f)) (given_number (event_heard f.reader b)) ∙ heard_counted
    go false = ap (flat_counted (flat_fed f)) (refused_number (refusal 13))

-- After i bytes: the counts and the reader's words stand for a state from which the rest gives what all bytes give.
pub record FedSoFar (ws₀ bs rs : List ℕ) (f : FlatFed) (i : ℕ) : Type 0 where
  pub state : Fed
  pub flat : f ≡ flat_fed state
  pub reader : reader_in rs ≡ state.reader
  pub reports : f.reports ≤ i
  pub discontinuities : f.discontinuities ≤ i
  pub refused : f.refused ≤ i
  pub rest : fed (reader_in ws₀) bs ≡ fed_all state (drop i bs)
  pub kept : heard bs ≡ [] → rs ≡ ws₀

pub before_all : (bs rs : List ℕ) (f : FlatFed) → f ≡ flat_fed (unfed (reader_in rs)) → FedSoFar rs bs rs f 0
unfolding fed flat_fed
before_all bs rs f e =
    record {
      state = unfed (reader_in rs);
      flat = e;
      reader = refl;
      reports = rw e (lit≤ tt);
      discontinuities = rw e (lit≤ tt);
      refused = rw e (lit≤ tt);
      rest = refl;
      kept = λ n. refl;
    }

-- Where none is heard, each is 80H or more.
none_heard : (bs : List ℕ) (i : ℕ) → heard bs ≡ [] → i < length bs → 0x80 ≤ get_or bs i 0
none_heard [] i h l = absurd (omega (arith, l))
none_heard (b ∷ bs) i h l = go (is_heard b) refl h i l (none_heard bs)
  where
    go : (t : Bool) → is_heard b ≡ t → cond t (b ∷ heard bs) (heard bs) ≡ [] → (i : ℕ) → i < length (b ∷ bs)
        → ((j : ℕ) → heard bs ≡ [] → j < length bs → 0x80 ≤ get_or bs j 0) → 0x80 ≤ get_or (b ∷ bs) i 0
    go true e n i l more =
        let k : suc (length (heard bs)) ≡ 0 = ap (λ (x : List ℕ). length x) n in
        absurd (omega (arith, k))
    go false e n zero l more = leb-false b 0x7F e
    go false e n (suc i) l more = more i n (omega (arith, l))

pub after_one : (ws₀ bs rs qs : List ℕ) (f g : FlatFed) (i e : ℕ) → FedSoFar ws₀ bs rs f i → i < length bs
    → e ≡ flat_byte_answer (event_of (reader_in rs) (get_or bs i 0)) → reader_in qs ≡ after_byte (reader_in rs) (get_or bs i 0)
    → (0x80 ≤ get_or bs i 0 → qs ≡ rs) → g ≡ flat_counted f e → FedSoFar ws₀ bs qs g (i + 1)
unfolding flat_fed
after_one ws₀ bs rs qs f g i e a h eq el same_words eg =
    let b : ℕ = get_or bs i 0 in
    let s : Fed = a.state in
    let t : Fed = fed_by s b in
    let said : e ≡ flat_byte_answer (event_of s.reader b) = eq ∙ ap (λ (r : MtcReader). flat_byte_answer (event_of r b)) a.reader in
    let same : g ≡ flat_fed t = eg ∙ ap₂ flat_counted a.flat said ∙ number_counted s b in
    let m : AtMostOneMore s t = fed_adds s b in
    let n₀ : s.reports ≤ i = subst (λ (x : FlatFed). x.reports ≤ i) a.flat a.reports in
    let d₀ : s.discontinuities ≤ i = subst (λ (x : FlatFed). x.discontinuities ≤ i) a.flat a.discontinuities in
    let k₀ : s.refused ≤ i = subst (λ (x : FlatFed). x.refused ≤ i) a.flat a.refused in
    record {
      state = t;
      flat = same;
      reader = el ∙ ap (λ (r : MtcReader). after_byte r b) a.reader ∙ sym (left_by s b);
      reports = subst (λ (x : FlatFed). x.reports ≤ i + 1) (sym same) (omega (arith, m.reports, n₀));
      discontinuities = subst (λ (x : FlatFed). x.discontinuities ≤ i + 1) (sym same) (omega (arith, m.discontinuities, d₀));
      refused = subst (λ (x : FlatFed). x.refused ≤ i + 1) (sym same) (omega (arith, m.refused, k₀));
      rest = a.rest ∙ fed_turn s bs i h;
      kept = λ n. same_words (none_heard bs i n h) ∙ a.kept n;
    }

pub after_all : (ws₀ bs rs : List ℕ) (f : FlatFed) (i : ℕ) → FedSoFar ws₀ bs rs f i → length bs ≤ i
    → (f ≡ flat_fed (fed (reader_in ws₀) bs)) × (reader_in rs ≡ (fed (reader_in ws₀) bs).reader) × (heard bs ≡ [] → rs ≡ ws₀)
after_all ws₀ bs rs f i a h =
    let e : fed (reader_in ws₀) bs ≡ a.state = a.rest ∙ fed_end a.state bs i h in
    (a.flat ∙ ap flat_fed (sym e), a.reader ∙ ap (λ (x : Fed). x.reader) (sym e), a.kept)

-- ---- what it means

-- What a list leaves, from a state on.
record CountsFrom (f : Fed) (bs : List ℕ) : Type 0 where
  reader : (fed_all f bs).reader ≡ after_calls f.reader (map byte bs)
  reports : (fed_all f bs).reports ≡ f.reports + total reports_in (events f.reader bs)
  discontinuities : (fed_all f bs).discontinuities ≡ f.discontinuities + total jump (events f.reader bs)
  last : (fed_all f bs).last ≡ last_report f.last (events f.reader bs)
  refused : (fed_all f bs).refused ≡ f.refused + length (unheard bs)

-- The last report is whole in its number and the reader, after a byte and after all.
abbrev ReportWhole : Option MtcSequence → MtcReader → Type 0
ReportWhole m r = report_in r (flat_report m) ≡ m

whole_later : (before left : MtcReader) (m s : Option MtcSequence) → ReportLabels s before left → ReportWhole m before → ReportWhole (later_report m s) left
whole_later before left m (Some s) h w = report_back (Some s) before left h
whole_later before left None None h w = report_back None before left h
whole_later before left (Some m) None h w = kept_back m before left h w

record WholeAfter (f : Fed) : Type 0 where
  sound : Sound f.reader
  whole : ReportWhole f.last f.reader

whole_by : (f : Fed) (b : ℕ) → WholeAfter f → WholeAfter (fed_by f b)
unfolding fed_refused
whole_by f b w = go (is_heard b) refl
  where
    e : Option MtcSequence
    e = (event_heard f.reader b).sequence

    go : (t : Bool) → is_heard b ≡ t → WholeAfter (fed_by f b)
    go false k = rw (fed_unheard f b (rw k tt)) (record { sound = w.sound; whole = w.whole })
    go true k =
        let i : T (is_heard b) = rw k tt in
        let q : (fed_after f (after_heard f.reader b) e).reader ≡ after_heard f.reader b = counted_reader f (after_heard f.reader b) e in
        let l : (fed_after f (after_heard f.reader b) e).last ≡ later_report f.last e = counted_last f (after_heard f.reader b) e in
        let s : Sound (after_heard f.reader b) = subst Sound (heard_byte f.reader b i).1 (byte_sound f.reader w.sound b) in
        let h : ReportLabels e f.reader (after_heard f.reader b)
        = subst (λ (r : MtcReader). ReportLabels e r (after_heard f.reader b)) (as_is f.reader w.sound) (report_labels f.reader b) in
        rw (fed_heard f b i)
        (record {
          sound = subst Sound (sym q) s;
          whole = rw (q, l) (whole_later f.reader (after_heard f.reader b) f.last e h w.whole);
        })

whole_from : (f : Fed) (bs : List ℕ) → WholeAfter f → ReportWhole (fed_all f bs).last (fed_all f bs).reader
unfolding fed_all
whole_from f [] w = w.whole
whole_from f (b ∷ bs) w = whole_from (fed_by f b) bs (whole_by f b w)

-- One byte more, heard or not.
counts_heard : (f : Fed) (b : ℕ) (bs : List ℕ) → T (is_heard b) → CountsFrom (fed_by f b) bs → CountsFrom f (b ∷ bs)
unfolding fed_all total last_report
counts_heard f b bs h i =
    let r : MtcReader = after_heard f.reader b in
    let e : Option MtcSequence = (event_heard f.reader b).sequence in
    let x : fed_by f b ≡ fed_after f r e = fed_heard f b h in
    let q : (fed_by f b).reader ≡ r = ap (λ (y : Fed). y.reader) x ∙ counted_reader f r e in
    let n : (fed_by f b).reports ≡ f.reports + reports_in e = ap (λ (y : Fed). y.reports) x ∙ counted_one f r e in
    let d : (fed_by f b).discontinuities ≡ f.discontinuities + jump e = ap (λ (y : Fed). y.discontinuities) x ∙ counted_jump f r e in
    let l : (fed_by f b).last ≡ later_report f.last e = ap (λ (y : Fed). y.last) x ∙ counted_last f r e in
    let k : (fed_by f b).refused ≡ f.refused = ap (λ (y : Fed). y.refused) x ∙ counted_refusals f r e in
    let more : events f.reader (b ∷ bs) ≡ event_heard f.reader b ∷ events r bs = events_more f.reader b bs h in
    record {
      reader = i.reader ∙ ap (λ (s : MtcReader). after_calls s (map byte bs)) (left_by f b) ∙ sym (calls_more f.reader (byte b) (map byte bs));
      reports = i.reports ∙ rw (q, n, more) (omega arith);
      discontinuities = i.discontinuities ∙ rw (q, d, more) (omega arith);
      last = i.last ∙ rw (q, l, more);
      refused = i.refused ∙ rw (k, holds_true (is_heard b) h);
    }

counts_unheard : (f : Fed) (b : ℕ) (bs : List ℕ) → T (not (is_heard b)) → CountsFrom (fed_by f b) bs → CountsFrom f (b ∷ bs)
unfolding fed_all fed_refused
counts_unheard f b bs h i =
    let x : fed_by f b ≡ fed_refused f f.reader = fed_unheard f b h in
    let q : (fed_by f b).reader ≡ f.reader = ap (λ (y : Fed). y.reader) x in
    let n : (fed_by f b).reports ≡ f.reports = ap (λ (y : Fed). y.reports) x in
    let d : (fed_by f b).discontinuities ≡ f.discontinuities = ap (λ (y : Fed). y.discontinuities) x in
    let l : (fed_by f b).last ≡ f.last = ap (λ (y : Fed). y.last) x in
    let k : (fed_by f b).refused ≡ f.refused + 1 = ap (λ (y : Fed). y.refused) x in
    let same : events f.reader (b ∷ bs) ≡ events f.reader bs = events_same f.reader b bs h in
    record {
      reader = i.reader ∙ ap (λ (s : MtcReader). after_calls s (map byte bs)) (left_by f b) ∙ sym (calls_more f.reader (byte b) (map byte bs));
      reports = i.reports ∙ rw (q, n, same);
      discontinuities = i.discontinuities ∙ rw (q, d, same);
      last = i.last ∙ rw (q, l, same);
      refused = i.refused ∙ rw (k, holds_true (not (is_heard b)) h) (omega arith);
    }

counts_from : (f : Fed) (bs : List ℕ) → CountsFrom f bs
unfolding fed_all total last_report
counts_from f [] =
    let n = calls_none f.reader in
    record {
      reader = sym n.0;
      reports = rw n.1 (omega arith);
      discontinuities = rw n.1 (omega arith);
      last = rw n.1;
      refused = omega arith;
    }
counts_from f (b ∷ bs) = go (is_heard b) refl (counts_from (fed_by f b) bs)
  where
    go : (t : Bool) → is_heard b ≡ t → CountsFrom (fed_by f b) bs → CountsFrom f (b ∷ bs)
    go true k i = counts_heard f b bs (rw k tt) i
    go false k i = counts_unheard f b bs (rw k tt) i

pub feeds : (r : MtcReader) → Sound r → (bs : List ℕ) → Feeds r bs
unfolding fed
feeds r sound bs =
    let i = counts_from (unfed r) bs in
    record {
      reader = i.reader;
      reports = i.reports ∙ omega arith;
      discontinuities = i.discontinuities ∙ omega arith;
      last = i.last;
      refused = i.refused ∙ omega arith;
      labels = whole_from (unfed r) bs (record { sound = sound; whole = report_back None r r (refl, refl) });
    }
