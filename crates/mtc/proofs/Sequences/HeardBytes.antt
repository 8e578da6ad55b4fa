-- Bytes that are heard and bytes that are not: one by one, in lists of calls, and among those that a generator sends. Assumes nothing.
use Prim.Native.Nat.{ℕ, zero, suc, ◌≤◌, ◌+◌}
use mathlib.Core.Bool.{Bool, true, false, not, cond}
use mathlib.Core.List.{List, [], ◌∷◌, ◌++◌, map}
use mathlib.Core.Path.{◌≡◌, refl, ◌∙◌, ap, ap₂}
use native.Mathlib.Omega.{arith}
use lib.Dec.{T, le→leb, lit≤}
use lib.ListN.{get_or}
use Rattle.std.specs.Prelude.{filter}
use Rattle.std.specs.List.{list_all}
use Rattle.labels.specs.declared.time.MtcTime.{MtcTime}
use Rattle.mtc.specs.Generator.{known, piece_next, time_next, next_byte, after_next_byte}
use Rattle.mtc.specs.QuarterFrame.{piece_of, value_of, is_heard, heard, pieces}
use Rattle.mtc.specs.Reader.{or_fresh, event_with, after_piece, report_of, after_heard, event_heard, after_byte, event_of}
use Rattle.std.proofs.lemmas.Bool.{not-true}
use Rattle.mtc.specs.SourceReader.{after_source_calls, source_events, is_heard_call, heard_calls}
use Rattle.mtc.specs.Stream.{Call, byte, full, byte_answered, bytes_sent, after_call, after_calls, byte_answers, events_among, events, Answered, no_byte, by_event, by_13}
use Rattle.mtc.specs.declared.generator.MtcGenerator.{MtcGenerator}
use Rattle.mtc.specs.declared.reader.MtcEvent.{MtcEvent}
use Rattle.mtc.specs.declared.reader.MtcReader.{MtcReader}
use Rattle.universal.specs.Refusals.{Answer, gives, refused, refusal}
use Rattle.universal.proofs.Tests.{holds_true}
use Rattle.mtc.proofs.ReaderCalls.{both_l, both_r, both_hold}
use Rattle.labels.proofs.Laws.{bits_small}

-- ---- one byte

module _ (r : MtcReader) (b : ℕ) where
  pub heard_byte : T (is_heard b) → (event_of r b ≡ gives (event_heard r b)) × (after_byte r b ≡ after_heard r b)
  heard_byte h = let e : is_heard b ≡ true = holds_true (is_heard b) h in (rw e, rw e)

  pub refused_byte : T (not (is_heard b)) → (event_of r b ≡ refused (refusal 13)) × (after_byte r b ≡ r)
  refused_byte h = let e : is_heard b ≡ false = not-true (is_heard b) (holds_true (not (is_heard b)) h) in (rw e, rw e)

-- ---- lists

-- The events are those of the source's reader on the bytes that are heard.
pub events_of_heard : (r : MtcReader) (bs : List ℕ) → events r bs ≡ source_events r (heard bs)
unfolding byte_answers events_among source_events
events_of_heard r [] = refl
events_of_heard r (b ∷ bs) = go (is_heard b) (λ s. events_of_heard s bs)
  where
    go : (t : Bool) → ((s : MtcReader) → events s bs ≡ source_events s (heard bs))
        → events_among (cond t (gives (event_heard r b)) (refused (refusal 13)) ∷ byte_answers (cond t (after_heard r b) r) bs)
        ≡ source_events r (cond t (b ∷ heard bs) (heard bs))
    go true more = ap (λ (es : List MtcEvent). event_heard r b ∷ es) (more (after_heard r b))
    go false more = more r

-- The reader that calls leave is the one that the source's reader leaves on those that are heard.
pub left_by_heard : (r : MtcReader) (cs : List Call) → after_calls r cs ≡ after_source_calls r (heard_calls cs)
unfolding after_calls after_source_calls
left_by_heard r [] = refl
left_by_heard r (full t ∷ cs) = left_by_heard (after_call r (full t)) cs
left_by_heard r (byte b ∷ cs) = go (is_heard b) (λ s. left_by_heard s cs)
  where
    go : (t : Bool) → ((s : MtcReader) → after_calls s cs ≡ after_source_calls s (heard_calls cs))
        → after_calls (cond t (after_heard r b) r) cs ≡ after_source_calls r (cond t (byte b ∷ heard_calls cs) (heard_calls cs))
    go true more = more (after_heard r b)
    go false more = more r

-- Of a list whose items all pass a test, none is left out.
all_kept : {A : Type 0} (p : A → Bool) (xs : List A) → T (list_all p xs) → filter p xs ≡ xs
all_kept p [] h = refl
all_kept p (x ∷ xs) h =
    rw (holds_true (p x) (both_l (p x) (list_all p xs) h)) (ap (λ (l : List _). x ∷ l) (all_kept p xs (both_r (p x) (list_all p xs) h)))

pub all_heard : (bs : List ℕ) → T (list_all is_heard bs) → heard bs ≡ bs
all_heard = all_kept is_heard

-- So both readers are one where all are heard.
pub as_the_source : (r : MtcReader) (bs : List ℕ) → T (list_all is_heard bs) → byte_answers r bs ≡ map gives (source_events r bs)
unfolding byte_answers source_events
as_the_source r [] h = refl
as_the_source r (b ∷ bs) h =
    let x = heard_byte r b (both_l (is_heard b) (list_all is_heard bs) h) in
    ap₂ (λ (a : Answer MtcEvent) (s : MtcReader). a ∷ byte_answers s bs) x.0 x.1
    ∙ ap (λ (l : List (Answer MtcEvent)). gives (event_heard r b) ∷ l) (as_the_source (after_heard r b) bs (both_r (is_heard b) (list_all is_heard bs) h))

pub left_as_the_source : (r : MtcReader) (cs : List Call) → T (list_all is_heard_call cs) → after_calls r cs ≡ after_source_calls r cs
left_as_the_source r cs h = left_by_heard r cs ∙ ap (after_source_calls r) (all_kept is_heard_call cs h)

-- Every byte that is not heard is answered 13, and every other one by its event.
pub each_answered : (r : MtcReader) (bs : List ℕ) → Answered bs (events r bs) (byte_answers r bs)
unfolding byte_answers events_among
each_answered r [] = no_byte
each_answered r (b ∷ bs) = go (is_heard b) refl (λ s. each_answered s bs)
  where
    go : (t : Bool) → is_heard b ≡ t → ((s : MtcReader) → Answered bs (events s bs) (byte_answers s bs))
        → Answered (b ∷ bs) (events_among (cond t (gives (event_heard r b)) (refused (refusal 13)) ∷ byte_answers (cond t (after_heard r b) r) bs))
        (cond t (gives (event_heard r b)) (refused (refusal 13)) ∷ byte_answers (cond t (after_heard r b) r) bs)
    go true e more = by_event b (event_heard r b) bs (events (after_heard r b) bs) (byte_answers (after_heard r b) bs) (rw e tt) (more (after_heard r b))
    go false e more = by_13 b bs (events r bs) (byte_answers r bs) (rw e tt) (more r)

-- The source's reader does not look at bit 7.
pub high_bit_ignored : (r : MtcReader) (b : ℕ) → (event_heard r (b + 128) ≡ event_heard r b) × (after_heard r (b + 128) ≡ after_heard r b)
high_bit_ignored r b =
    let p : piece_of (b + 128) ≡ piece_of b = omega arith in
    let v : value_of (b + 128) ≡ value_of b = omega arith in (
      ap₂ (λ (k n : ℕ). event_with k (report_of (or_fresh r) k n)) p v,
      ap₂ (after_piece (or_fresh r)) p v,
    )

-- ---- a generator's bytes

sent_piece_low : (t : MtcTime) (p : ℕ) → get_or (pieces t) p 0 ≤ 0x7F
unfolding pieces
sent_piece_low t zero = omega arith
sent_piece_low t (suc zero) = omega arith
sent_piece_low t (suc (suc zero)) = omega arith
sent_piece_low t (suc (suc (suc zero))) = omega arith
sent_piece_low t (suc (suc (suc (suc zero)))) = omega arith
sent_piece_low t (suc (suc (suc (suc (suc zero))))) = omega arith
sent_piece_low t (suc (suc (suc (suc (suc (suc zero)))))) = omega arith
sent_piece_low t (suc (suc (suc (suc (suc (suc (suc zero))))))) = omega (arith, bits_small t.rate)
sent_piece_low t (suc (suc (suc (suc (suc (suc (suc (suc p)))))))) = lit≤ tt

-- Every generator's bytes are heard.
pub sent_heard : (g : MtcGenerator) (n : ℕ) → T (list_all is_heard (bytes_sent n g))
unfolding bytes_sent next_byte
sent_heard g zero = tt
sent_heard g (suc n) = go g.running (sent_heard (after_next_byte g) n)
  where
    b : ℕ
    b = get_or (pieces (time_next g.direction (known g.last) g.time)) (piece_next g.direction (known g.last)) 0

    go : (t : Bool) → T (list_all is_heard (bytes_sent n (after_next_byte g)))
        → T (list_all is_heard (byte_answered (cond t (gives b) (refused (refusal 8))) ++ bytes_sent n (after_next_byte g)))
    go true more = both_hold (is_heard b) (list_all is_heard (bytes_sent n (after_next_byte g))) (le→leb b 0x7F (sent_piece_low (time_next g.direction (known g.last) g.time) (piece_next g.direction (known g.last)))) more
    go false more = more
