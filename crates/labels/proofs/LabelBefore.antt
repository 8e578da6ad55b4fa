-- ST 12-1's label before a valid label: it is valid, the label after it is that label, and moving by minus 1 gives it. Assumes
-- nothing.
use Prim.Native.Nat.{ℕ, suc, ◌+◌, ◌-◌, ◌*◌, ◌%◌, ◌≤◌, ◌<◌}
use mathlib.Core.Path.{◌≡◌, refl, sym, ap, subst, ◌∙◌}
use mathlib.Core.Bool.{Bool, true, false, cond}
use mathlib.Core.Logic.{inl, inr}
use native.Mathlib.Nat.{mod_self, zero-mod}
use native.Mathlib.Omega.{arith}
use borrow.Author.Tests.{ltb-true, ltb-false, eq-eqb, ne_eqb}
use lib.Dec.{T, ltb, lit≤}
use lib.IntN.{pos, negsuc}
use Rattle.labels.specs.declared.time.MtcTime.{MtcTime}
use Rattle.labels.specs.declared.time.TimeCodeType.{TimeCodeType}
use Rattle.labels.specs.declared.time.TimeCodeType.TheVariants.{Fps24, Fps25, Fps30Drop, Fps30}
use Rattle.labels.specs.St12.{label, frames_per_second, is_skipped, is_valid, label_after, last_before, borrowed, back_past_skipped, label_before}
use Rattle.labels.specs.Time.{day_of, formula, frame_count, label_at, add_frames}
use Rattle.labels.proofs.LabelAfter.{first_frame, step_frame, step_second, step_minute, first_mod, first_zero, one_on, last_count, label_zero, after_carry, moved_by_one}
use Rattle.labels.proofs.Counts.{count_is_formula}
use Rattle.labels.proofs.Moves.{label_mod, moved_valid, moved_by_sum, moved_by_none}
use Rattle.labels.proofs.Skipped.{Skipped, skipped_facts}
use Rattle.labels.proofs.Validity.{NotDropped, skipped_kept, kept_skipped, InRange, valid_facts, facts_valid}

-- ---- the last frame of a second

last_frame : (r : TimeCodeType) → suc (frames_per_second r - 1) ≡ frames_per_second r
last_frame Fps24 = refl
last_frame Fps25 = refl
last_frame Fps30Drop = refl
last_frame Fps30 = refl

-- It is never skipped.
last_kept : (r : TimeCodeType) (h m s : ℕ) → is_skipped (label r h m s (frames_per_second r - 1)) ≡ false
unfolding is_skipped
last_kept Fps24 h m s = refl
last_kept Fps25 h m s = refl
last_kept Fps30Drop h m s = kept_skipped h m s 29 (inr (omega arith))
last_kept Fps30 h m s = refl

last_in_range : (r : TimeCodeType) (h m s : ℕ) → h ≤ 23 → m ≤ 59 → s ≤ 59 → InRange (label r h m s (frames_per_second r - 1))
last_in_range r h m s a b c =
    record { hours = a; minutes = b; seconds = c; frames = omega (arith, last_frame r); kept = last_kept r h m s }

-- Nor is the last label before a minute's start.
before_kept : (r : TimeCodeType) (h m : ℕ) → is_skipped (last_before r h m) ≡ false
before_kept r h m = go (ltb 0 m) (ltb 0 h)
  where
    go : (a b : Bool) → is_skipped (cond a (label r h (m - 1) 59 (frames_per_second r - 1))
        (cond b (label r (h - 1) 59 59 (frames_per_second r - 1)) (label r 23 59 59 (frames_per_second r - 1)))) ≡ false
    go true b = last_kept r h (m - 1) 59
    go false true = last_kept r (h - 1) 59 59
    go false false = last_kept r 23 59 59

-- ---- the first label of a minute

-- Frame 0 at a minute's start, where it is not skipped.
zero_is_first : (r : TimeCodeType) (h m : ℕ) → is_skipped (label r h m 0 0) ≡ false → 0 ≡ first_frame r m
zero_is_first Fps24 h m k = refl
zero_is_first Fps25 h m k = refl
zero_is_first Fps30Drop h m k = go (skipped_kept h m 0 0 k)
  where
    go : NotDropped m 0 0 → 0 ≡ first_frame Fps30Drop m
    go (inl e) = rw (eq-eqb (m % 10) 0 e)
    go (inr l) = absurd (omega arith)
zero_is_first Fps30 h m k = refl

-- ---- a label whose next one is this one

module _ (r : TimeCodeType) (h m s f : ℕ) (k : InRange (label r h m s f)) where
  -- A valid label whose label after is this one.
  record OneBack (u : MtcTime) : Type 0 where
    in_range : InRange u
    next : label_after u ≡ label r h m s f

  by_count : (h' m' s' f' : ℕ) → InRange (label r h' m' s' f')
      → label r h m s f ≡ label_at (frame_count (label r h' m' s' f') + 1) r → OneBack (label r h' m' s' f')
  unfolding label_after
  by_count h' m' s' f' k' e = record { in_range = k'; next = after_carry r h' m' s' f' k' ∙ sym e }

  by_formula : (h' m' s' f' : ℕ) → InRange (label r h' m' s' f')
      → formula r (h * 60 + m) s f ≡ formula r (h' * 60 + m') s' f' + 1 → OneBack (label r h' m' s' f')
  by_formula h' m' s' f' k' e = by_count h' m' s' f' k' (one_on r h' m' s' f' h m s f k' k e)

  in_second : is_skipped (label r h m s (f - 1)) ≡ false → 0 < f → OneBack (label r h m s (f - 1))
  in_second e l =
      let same : suc (f - 1) ≡ f = omega arith in
      by_formula h m s (f - 1)
      (record { hours = k.hours; minutes = k.minutes; seconds = k.seconds; frames = omega (arith, k.frames); kept = e })
      (ap (formula r (h * 60 + m) s) (sym same) ∙ step_frame r (h * 60 + m) s (f - 1))

  in_minute : f ≡ 0 → 0 < s → OneBack (label r h m (s - 1) (frames_per_second r - 1))
  in_minute ef l =
      let same : suc (s - 1) ≡ s = omega arith in
      by_formula h m (s - 1) (frames_per_second r - 1)
      (last_in_range r h m (s - 1) k.hours k.minutes (omega (arith, k.seconds)))
      (rw ef (ap (λ (x : ℕ). formula r (h * 60 + m) x 0) (sym same)
      ∙ step_second r (h * 60 + m) (s - 1) (frames_per_second r - 1) (last_frame r)))

  module _ (es : s ≡ 0) (ef : f ≡ first_frame r m) where
    at_midnight : m ≡ 0 → h ≡ 0 → OneBack (label r 23 59 59 (frames_per_second r - 1))
    at_midnight em eh =
        let u : MtcTime = label r 23 59 59 (frames_per_second r - 1) in
        let k' : InRange u = last_in_range r 23 59 59 (lit≤ tt) (lit≤ tt) (lit≤ tt) in
        let full : frame_count u + 1 ≡ day_of r
        = ap (λ (n : ℕ). n + 1) (count_is_formula u (facts_valid u k')) ∙ last_count r (frames_per_second r - 1) (last_frame r) in
        by_count 23 59 59 (frames_per_second r - 1) k'
        (rw (eh, em, es, ef ∙ ap (first_frame r) em ∙ first_zero r)
        (label_zero r
        ∙ label_mod 0 (frame_count u + 1) r (zero-mod (day_of r) ∙ sym (ap (λ (n : ℕ). n % day_of r) full ∙ mod_self (day_of r)))))

    -- the last label of the minute m' of the hour h', which is one back
    minute_back : (h' m' : ℕ) → h' ≤ 23 → m' ≤ 59 → h * 60 + m ≡ suc (h' * 60 + m') → OneBack (label r h' m' 59 (frames_per_second r - 1))
    minute_back h' m' hh hm e =
        let same : first_frame r m ≡ first_frame r (suc (h' * 60 + m')) = first_mod r m (suc (h' * 60 + m')) (omega (arith, e)) in
        by_formula h' m' 59 (frames_per_second r - 1) (last_in_range r h' m' 59 hh hm (lit≤ tt))
        (rw (es, ef, same, e) (step_minute r (h' * 60 + m') 59 (frames_per_second r - 1) refl (last_frame r)))

    before_minute : OneBack (last_before r h m)
    before_minute = go₁ (ltb 0 m) refl
      where
        go₂ : (b : Bool) → ltb 0 h ≡ b → m ≡ 0
            → OneBack (cond b (label r (h - 1) 59 59 (frames_per_second r - 1)) (label r 23 59 59 (frames_per_second r - 1)))
        go₂ true e em = minute_back (h - 1) 59 (omega (arith, k.hours)) (lit≤ tt) (omega (arith, ltb-true 0 h e))
        go₂ false e em = at_midnight em (omega (arith, ltb-false 0 h e))

        go₁ : (b : Bool) → ltb 0 m ≡ b
            → OneBack (cond b (label r h (m - 1) 59 (frames_per_second r - 1))
            (cond (ltb 0 h) (label r (h - 1) 59 59 (frames_per_second r - 1)) (label r 23 59 59 (frames_per_second r - 1))))
        go₁ true e = minute_back h (m - 1) k.hours (omega (arith, k.minutes)) (omega (arith, ltb-true 0 m e))
        go₁ false e = go₂ (ltb 0 h) refl (omega (arith, ltb-false 0 m e))

  -- a label after which none is skipped stays
  stays : (u : MtcTime) → is_skipped u ≡ false → OneBack u → OneBack (back_past_skipped u)
  stays u e b = rw e b

  back_in_second : 0 < f → OneBack (back_past_skipped (label r h m s (f - 1)))
  back_in_second l = go (is_skipped (label r h m s (f - 1))) refl
    where
      -- the number before is skipped: this one is the first of its minute
      passed : Skipped (label r h m s (f - 1)) → OneBack (last_before r h m)
      passed x = before_minute x.start (second x (kept x))
        where
          kept : Skipped (label r h m s (f - 1)) → NotDropped m s f
          kept x = skipped_kept h m s f (subst (λ (q : TimeCodeType). is_skipped (label q h m s f) ≡ false) x.drop k.kept)

          second : Skipped (label r h m s (f - 1)) → NotDropped m s f → f ≡ first_frame r m
          second x (inl e) = absurd (x.minute e)
          second x (inr e) =
              let two : f ≡ 2 = omega (arith, x.start, x.low) in
              two ∙ rw (x.drop, ne_eqb (m % 10) 0 x.minute)

      go : (b : Bool) → is_skipped (label r h m s (f - 1)) ≡ b → OneBack (cond b (last_before r h m) (label r h m s (f - 1)))
      go true e = passed (skipped_facts (label r h m s (f - 1)) (subst T (sym e) tt))
      go false e = in_second e l

  back_borrow : OneBack (back_past_skipped (borrowed (label r h m s f)))
  back_borrow = go₁ (ltb 0 f) refl
    where
      go₂ : (b : Bool) → ltb 0 s ≡ b → f ≡ 0
          → OneBack (back_past_skipped (cond b (label r h m (s - 1) (frames_per_second r - 1)) (last_before r h m)))
      go₂ true e ef =
          stays (label r h m (s - 1) (frames_per_second r - 1)) (last_kept r h m (s - 1)) (in_minute ef (ltb-true 0 s e))
      go₂ false e ef =
          let es : s ≡ 0 = omega (arith, ltb-false 0 s e) in
          stays (last_before r h m) (before_kept r h m)
          (before_minute es (ef ∙ zero_is_first r h m (rw (es, ef) at k.kept)))

      go₁ : (b : Bool) → ltb 0 f ≡ b
          → OneBack (back_past_skipped (cond b (label r h m s (f - 1))
          (cond (ltb 0 s) (label r h m (s - 1) (frames_per_second r - 1)) (last_before r h m))))
      go₁ true e = back_in_second (ltb-true 0 f e)
      go₁ false e = go₂ (ltb 0 s) refl (omega (arith, ltb-false 0 f e))

-- ---- the laws

module _ (t : MtcTime) (v : T (is_valid t)) where
  back : OneBack t.rate t.hours t.minutes t.seconds t.frames (valid_facts t v) (label_before t)
  unfolding label_before
  back = back_borrow t.rate t.hours t.minutes t.seconds t.frames (valid_facts t v)

  -- The label before a valid one is valid.
  pub before_valid : T (is_valid (label_before t))
  before_valid = facts_valid (label_before t) back.in_range

  -- The label after it is that one.
  pub after_before : label_after (label_before t) ≡ t
  after_before = back.next

  -- Moving by minus 1 gives it.
  pub moved_back_one : add_frames t (negsuc 0) ≡ label_before t
  moved_back_one =
      ap (λ (u : MtcTime). add_frames u (negsuc 0)) (sym after_before ∙ sym (moved_by_one (label_before t) before_valid))
      ∙ moved_by_sum (label_before t) (pos 1) (negsuc 0)
      ∙ moved_by_none (label_before t) before_valid

-- The label after a valid one is valid.
pub after_valid : (t : MtcTime) → T (is_valid t) → T (is_valid (label_after t))
after_valid t v = subst (λ (u : MtcTime). T (is_valid u)) (moved_by_one t v) (moved_valid t (pos 1))

-- The label before the one after is the label itself.
pub before_after : (t : MtcTime) → T (is_valid t) → label_before (label_after t) ≡ t
before_after t v =
    sym (moved_back_one (label_after t) (after_valid t v))
    ∙ ap (λ (u : MtcTime). add_frames u (negsuc 0)) (sym (moved_by_one t v))
    ∙ moved_by_sum t (pos 1) (negsuc 0)
    ∙ moved_by_none t v
