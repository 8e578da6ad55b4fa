-- ST 12-1's label after a valid label is the label one count on, which moving by 1 gives. Assumes nothing.
use Prim.Native.Nat.{ℕ, suc, ◌+◌, ◌*◌, ◌%◌, ◌≤◌, ◌<◌}
use mathlib.Core.Path.{◌≡◌, refl, sym, ap, ◌∙◌}
use mathlib.Core.Bool.{Bool, true, false, not, cond, ◌&&◌}
use mathlib.Core.Logic.{inl, inr}
use native.Mathlib.Nat.{mod_self, zero-mod}
use native.Mathlib.Omega.{arith}
use borrow.Author.Tests.{ltb-true, ltb-false, eqb-true, eqb-false}
use lib.Dec.{T, ltb, eqb, lit<, lit≤}
use lib.IntN.{pos}
use Rattle.labels.specs.declared.time.MtcTime.{MtcTime}
use Rattle.labels.specs.declared.time.TimeCodeType.{TimeCodeType}
use Rattle.labels.specs.declared.time.TimeCodeType.TheVariants.{Fps24, Fps25, Fps30Drop, Fps30}
use Rattle.labels.specs.St12.{label, frames_per_second, is_skipped, is_valid, carried, past_skipped, label_after}
use Rattle.labels.specs.Time.{day_of, formula, frame_count, label_at, mod_z, add_frames}
use Rattle.labels.proofs.Counts.{label_of_count, count_is_formula}
use Rattle.labels.proofs.Moves.{label_mod}
use Rattle.labels.proofs.LabelOrder.{next_valid_same}
use Rattle.labels.proofs.Validity.{NotDropped, skipped_kept, kept_skipped, InRange, valid_facts, facts_valid}

-- ---- one frame on

-- The first frame number of a minute.
abbrev pub first_frame : TimeCodeType → ℕ → ℕ
first_frame Fps24 m = 0
first_frame Fps25 m = 0
first_frame Fps30Drop m = cond (eqb (m % 10) 0) 0 2
first_frame Fps30 m = 0

pub step_frame : (r : TimeCodeType) (m s f : ℕ) → formula r m s (suc f) ≡ formula r m s f + 1
step_frame Fps24 m s f = omega arith
step_frame Fps25 m s f = omega arith
step_frame Fps30Drop m s f = omega arith
step_frame Fps30 m s f = omega arith

pub step_second : (r : TimeCodeType) (m s f : ℕ) → suc f ≡ frames_per_second r → formula r m (suc s) 0 ≡ formula r m s f + 1
step_second Fps24 m s f e = omega arith
step_second Fps25 m s f e = omega arith
step_second Fps30Drop m s f e = omega arith
step_second Fps30 m s f e = omega arith

step_drop_minute : (m : ℕ) → formula Fps30Drop (suc m) 0 (first_frame Fps30Drop (suc m)) ≡ formula Fps30Drop m 59 29 + 1
step_drop_minute m = go (eqb (suc m % 10) 0) refl
  where
    dropped : (suc m % 10 ≡ 0 → ⊥) → formula Fps30Drop (suc m) 0 2 ≡ formula Fps30Drop m 59 29 + 1
    dropped k = omega arith

    go : (b : Bool) → eqb (suc m % 10) 0 ≡ b → formula Fps30Drop (suc m) 0 (cond b 0 2) ≡ formula Fps30Drop m 59 29 + 1
    go true e = omega (arith, eqb-true (suc m % 10) 0 e)
    go false e = dropped (eqb-false (suc m % 10) 0 e)

pub step_minute : (r : TimeCodeType) (m s f : ℕ) → s ≡ 59 → suc f ≡ frames_per_second r
    → formula r (suc m) 0 (first_frame r (suc m)) ≡ formula r m s f + 1
step_minute Fps24 m s f es ef = omega arith
step_minute Fps25 m s f es ef = omega arith
step_minute Fps30Drop m s f es ef =
    let last : f ≡ 29 = omega arith in
    rw (es, last) (step_drop_minute m)
step_minute Fps30 m s f es ef = omega arith

-- ---- the skipped numbers

past_first : (r : TimeCodeType) (h m : ℕ) → past_skipped (label r h m 0 0) ≡ label r h m 0 (first_frame r m)
unfolding is_skipped
past_first Fps24 h m = refl
past_first Fps25 h m = refl
past_first Fps30Drop h m = go (eqb (m % 10) 0)
  where
    go : (b : Bool) → cond (not b) (label Fps30Drop h m 0 2) (label Fps30Drop h m 0 0) ≡ label Fps30Drop h m 0 (cond b 0 2)
    go true = refl
    go false = refl
past_first Fps30 h m = refl

first_kept : (r : TimeCodeType) (h m : ℕ) → is_skipped (label r h m 0 (first_frame r m)) ≡ false
unfolding is_skipped
first_kept Fps24 h m = refl
first_kept Fps25 h m = refl
first_kept Fps30Drop h m = go (eqb (m % 10) 0) refl
  where
    go : (b : Bool) → eqb (m % 10) 0 ≡ b → (ltb (cond b 0 2) 2 && not (eqb (m % 10) 0)) ≡ false
    go true e = rw e
    go false e = refl
first_kept Fps30 h m = refl

pub first_mod : (r : TimeCodeType) (a b : ℕ) → a % 10 ≡ b % 10 → first_frame r a ≡ first_frame r b
first_mod Fps24 a b e = refl
first_mod Fps25 a b e = refl
first_mod Fps30Drop a b e = rw e
first_mod Fps30 a b e = refl

pub first_zero : (r : TimeCodeType) → first_frame r 0 ≡ 0
first_zero Fps24 = refl
first_zero Fps25 = refl
first_zero Fps30Drop = refl
first_zero Fps30 = refl

one_small : (r : TimeCodeType) → 1 % day_of r ≡ 1
one_small Fps24 = refl
one_small Fps25 = refl
one_small Fps30Drop = refl
one_small Fps30 = refl

first_frame_small : (r : TimeCodeType) (m : ℕ) → first_frame r m < frames_per_second r
first_frame_small Fps24 m = lit< tt
first_frame_small Fps25 m = lit< tt
first_frame_small Fps30Drop m = go (eqb (m % 10) 0)
  where
    go : (b : Bool) → cond b 0 2 < 30
    go true = lit< tt
    go false = lit< tt
first_frame_small Fps30 m = lit< tt

next_kept : (r : TimeCodeType) (h m s f : ℕ) → is_skipped (label r h m s f) ≡ false → is_skipped (label r h m s (suc f)) ≡ false
unfolding is_skipped
next_kept Fps24 h m s f k = refl
next_kept Fps25 h m s f k = refl
next_kept Fps30Drop h m s f k = kept_skipped h m s (suc f) (later (skipped_kept h m s f k))
  where
    later : NotDropped m s f → NotDropped m s (suc f)
    later (inl e) = inl e
    later (inr l) = inr (omega arith)
next_kept Fps30 h m s f k = refl

second_kept : (r : TimeCodeType) (h m s : ℕ) → is_skipped (label r h m (suc s) 0) ≡ false
unfolding is_skipped
second_kept Fps24 h m s = refl
second_kept Fps25 h m s = refl
second_kept Fps30Drop h m s = kept_skipped h m (suc s) 0 (inr (omega arith))
second_kept Fps30 h m s = refl

-- ---- the label one count on

-- A valid label whose formula is one more is the label one count on.
pub one_on : (r : TimeCodeType) (h m s f h' m' s' f' : ℕ) → InRange (label r h m s f) → InRange (label r h' m' s' f')
    → formula r (h' * 60 + m') s' f' ≡ formula r (h * 60 + m) s f + 1
    → label r h' m' s' f' ≡ label_at (frame_count (label r h m s f) + 1) r
one_on r h m s f h' m' s' f' k k' e =
    let v : T (is_valid (label r h m s f)) = facts_valid (label r h m s f) k in
    let v' : T (is_valid (label r h' m' s' f')) = facts_valid (label r h' m' s' f') k' in
    sym (label_of_count (label r h' m' s' f') v')
    ∙ ap (λ (n : ℕ). label_at n r)
    (count_is_formula (label r h' m' s' f') v' ∙ e ∙ ap (λ (n : ℕ). n + 1) (sym (count_is_formula (label r h m s f) v)))

-- After the day's last label comes its first.
pub last_count : (r : TimeCodeType) (f : ℕ) → suc f ≡ frames_per_second r → formula r (23 * 60 + 59) 59 f + 1 ≡ day_of r
last_count Fps24 f e = omega arith
last_count Fps25 f e = omega arith
last_count Fps30Drop f e = omega arith
last_count Fps30 f e = omega arith

pub label_zero : (r : TimeCodeType) → label r 0 0 0 0 ≡ label_at 0 r
unfolding label_at
label_zero Fps24 = refl
label_zero Fps25 = refl
label_zero Fps30Drop = refl
label_zero Fps30 = refl

module _ (r : TimeCodeType) (h m s f : ℕ) (k : InRange (label r h m s f)) where
  abbrev OneOn : MtcTime → Type 0
  OneOn u = u ≡ label_at (frame_count (label r h m s f) + 1) r

  in_second : suc f < frames_per_second r → OneOn (past_skipped (label r h m s (suc f)))
  in_second l =
      next_valid_same (label r h m s (suc f)) (next_kept r h m s f k.kept)
      ∙ one_on r h m s f h m s (suc f) k
      (record { hours = k.hours; minutes = k.minutes; seconds = k.seconds; frames = l; kept = next_kept r h m s f k.kept })
      (step_frame r (h * 60 + m) s f)

  in_minute : suc f ≡ frames_per_second r → suc s < 60 → OneOn (past_skipped (label r h m (suc s) 0))
  in_minute e l =
      next_valid_same (label r h m (suc s) 0) (second_kept r h m s)
      ∙ one_on r h m s f h m (suc s) 0 k
      (record { hours = k.hours; minutes = k.minutes; seconds = omega arith; frames = omega arith; kept = second_kept r h m s })
      (step_second r (h * 60 + m) s f e)

  -- the start of the minute m' of the hour h', which is one on
  next_minute : (h' m' : ℕ) → h' ≤ 23 → m' ≤ 59 → h' * 60 + m' ≡ suc (h * 60 + m) → first_frame r m' ≡ first_frame r (suc (h * 60 + m))
      → suc f ≡ frames_per_second r → s ≡ 59 → OneOn (past_skipped (label r h' m' 0 0))
  next_minute h' m' hh hm e e₁ ef es =
      past_first r h' m'
      ∙ one_on r h m s f h' m' 0 (first_frame r m') k
      (record { hours = hh; minutes = hm; seconds = lit≤ tt; frames = first_frame_small r m'; kept = first_kept r h' m' })
      (rw (e, e₁) (step_minute r (h * 60 + m) s f es ef))

  pub after_carry : OneOn (past_skipped (carried (label r h m s f)))
  after_carry = go₁ (ltb (suc f) (frames_per_second r)) refl
    where
      at_second : suc f ≡ frames_per_second r → s ≡ 59 → m ≡ 59 → h ≡ 23 → OneOn (past_skipped (label r 0 0 0 0))
      at_second ef es em eh =
          let valid : T (is_valid (label r h m s f)) = facts_valid (label r h m s f) k in
          let last : frame_count (label r h m s f) + 1 ≡ day_of r
          = ap (λ (n : ℕ). n + 1) (count_is_formula (label r h m s f) valid) ∙ rw (eh, em, es) (last_count r f ef) in
          past_first r 0 0 ∙ ap (label r 0 0 0) (first_zero r) ∙ label_zero r
          ∙ label_mod 0 (frame_count (label r h m s f) + 1) r (zero-mod (day_of r) ∙ sym (ap (λ (n : ℕ). n % day_of r) last ∙ mod_self (day_of r)))

      go₄ : (b : Bool) → ltb (suc h) 24 ≡ b → suc f ≡ frames_per_second r → s ≡ 59 → m ≡ 59
          → OneOn (past_skipped (cond b (label r (suc h) 0 0 0) (label r 0 0 0 0)))
      go₄ true e ef es em =
          next_minute (suc h) 0 (omega (arith, ltb-true (suc h) 24 e)) (lit≤ tt) (omega arith)
          (first_mod r 0 (suc (h * 60 + m)) (omega arith)) ef es
      go₄ false e ef es em = at_second ef es em (omega (arith, ltb-false (suc h) 24 e, k.hours))

      go₃ : (b : Bool) → ltb (suc m) 60 ≡ b → suc f ≡ frames_per_second r → s ≡ 59
          → OneOn (past_skipped (cond b (label r h (suc m) 0 0) (cond (ltb (suc h) 24) (label r (suc h) 0 0 0) (label r 0 0 0 0))))
      go₃ true e ef es =
          next_minute h (suc m) k.hours (omega (arith, ltb-true (suc m) 60 e)) (omega arith)
          (first_mod r (suc m) (suc (h * 60 + m)) (omega arith)) ef es
      go₃ false e ef es = go₄ (ltb (suc h) 24) refl ef es (omega (arith, ltb-false (suc m) 60 e, k.minutes))

      go₂ : (b : Bool) → ltb (suc s) 60 ≡ b → suc f ≡ frames_per_second r
          → OneOn (past_skipped (cond b (label r h m (suc s) 0)
          (cond (ltb (suc m) 60) (label r h (suc m) 0 0) (cond (ltb (suc h) 24) (label r (suc h) 0 0 0) (label r 0 0 0 0)))))
      go₂ true e ef = in_minute ef (ltb-true (suc s) 60 e)
      go₂ false e ef = go₃ (ltb (suc m) 60) refl ef (omega (arith, ltb-false (suc s) 60 e, k.seconds))

      go₁ : (b : Bool) → ltb (suc f) (frames_per_second r) ≡ b
          → OneOn (past_skipped (cond b (label r h m s (suc f))
          (cond (ltb (suc s) 60) (label r h m (suc s) 0)
          (cond (ltb (suc m) 60) (label r h (suc m) 0 0) (cond (ltb (suc h) 24) (label r (suc h) 0 0 0) (label r 0 0 0 0))))))
      go₁ true e = in_second (ltb-true (suc f) (frames_per_second r) e)
      go₁ false e = go₂ (ltb (suc s) 60) refl (omega (arith, ltb-false (suc f) (frames_per_second r) e, k.frames))

-- Moving by one is ST 12-1's label after.
pub moved_by_one : (t : MtcTime) → T (is_valid t) → add_frames t (pos 1) ≡ label_after t
unfolding add_frames mod_z label_after
moved_by_one t v =
    let small : 1 % day_of t.rate ≡ 1 = one_small t.rate in
    ap (λ (n : ℕ). label_at (frame_count t + n) t.rate) small
    ∙ sym (after_carry t.rate t.hours t.minutes t.seconds t.frames (valid_facts t v))
