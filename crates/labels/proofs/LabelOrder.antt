-- The order of labels, and that `next_valid` of a skipped label is the least valid label above it. Assumes nothing.
use Prim.Native.Nat.{ℕ, ◌≤◌, ◌<◌}
use mathlib.Core.Path.{◌≡◌, refl, sym, subst, ◌∙◌}
use mathlib.Core.Bool.{Bool, true, false, not, cond, ◌&&◌, ◌||◌}
use mathlib.Core.Logic.{◌⊎◌, inl, inr}
use native.Mathlib.Omega.{arith}
use borrow.Author.Tests.{ltb-true, eqb-true, eq-eqb, lt-ltb, le-ltb}
use lib.Dec.{T, ltb, eqb, lit<, ltb→lt, lt→ltb, not_T, T_not}
use Rattle.std.proofs.lemmas.Bool.{cases_lt}
use Rattle.labels.specs.declared.time.MtcTime.{MtcTime}
use Rattle.labels.specs.declared.time.TimeCodeType.{TimeCodeType}
use Rattle.labels.specs.declared.time.TimeCodeType.TheVariants.{Fps30Drop}
use Rattle.labels.specs.St12.{label, is_skipped, is_valid, lower, is_earlier, LeastAbove}
use Rattle.labels.specs.Time.{next_valid}
use Rattle.labels.proofs.Skipped.{Skipped, skipped_facts}
use Rattle.labels.proofs.Validity.{NotDropped, skipped_kept, kept_skipped, valid_facts, facts_valid}

-- ---- the order, number by number

lower_cases : (a b : ℕ) (p : Bool) → T (lower a b p) → (a < b) ⊎ ((a ≡ b) × T p)
lower_cases a b p = go (ltb a b) (eqb a b) refl refl
  where
    go : (l e : Bool) → ltb a b ≡ l → eqb a b ≡ e → T (l || (e && p)) → (a < b) ⊎ ((a ≡ b) × T p)
    go true e el ee h = inl (ltb-true a b el)
    go false true el ee h = inr (eqb-true a b ee, h)
    go false false el ee h = absurd h

-- Below and above the same number is that number.
lower_both : (a b : ℕ) (p q : Bool) → T (lower a b p) → T (lower b a q) → (a ≡ b) × T p × T q
lower_both a b p q l u = go (lower_cases a b p l) (lower_cases b a q u)
  where
    go : (a < b) ⊎ ((a ≡ b) × T p) → (b < a) ⊎ ((b ≡ a) × T q) → (a ≡ b) × T p × T q
    go (inl x) (inl y) = absurd (omega arith)
    go (inl x) (inr y) = absurd (omega (arith, y.0))
    go (inr x) (inl y) = absurd (omega (arith, x.0))
    go (inr x) (inr y) = (x.0, x.1, y.1)

-- Where two numbers are the same, the rest decides.
pub lower_equal : (a b : ℕ) (p : Bool) → a ≡ b → lower a b p ≡ p
lower_equal a b p e = rw (le-ltb a b (omega (arith, e)), eq-eqb a b e) refl

lower_same : (a : ℕ) (p : Bool) → T p → T (lower a a p)
lower_same a p h = subst T (sym (lower_equal a a p refl)) h

-- In a minute seconds and frames decide.
pub order_in_minute : (t u : MtcTime) → t.hours ≡ u.hours → t.minutes ≡ u.minutes
    → is_earlier t u ≡ lower t.seconds u.seconds (ltb t.frames u.frames)
unfolding is_earlier
order_in_minute t u eh em = lower_equal t.hours u.hours _ eh ∙ lower_equal t.minutes u.minutes _ em

-- Below the first place in a second is below it in the frames.
pub below_in_second : (s f k : ℕ) → T (lower s 0 (ltb f k)) → (s ≡ 0) × (f < k)
below_in_second s f k h = by (lower_cases s 0 _ h)
  where
    by : (s < 0) ⊎ ((s ≡ 0) × T (ltb f k)) → (s ≡ 0) × (f < k)
    by (inl x) = absurd (omega arith)
    by (inr x) = (x.0, ltb→lt f k x.1)

-- Two places of which none is lower are one.
pub place_told : (a b c d : ℕ) → T (not (lower a c (ltb b d))) → T (not (lower c a (ltb d b))) → (a ≡ c) × (b ≡ d)
place_told a b c d n o = by (cases_lt a c) (cases_lt c a) (cases_lt b d) (cases_lt d b)
  where
    less : (x y : ℕ) (p : Bool) → x < y → T (lower x y p)
    less x y p l = rw (lt-ltb x y l) tt

    same : (x y : ℕ) (p : Bool) → x ≡ y → T p → T (lower x y p)
    same x y p e t = subst T (sym (lower_equal x y p e)) t

    by : (a < c) ⊎ (c ≤ a) → (c < a) ⊎ (a ≤ c) → (b < d) ⊎ (d ≤ b) → (d < b) ⊎ (b ≤ d) → (a ≡ c) × (b ≡ d)
    by (inl x) y z w = absurd (T_not (lower a c (ltb b d)) n (less a c (ltb b d) x))
    by (inr x) (inl y) z w = absurd (T_not (lower c a (ltb d b)) o (less c a (ltb d b) y))
    by (inr x) (inr y) (inl z) w = absurd (T_not (lower a c (ltb b d)) n (same a c (ltb b d) (omega arith) (lt→ltb b d z)))
    by (inr x) (inr y) (inr z) (inl w) = absurd (T_not (lower c a (ltb d b)) o (same c a (ltb d b) (omega arith) (lt→ltb d b w)))
    by (inr x) (inr y) (inr z) (inr w) = (omega arith, omega arith)

-- ---- a skipped label

-- The label that a skipped one moves to.
abbrev frame_two : MtcTime → MtcTime
frame_two t = label t.rate t.hours t.minutes t.seconds 2

second_valid : (t : MtcTime) → Skipped t → t.hours ≤ 23 → t.minutes ≤ 59 → T (is_valid (frame_two t))
second_valid t k h m =
    facts_valid (frame_two t)
    (record {
      hours = h;
      minutes = m;
      seconds = omega (arith, k.start);
      frames = rw k.drop (lit< tt);
      kept = rw k.drop (kept_skipped t.hours t.minutes t.seconds 2 (inr (omega arith)));
    })

-- Nothing valid stands between.
none_between : (t v : MtcTime) → Skipped t → v.rate ≡ t.rate → T (is_valid v) → T (is_earlier t v) → T (is_earlier v (frame_two t)) → ⊥
unfolding is_earlier
none_between t v k e valid a b =
    let h = lower_both t.hours v.hours _ _ a b in
    let m = lower_both t.minutes v.minutes _ _ h.1 h.2 in
    let s = lower_both t.seconds v.seconds _ _ m.1 m.2 in
    let low : v.frames < 2 = ltb→lt v.frames 2 s.2 in
    let none : is_skipped (label Fps30Drop v.hours v.minutes v.seconds v.frames) ≡ false
    = subst (λ (r : TimeCodeType). is_skipped (label r v.hours v.minutes v.seconds v.frames) ≡ false) (e ∙ k.drop)
    (valid_facts v valid).kept in
    kept (skipped_kept v.hours v.minutes v.seconds v.frames none) m.0 s.0 low
  where
    kept : NotDropped v.minutes v.seconds v.frames → t.minutes ≡ v.minutes → t.seconds ≡ v.seconds → v.frames < 2 → ⊥
    kept (inl x) em es l = k.minute (rw em x)
    kept (inr x) em es l = omega (arith, k.start)

pub next_valid_least : (t : MtcTime) → T (is_skipped t) → t.hours ≤ 23 → t.minutes ≤ 59 → LeastAbove t (next_valid t)
unfolding is_earlier
next_valid_least t x h m =
    let k : Skipped t = skipped_facts t x in
    subst (LeastAbove t) (sym (moved (is_skipped t) x))
    (record {
      rate = refl;
      valid = second_valid t k h m;
      above =
          lower_same t.hours _
          (lower_same t.minutes _ (lower_same t.seconds _ (subst T (sym (lt-ltb t.frames 2 k.low)) tt)));
      least = λ v e valid a. not_T (is_earlier v (frame_two t)) (none_between t v k e valid a);
    })
  where
    moved : (b : Bool) → T b → cond b (frame_two t) t ≡ frame_two t
    moved true _ = refl
    moved false y = absurd y

pub next_valid_same : (t : MtcTime) → is_skipped t ≡ false → next_valid t ≡ t
next_valid_same t k = rw k
