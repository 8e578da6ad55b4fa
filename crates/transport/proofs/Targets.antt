-- What a Locate target resolves to, by its marks, and what "before midnight" means. Assumes nothing.
use Rattle.std.specs.Prelude.{Some, None, option_map}
use Rattle.std.proofs.lemmas.Iterator.Adapters.{option_map_id}
use Rattle.std.proofs.lemmas.Option.{none-some, same_Some}
use Prim.Native.Nat.{ℕ, zero, suc, ◌+◌, ◌-◌, ◌%◌, ◌≤◌}
use mathlib.Core.Path.{◌≡◌, refl, sym, ap, ◌∙◌}
use mathlib.Core.Bool.{Bool, true, false, cond}
use native.Mathlib.Nat.{zero-add, zero-mod, mod-add-mod, mod_self}
use Rattle.std.proofs.Math.Numerals.{add-one}
use native.Mathlib.Omega.{arith}
use lib.Dec.{T}
use lib.IntN.{pos, negsuc, neg_ℤ, +ℤ_invl, neg_ℤ-+ℤ}
use Rattle.codes.specs.declared.time_code.FinalByte.{FinalByte}
use Rattle.codes.specs.declared.time_code.StandardTimeCode.{StandardTimeCode}
use Rattle.codes.specs.TimeCode.{with_final}
use Rattle.labels.specs.St12.{is_skipped, is_valid, LeastAbove, count_before, labels_of_day}
use Rattle.labels.specs.Time.{next_valid, day_of, frame_count, label_at, mod_z, add_frames}
use Rattle.labels.specs.declared.time.MtcTime.{MtcTime}
use Rattle.labels.specs.declared.time.TimeCodeType.{TimeCodeType}
use Rattle.labels.proofs.Laws.{count_of_label, count_below, label_round, label_zero, mod_back, moved_by_count, count_is_practice, labels_of_day_lem, moved_valid, moved_rate, moved_by_sum, moved_by_none, moved_back_one, before_valid, next_valid_valid, next_valid_least, zero_valid}
use Rattle.universal.proofs.Tests.{holds_true}
use Rattle.transport.specs.Transport.{before_midnight, by_sign, if_valid, resolved, midnight, labels_back}

-- ---- by its marks

-- A blank target is none.
pub blank_none : (c : StandardTimeCode) → c.blank ≡ true → resolved c ≡ None
unfolding resolved
blank_none c b = rw b

-- One still invalid is none.
pub invalid_none : (c : StandardTimeCode) (t : MtcTime) → c.blank ≡ false → t ≡ next_valid c.time → is_valid t ≡ false
    → resolved c ≡ None
unfolding resolved
invalid_none c t b e v = rw (b, ← e, v)

-- Any other goes by its sign from its label, past the skipped ones.
pub valid_some : (c : StandardTimeCode) (t : MtcTime) (negative : Bool) → c.blank ≡ false → c.negative ≡ negative → t ≡ next_valid c.time
    → is_valid t ≡ true → resolved c ≡ Some (by_sign negative t)
unfolding resolved
valid_some c t negative b n e v = rw (b, n, ← e, v)

-- A valid label that is not blank: by its sign from itself.
pub valid_by_sign : (c : StandardTimeCode) → c.blank ≡ false → T (is_valid c.time) → resolved c ≡ Some (by_sign c.negative c.time)
valid_by_sign c b v = valid_some c c.time c.negative b refl (sym (next_valid_valid c.time v)) (holds_true (is_valid c.time) v)

-- A skipped label that is not blank, with hours and minutes in range: by its sign from the least valid label above it.
pub skipped_moved : (c : StandardTimeCode) → c.blank ≡ false → T (is_skipped c.time) → c.time.hours ≤ 23 → c.time.minutes ≤ 59
    → (resolved c ≡ Some (by_sign c.negative (next_valid c.time))) × LeastAbove c.time (next_valid c.time)
skipped_moved c b k h m =
    let l : LeastAbove c.time (next_valid c.time) = next_valid_least c.time k h m in
    (valid_some c (next_valid c.time) c.negative b refl refl (holds_true (is_valid (next_valid c.time)) l.valid), l)

-- What a target without a sign resolves to is what it was: its label, past the skipped ones, where that is valid.
pub unsigned_as_before : (c : StandardTimeCode) → c.negative ≡ false → resolved c ≡ cond c.blank None (if_valid (next_valid c.time))
unfolding resolved
unsigned_as_before c n = rw n (ap (cond c.blank None) (option_map_id (if_valid (next_valid c.time))))

-- The last byte is unread: its subframes, its status, and which of the two it has.
pub last_byte_unread : (c : StandardTimeCode) (f : FinalByte) → resolved (with_final c f) ≡ resolved c
unfolding resolved
last_byte_unread c f = refl

-- ---- before midnight

-- A valid label of the same rate.
pub before_midnight_valid : (t : MtcTime) → T (is_valid (before_midnight t))
unfolding before_midnight
before_midnight_valid t = moved_valid (midnight t.rate) (neg_ℤ (pos (frame_count t)))

pub before_midnight_rate : (t : MtcTime) → (before_midnight t).rate ≡ t.rate
unfolding before_midnight
before_midnight_rate t = moved_rate (midnight t.rate) (neg_ℤ (pos (frame_count t)))

-- Moved ahead by the label's count, it is midnight.
pub ahead_to_midnight : (t : MtcTime) → add_frames (before_midnight t) (pos (frame_count t)) ≡ midnight t.rate
unfolding before_midnight
ahead_to_midnight t =
    moved_by_sum (midnight t.rate) (neg_ℤ (pos (frame_count t))) (pos (frame_count t))
    ∙ ap (add_frames (midnight t.rate)) (+ℤ_invl (pos (frame_count t)))
    ∙ moved_by_none (midnight t.rate) (zero_valid t.rate)

midnight_counts : (r : TimeCodeType) → frame_count (midnight r) ≡ 0
midnight_counts r = ap frame_count (label_zero r) ∙ count_of_label 0 r ∙ zero-mod (day_of r)

-- It is the label whose count is the day's number of labels less the label's own.
pub before_midnight_by_count : (t : MtcTime) → before_midnight t ≡ label_at (day_of t.rate - frame_count t) t.rate
unfolding before_midnight
before_midnight_by_count t =
    let rest : ℕ = day_of t.rate - frame_count t in
    let back : ℕ = mod_z (neg_ℤ (pos (frame_count t))) (day_of t.rate) in
    moved_by_count (midnight t.rate) (neg_ℤ (pos (frame_count t)))
    ∙ ap (λ (n : ℕ). label_at (n + back) t.rate) (midnight_counts t.rate)
    ∙ ap (λ (n : ℕ). label_at n t.rate) (zero-add back ∙ mod_back (frame_count t) (day_of t.rate) (count_below t))
    ∙ label_round rest t.rate

-- So it is that of a number which makes up the day with the label's count.
pub label_of_rest : (t : MtcTime) (n : ℕ) → n + frame_count t ≡ day_of t.rate → label_at n t.rate ≡ before_midnight t
label_of_rest t n e =
    let rest : n ≡ day_of t.rate - frame_count t = omega (arith, e) in
    ap (λ (k : ℕ). label_at k t.rate) rest ∙ sym (before_midnight_by_count t)

-- The count of the label before midnight and the label's own make up a day, or both are 0.
pub counts_make_a_day : (t : MtcTime) → T (is_valid t)
    → (count_before (before_midnight t) + count_before t) % labels_of_day t.rate ≡ 0
counts_make_a_day t v =
    rw (← count_is_practice (before_midnight t) (before_midnight_valid t), ← count_is_practice t v, labels_of_day_lem t.rate) day
  where
    rest : ℕ
    rest = day_of t.rate - frame_count t

    whole : rest + frame_count t ≡ day_of t.rate
    whole = omega (arith, count_below t)

    day : (frame_count (before_midnight t) + frame_count t) % day_of t.rate ≡ 0
    day =
        ap (λ (n : ℕ). (n + frame_count t) % day_of t.rate) (ap frame_count (before_midnight_by_count t) ∙ count_of_label rest t.rate)
        ∙ mod-add-mod rest (day_of t.rate) (frame_count t)
        ∙ ap (λ (n : ℕ). n % day_of t.rate) whole
        ∙ mod_self (day_of t.rate)

-- Minus zero is zero.
pub minus_zero : (r : TimeCodeType) → before_midnight (midnight r) ≡ midnight r
unfolding before_midnight
minus_zero r = ap (λ (n : ℕ). add_frames (midnight r) (neg_ℤ (pos n))) (midnight_counts r) ∙ moved_by_none (midnight r) (zero_valid r)

-- ---- by ST 12-1: label by label

labels_back_valid : (n : ℕ) (t : MtcTime) → T (is_valid t) → T (is_valid (labels_back n t))
unfolding labels_back
labels_back_valid zero t v = v
labels_back_valid (suc n) t v = before_valid (labels_back n t) (labels_back_valid n t v)

-- So many labels back, one by one, are one move.
moved_back : (n : ℕ) (t : MtcTime) → T (is_valid t) → labels_back n t ≡ add_frames t (neg_ℤ (pos n))
unfolding labels_back
moved_back zero t v = sym (moved_by_none t v)
moved_back (suc n) t v =
    sym (moved_back_one (labels_back n t) (labels_back_valid n t v))
    ∙ ap (λ (u : MtcTime). add_frames u (negsuc 0)) (moved_back n t v)
    ∙ moved_by_sum t (neg_ℤ (pos n)) (negsuc 0)
    ∙ ap (add_frames t) (sym (neg_ℤ-+ℤ (pos n) (pos 1)) ∙ ap (λ (k : ℕ). neg_ℤ (pos k)) (add-one n))

-- From midnight the label before, as often as the label's count says.
pub counted_back : (t : MtcTime) → T (is_valid t) → before_midnight t ≡ labels_back (count_before t) (midnight t.rate)
unfolding before_midnight
counted_back t v =
    ap (λ (n : ℕ). add_frames (midnight t.rate) (neg_ℤ (pos n))) (count_is_practice t v)
    ∙ sym (moved_back (count_before t) (midnight t.rate) (zero_valid t.rate))

-- ---- what a target resolves to is valid

by_sign_valid : (negative : Bool) (t : MtcTime) → T (is_valid t) → T (is_valid (by_sign negative t))
by_sign_valid false t v = v
by_sign_valid true t v = before_midnight_valid t

pub resolved_valid : (c : StandardTimeCode) (t : MtcTime) → resolved c ≡ Some t → T (is_valid t)
unfolding resolved
resolved_valid c t = go c.blank (is_valid (next_valid c.time)) refl
  where
    go : (b v : Bool) → is_valid (next_valid c.time) ≡ v
        → cond b None (option_map (by_sign c.negative) (cond v (Some (next_valid c.time)) None)) ≡ Some t → T (is_valid t)
    go true v e h = absurd (none-some t h)
    go false true e h = rw (← same_Some (by_sign c.negative (next_valid c.time)) t h) (by_sign_valid c.negative (next_valid c.time) (rw e tt))
    go false false e h = absurd (none-some t h)
