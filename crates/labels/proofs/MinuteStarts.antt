-- Minute starts: the first valid label of a minute and its count by ST 12-1, the table of sixty by one computed test, and the count of
-- any label by the table. Assumes nothing.
use Prim.Native.Nat.{ℕ, ◌+◌, ◌-◌, ◌*◌, ◌/◌, ◌%◌, ◌≤◌, ◌<◌}
use mathlib.Core.Path.{◌≡◌, refl, sym, ap, ap₂, subst, ◌∙◌}
use mathlib.Core.Bool.{Bool, true, false, cond, not}
use mathlib.Core.List.{List, map}
use mathlib.Core.Logic.{◌⊎◌, inl, inr}
use native.Mathlib.Omega.{arith}
use borrow.Author.Tests.{eqb-true, eqb-false}
use lib.Dec.{T, eqb, not_T}
use lib.ListN.{length, get_or}
use Rattle.std.specs.List.{range_with_len}
use Rattle.std.proofs.lemmas.List.{ext_get_or}
use Rattle.std.proofs.lemmas.List.FromFn.{length-map-range_with_len, get_or-map-range_with_len}
use Rattle.labels.specs.declared.minutes.TheConstants.{MINUTE_STARTS}
use Rattle.labels.specs.declared.time.MtcTime.{MtcTime}
use Rattle.labels.specs.declared.time.TimeCodeType.{TimeCodeType}
use Rattle.labels.specs.declared.time.TimeCodeType.TheVariants.{Fps30Drop}
use Rattle.labels.specs.MinuteStarts.{FirstOfMinute, skipped_in, first_of_minute, minute_start, labels_of_minutes, minute_starts}
use Rattle.labels.specs.St12.{label, is_skipped, is_valid, is_earlier, count_before}
use Rattle.labels.specs.Time.{formula, frame_count}
use Rattle.labels.proofs.Counts.{count_is_formula}
use Rattle.labels.proofs.DayCount.{count_is_practice}
use Rattle.labels.proofs.LabelOrder.{order_in_minute, below_in_second, place_told}
use Rattle.labels.proofs.Validity.{NotDropped, skipped_kept, valid_facts, in_range_valid}

-- ---- the first valid label of a minute

-- The numbers that a minute skips, by cases.
abbrev Skips : ℕ → ℕ → Type 0
Skips m k = ((m % 10 ≡ 0) × (k ≡ 0)) ⊎ ((m % 10 ≡ 0 → ⊥) × (k ≡ 2))

skips : (m : ℕ) → Skips m (skipped_in m)
skips m = by (eqb (m % 10) 0) refl
  where
    by : (b : Bool) → eqb (m % 10) 0 ≡ b → Skips m (cond b 0 2)
    by true e = inl (eqb-true (m % 10) 0 e, refl)
    by false e = inr (eqb-false (m % 10) 0 e, refl)

first_valid : (h m : ℕ) → h ≤ 23 → m ≤ 59 → T (is_valid (first_of_minute h m))
first_valid h m hh hm = by (skipped_in m) (skips m)
  where
    by : (k : ℕ) → Skips m k → T (is_valid (label Fps30Drop h m 0 k))
    by k (inl p) = in_range_valid Fps30Drop h m 0 k hh hm (omega arith) (omega (arith, p.1)) (λ d. inl p.0)
    by k (inr p) = in_range_valid Fps30Drop h m 0 k hh hm (omega arith) (omega (arith, p.1)) (λ d. inr (omega (arith, p.1)))

none_earlier : (h m : ℕ) (v : MtcTime) → v.rate ≡ Fps30Drop → v.hours ≡ h → v.minutes ≡ m → T (is_valid v)
    → T (is_earlier v (first_of_minute h m)) → ⊥
none_earlier h m v er eh em valid e =
    let low = below_in_second v.seconds v.frames (skipped_in m) (subst T (order_in_minute v (first_of_minute h m) eh em) e) in
    let kept : is_skipped (label Fps30Drop v.hours v.minutes v.seconds v.frames) ≡ false
    = subst (λ (r : TimeCodeType). is_skipped (label r v.hours v.minutes v.seconds v.frames) ≡ false) er (valid_facts v valid).kept in
    by (skips m) low.0 low.1 (skipped_kept v.hours v.minutes v.seconds v.frames kept)
  where
    by : Skips m (skipped_in m) → v.seconds ≡ 0 → v.frames < skipped_in m → NotDropped v.minutes v.seconds v.frames → ⊥
    by (inl p) es l n = omega (arith, p.1)
    by (inr p) es l (inl t) = p.0 (sym (ap (λ (k : ℕ). k % 10) em) ∙ t)
    by (inr p) es l (inr t) = omega (arith, p.1)

pub first_of_minute_lem : (h m : ℕ) → h ≤ 23 → m ≤ 59 → FirstOfMinute h m (first_of_minute h m)
first_of_minute_lem h m hh hm =
    record {
      rate = refl;
      hours = refl;
      minutes = refl;
      valid = first_valid h m hh hm;
      first = λ v er eh em valid. not_T (is_earlier v (first_of_minute h m)) (none_earlier h m v er eh em valid);
    }

-- No other label is the first.
pub only_first : (h m : ℕ) (t : MtcTime) → FirstOfMinute h m t → t ≡ first_of_minute h m
only_first h m t k =
    let v = valid_facts t k.valid in
    let u : MtcTime = first_of_minute h m in
    let valid : T (is_valid u) = first_valid h m (omega (arith, v.hours, k.hours)) (omega (arith, v.minutes, k.minutes)) in
    let before : T (not (is_earlier t u)) = not_T (is_earlier t u) (none_earlier h m t k.rate k.hours k.minutes k.valid) in
    let after : T (not (is_earlier u t)) = k.first u refl refl refl valid in
    let place =
    place_told t.seconds t.frames 0 (skipped_in m)
    (subst (λ (b : Bool). T (not b)) (order_in_minute t u k.hours k.minutes) before)
    (subst (λ (b : Bool). T (not b)) (order_in_minute u t (sym k.hours) (sym k.minutes)) after) in
    same t.rate t.hours t.minutes t.seconds t.frames k.rate k.hours k.minutes place.0 place.1
  where
    same : (r : TimeCodeType) (a b c d : ℕ) → r ≡ Fps30Drop → a ≡ h → b ≡ m → c ≡ 0 → d ≡ skipped_in m → label r a b c d ≡ first_of_minute h m
    same r a b c d er ea eb ec ed = rw (er, ea, eb, ec, ed)

-- ---- its count

-- A place in a minute counts from the minute's start on; the numbers that the minute skips count back from it.
pub from_start : (m s f : ℕ) → labels_of_minutes m + s * 30 + f - skipped_in m ≡ formula Fps30Drop m s f
from_start m s f = by (skipped_in m) (skips m)
  where
    by : (k : ℕ) → Skips m k → labels_of_minutes m + s * 30 + f - k ≡ formula Fps30Drop m s f
    by k (inl p) = omega (arith, p.0, p.1)
    by k (inr p) = omega (arith, p.0, p.1)

-- A minute of the day skips what it skips in its hour.
skipped_in_hour : (h m : ℕ) → skipped_in (h * 60 + m) ≡ skipped_in m
skipped_in_hour h m = let tens : (h * 60 + m) % 10 ≡ m % 10 = omega arith in ap (λ (k : ℕ). cond (eqb k 0) 0 2) tens

formula_of_first : (h m : ℕ) → formula Fps30Drop (h * 60 + m) 0 (skipped_in m) ≡ labels_of_minutes (h * 60 + m)
formula_of_first h m =
    let start : labels_of_minutes (h * 60 + m) + 0 * 30 + skipped_in m - skipped_in m ≡ labels_of_minutes (h * 60 + m) = omega arith in
    sym (from_start (h * 60 + m) 0 (skipped_in m))
    ∙ ap (λ (k : ℕ). labels_of_minutes (h * 60 + m) + 0 * 30 + skipped_in m - k) (skipped_in_hour h m)
    ∙ start

-- By the rule.
pub count_by_minutes : (h m : ℕ) → h ≤ 23 → m ≤ 59 → count_before (first_of_minute h m) ≡ labels_of_minutes (h * 60 + m)
count_by_minutes h m hh hm =
    let v = first_valid h m hh hm in
    sym (count_is_practice (first_of_minute h m) v)
    ∙ count_is_formula (first_of_minute h m) v
    ∙ formula_of_first h m

pub minute_start_is : (m : ℕ) → m ≤ 59 → minute_start m ≡ labels_of_minutes m
unfolding minute_start
minute_start_is m hm = count_by_minutes 0 m (omega arith) hm ∙ ap labels_of_minutes (omega arith)

-- The first number of the table, the second and the last.
pub starts_named : (minute_start 0 ≡ 0) × ((minute_start 1 ≡ 1800) × (minute_start 59 ≡ 106094))
starts_named = (minute_start_is 0 (omega arith), (minute_start_is 1 (omega arith), minute_start_is 59 (omega arith)))

-- Whichever label is the first of its minute, in every hour.
pub start_in_hour : (h m : ℕ) (t : MtcTime) → FirstOfMinute h m t → count_before t ≡ h * 107892 + minute_start m
start_in_hour h m t k =
    let v = valid_facts t k.valid in
    let hh : h ≤ 23 = omega (arith, v.hours, k.hours) in
    let hm : m ≤ 59 = omega (arith, v.minutes, k.minutes) in
    let hours : labels_of_minutes (h * 60 + m) ≡ h * 107892 + labels_of_minutes m = omega arith in
    ap count_before (only_first h m t k)
    ∙ count_by_minutes h m hh hm
    ∙ hours
    ∙ ap (λ (n : ℕ). h * 107892 + n) (sym (minute_start_is m hm))

-- ---- the table

-- One computed test over the whole table.
table_by_rule : MINUTE_STARTS ≡ map labels_of_minutes (range_with_len 0 60)
table_by_rule = refl

-- Sixty numbers of which each is its minute's start are the list of them.
pub each_start : (xs : List ℕ) → length xs ≡ 60 → ((m : ℕ) → m < 60 → get_or xs m 0 ≡ minute_start m) → xs ≡ minute_starts
each_start xs e each =
    ext_get_or 0 xs minute_starts (e ∙ sym (length-map-range_with_len minute_start 0 60))
    (λ m l. each m (omega (arith, e)) ∙ sym (get_or-map-range_with_len minute_start 0 60 m m 0 (omega (arith, e)) (omega arith)))

pub start_by_rule : (m : ℕ) → m < 60 → get_or MINUTE_STARTS m 0 ≡ labels_of_minutes m
start_by_rule m h = ap (λ (xs : List ℕ). get_or xs m 0) table_by_rule ∙ get_or-map-range_with_len labels_of_minutes 0 60 m m 0 h (omega arith)

pub table_of_starts : MINUTE_STARTS ≡ minute_starts
table_of_starts = each_start MINUTE_STARTS refl (λ m h. start_by_rule m h ∙ sym (minute_start_is m (omega arith)))

-- ---- counts by the table

-- The labels before a minute of the day are those of the hours before, and those before it in its hour.
pub by_hour : (m : ℕ) → m / 60 * 107892 + get_or MINUTE_STARTS (m % 60) 0 ≡ labels_of_minutes m
by_hour m =
    let entry = start_by_rule (m % 60) (omega arith) in
    let tenths : m / 10 ≡ m / 60 * 6 + m % 60 / 10 = omega arith in
    omega (arith, entry, tenths)

-- It counts back from the next minute's start, too, whatever its own minute skips.
pub from_next_start : (h m s f : ℕ) → h * 107892 + s * 30 + f + labels_of_minutes (m + 1) - 1800 ≡ formula Fps30Drop (h * 60 + m) s f
from_next_start h m s f = omega arith

-- Any label's count is by the table.
pub count_by_table : (t : MtcTime) (m : ℕ) → t.rate ≡ Fps30Drop → m ≡ t.hours * 60 + t.minutes
    → frame_count t ≡ (m / 60 * 107892 + get_or MINUTE_STARTS (m % 60) 0 + t.seconds * 30 + t.frames - skipped_in m) % 2589408
unfolding frame_count
count_by_table t m er em =
    rw (er, sym em)
    (ap (λ (n : ℕ). n % 2589408) (sym (ap (λ (n : ℕ). n + t.seconds * 30 + t.frames - skipped_in m) (by_hour m) ∙ from_start m t.seconds t.frames)))

-- Of a label with minutes below 60, by its own minute's number.
pub count_in_hour : (t : MtcTime) → t.rate ≡ Fps30Drop → t.minutes < 60
    → frame_count t ≡ (t.hours * 107892 + get_or MINUTE_STARTS t.minutes 0 + t.seconds * 30 + t.frames - skipped_in t.minutes) % 2589408
count_in_hour t er hm =
    let m : ℕ = t.hours * 60 + t.minutes in
    let hours : m / 60 ≡ t.hours = omega arith in
    let minutes : m % 60 ≡ t.minutes = omega arith in
    count_by_table t m er refl
    ∙ ap₂ (λ (h k : ℕ). (h * 107892 + get_or MINUTE_STARTS k 0 + t.seconds * 30 + t.frames - skipped_in m) % 2589408) hours minutes
    ∙ ap (λ (k : ℕ). (t.hours * 107892 + get_or MINUTE_STARTS t.minutes 0 + t.seconds * 30 + t.frames - k) % 2589408)
    (skipped_in_hour t.hours t.minutes)
