-- Counts and labels are each other's inverse: one law over the rate for each way. Assumes nothing.
use Prim.Native.Nat.{ℕ, zero, suc, ◌+◌, ◌-◌, ◌*◌, ◌/◌, ◌%◌, ◌≤◌, ◌<◌}
use mathlib.Core.Path.{◌≡◌, refl, sym, ap, ◌∙◌}
use mathlib.Core.Bool.{false}
use mathlib.Core.Logic.{◌⊎◌, inl, inr}
use native.Mathlib.Nat.{mod-lt, mod-eq_of_lt, mod-mod, div-add-mod'}
use native.Mathlib.Omega.{arith}
use lib.Arith.{digits_div, digits_mod}
use lib.Dec.{T, lit<}
use Rattle.labels.specs.declared.time.MtcTime.{MtcTime}
use Rattle.labels.specs.declared.time.TimeCodeType.{TimeCodeType}
use Rattle.labels.specs.declared.time.TimeCodeType.TheVariants.{Fps24, Fps25, Fps30Drop, Fps30}
use Rattle.labels.specs.St12.{label, frames_per_second, is_skipped, is_valid}
use Rattle.labels.specs.Time.{day_of, formula, frame_count, with_skipped, numbered, label_at}
use Rattle.labels.proofs.Rates.{fps_positive, day_positive}
use Rattle.labels.proofs.Validity.{NotDropped, skipped_kept, kept_skipped, InRange, valid_facts, facts_valid}

-- ---- labels as numbers, none skipped

-- The number of a label: whole minutes, seconds and frames.
abbrev pub plain_number : TimeCodeType → ℕ → ℕ → ℕ → ℕ
plain_number r m s f = (m * 60 + s) * frames_per_second r + f

hours_of : (h m s : ℕ) → m ≤ 59 → s ≤ 59 → ((h * 60 + m) * 60 + s) / 3600 ≡ h
hours_of h m s hm hs = omega arith

minutes_of : (h m s : ℕ) → m ≤ 59 → s ≤ 59 → ((h * 60 + m) * 60 + s) / 60 % 60 ≡ m
minutes_of h m s hm hs = omega arith

seconds_of : (h m s : ℕ) → s ≤ 59 → ((h * 60 + m) * 60 + s) % 60 ≡ s
seconds_of h m s hs = omega arith

-- The label of a label's number is that label.
pub numbered_number : (r : TimeCodeType) (h m s f : ℕ) → m ≤ 59 → s ≤ 59 → f < frames_per_second r
    → numbered r (plain_number r (h * 60 + m) s f) ≡ label r h m s f
numbered_number r h m s f hm hs hf =
    rw (digits_div ((h * 60 + m) * 60 + s) hf, digits_mod ((h * 60 + m) * 60 + s) hf, hours_of h m s hm hs, minutes_of h m s hm hs, seconds_of h m s hs)

seconds_back : (q : ℕ) → (q / 3600 * 60 + q / 60 % 60) * 60 + q % 60 ≡ q
seconds_back q = omega arith

-- The number of a number's label is that number.
pub number_numbered : (r : TimeCodeType) (n : ℕ)
    → plain_number r ((numbered r n).hours * 60 + (numbered r n).minutes) (numbered r n).seconds (numbered r n).frames ≡ n
number_numbered r n = rw (seconds_back (n / frames_per_second r)) (div-add-mod' n (frames_per_second r))

-- ---- drop-frame, by tens of minutes, the minute among the ten, and the number in that minute

-- Putting the skipped numbers back in.
pub put_back : (t u x : ℕ) → u < 10 → x < 1800 → (u ≡ 0) ⊎ (2 ≤ x)
    → with_skipped Fps30Drop (17982 * t + (1798 * u + x)) ≡ 18000 * t + (1800 * u + x)
put_back t u x hu hx k =
    let tens : (17982 * t + (1798 * u + x)) / 17982 ≡ t = omega arith in
    let rest : (17982 * t + (1798 * u + x)) % 17982 ≡ 1798 * u + x = omega arith in
    let minute : (1798 * u + x - 2) / 1798 ≡ u = dropped k in
    rw (tens, rest, minute) (omega arith)
  where
    dropped : (u ≡ 0) ⊎ (2 ≤ x) → (1798 * u + x - 2) / 1798 ≡ u
    dropped (inl e) = omega arith
    dropped (inr h) = omega arith

-- Leaving them out again.
leave_out : (t u x : ℕ) → u < 10 → x < 1800
    → 18000 * t + (1800 * u + x) - 2 * (10 * t + u - (10 * t + u) / 10) ≡ 17982 * t + (1798 * u + x)
leave_out t u x hu hx = omega arith

-- A number below the day, in those parts, and none of them is skipped.
record DropParts (n : ℕ) : Type 0 where
  tens : ℕ
  minute : ℕ
  place : ℕ
  whole : n ≡ 17982 * tens + (1798 * minute + place)
  minute_small : minute < 10
  place_small : place < 1800
  kept : (minute ≡ 0) ⊎ (2 ≤ place)

drop_parts : (n : ℕ) → DropParts n
drop_parts n = go (n % 17982) refl
  where
    first : n % 17982 < 2 → DropParts n
    first h =
        record {
          tens = n / 17982;
          minute = 0;
          place = n % 17982;
          whole = omega arith;
          minute_small = lit< tt;
          place_small = omega arith;
          kept = inl refl;
        }

    later : 2 ≤ n % 17982 → DropParts n
    later h =
        record {
          tens = n / 17982;
          minute = (n % 17982 - 2) / 1798;
          place = (n % 17982 - 2) % 1798 + 2;
          whole = omega arith;
          minute_small = omega arith;
          place_small = omega arith;
          kept = inr (omega arith);
        }

    go : (m : ℕ) → n % 17982 ≡ m → DropParts n
    go zero e = first (omega arith)
    go (suc zero) e = first (omega arith)
    go (suc (suc m)) e = later (omega arith)

-- ---- the count of a label of a count

minutes_whole : (n : ℕ) → n / 30 / 3600 * 60 + n / 30 / 60 % 60 ≡ n / 1800
minutes_whole n = omega arith

drop_parts_formula : (n : ℕ) → DropParts n
    → formula Fps30Drop ((numbered Fps30Drop (with_skipped Fps30Drop n)).hours * 60 + (numbered Fps30Drop (with_skipped Fps30Drop n)).minutes)
    (numbered Fps30Drop (with_skipped Fps30Drop n)).seconds (numbered Fps30Drop (with_skipped Fps30Drop n)).frames ≡ n
drop_parts_formula n p =
    let put : with_skipped Fps30Drop n ≡ 18000 * p.tens + (1800 * p.minute + p.place)
    = ap (with_skipped Fps30Drop) p.whole ∙ put_back p.tens p.minute p.place p.minute_small p.place_small p.kept in
    let whole : with_skipped Fps30Drop n / 1800 ≡ 10 * p.tens + p.minute = rw put (whole_of p.tens p.minute p.place p.minute_small p.place_small) in
    ap (λ (k : ℕ). k - 2 * (minutes_at n - minutes_at n / 10)) (number_numbered Fps30Drop (with_skipped Fps30Drop n))
    ∙ ap (λ (m : ℕ). with_skipped Fps30Drop n - 2 * (m - m / 10)) (minutes_whole (with_skipped Fps30Drop n) ∙ whole)
    ∙ ap (λ (k : ℕ). k - 2 * (10 * p.tens + p.minute - (10 * p.tens + p.minute) / 10)) put
    ∙ leave_out p.tens p.minute p.place p.minute_small p.place_small
    ∙ sym p.whole
  where
    minutes_at : ℕ → ℕ
    minutes_at n = (numbered Fps30Drop (with_skipped Fps30Drop n)).hours * 60 + (numbered Fps30Drop (with_skipped Fps30Drop n)).minutes

    whole_of : (t u x : ℕ) → u < 10 → x < 1800 → (18000 * t + (1800 * u + x)) / 1800 ≡ 10 * t + u
    whole_of t u x hu hx = omega arith

formula_of_label : (r : TimeCodeType) (n : ℕ)
    → formula r ((numbered r (with_skipped r n)).hours * 60 + (numbered r (with_skipped r n)).minutes) (numbered r (with_skipped r n)).seconds
    (numbered r (with_skipped r n)).frames ≡ n
formula_of_label Fps24 n = number_numbered Fps24 n
formula_of_label Fps25 n = number_numbered Fps25 n
formula_of_label Fps30Drop n = drop_parts_formula n (drop_parts n)
formula_of_label Fps30 n = number_numbered Fps30 n

pub count_of_label : (n : ℕ) (r : TimeCodeType) → frame_count (label_at n r) ≡ n % day_of r
unfolding frame_count label_at
count_of_label n r = ap (λ (k : ℕ). k % day_of r) (formula_of_label r (n % day_of r)) ∙ mod-mod n (day_of r)

-- ---- the label of a valid label's count

drop_number : (h m s f : ℕ) → s ≤ 59 → f < 30 → NotDropped m s f
    → with_skipped Fps30Drop (formula Fps30Drop (h * 60 + m) s f) ≡ plain_number Fps30Drop (h * 60 + m) s f
drop_number h m s f hs hf k =
    let t : ℕ = (h * 60 + m) / 10 in
    let u : ℕ = (h * 60 + m) % 10 in
    let out : formula Fps30Drop (h * 60 + m) s f ≡ 17982 * t + (1798 * u + (s * 30 + f)) = omega arith in
    ap (with_skipped Fps30Drop) out
    ∙ put_back t u (s * 30 + f) (mod-lt (h * 60 + m) (lit< tt)) (omega arith) (kept k)
    ∙ back
  where
    kept : NotDropped m s f → ((h * 60 + m) % 10 ≡ 0) ⊎ (2 ≤ s * 30 + f)
    kept (inl e) = inl (omega arith)
    kept (inr l) = inr l

    back : 18000 * ((h * 60 + m) / 10) + (1800 * ((h * 60 + m) % 10) + (s * 30 + f)) ≡ ((h * 60 + m) * 60 + s) * 30 + f
    back = omega arith

number_of_label : (r : TimeCodeType) (h m s f : ℕ) → InRange (label r h m s f)
    → with_skipped r (formula r (h * 60 + m) s f) ≡ plain_number r (h * 60 + m) s f
number_of_label Fps24 h m s f k = refl
number_of_label Fps25 h m s f k = refl
number_of_label Fps30Drop h m s f k = drop_number h m s f k.seconds k.frames (skipped_kept h m s f k.kept)
number_of_label Fps30 h m s f k = refl

-- The formula of a valid label is below the day.
pub formula_below : (r : TimeCodeType) (h m s f : ℕ) → h ≤ 23 → m ≤ 59 → s ≤ 59 → f < frames_per_second r → formula r (h * 60 + m) s f < day_of r
formula_below Fps24 h m s f hh hm hs hf = omega arith
formula_below Fps25 h m s f hh hm hs hf = omega arith
formula_below Fps30Drop h m s f hh hm hs hf = omega arith
formula_below Fps30 h m s f hh hm hs hf = omega arith

-- A valid label's count is the formula, unreduced.
pub count_is_formula : (t : MtcTime) → T (is_valid t)
    → frame_count t ≡ formula t.rate (t.hours * 60 + t.minutes) t.seconds t.frames
unfolding frame_count
count_is_formula t v =
    let k : InRange t = valid_facts t v in
    mod-eq_of_lt (formula_below t.rate t.hours t.minutes t.seconds t.frames k.hours k.minutes k.seconds k.frames)

pub label_of_count : (t : MtcTime) → T (is_valid t) → label_at (frame_count t) t.rate ≡ t
unfolding label_at
label_of_count t v =
    let k : InRange t = valid_facts t v in
    let r : TimeCodeType = t.rate in
    let below : formula r (t.hours * 60 + t.minutes) t.seconds t.frames < day_of r
    = formula_below r t.hours t.minutes t.seconds t.frames k.hours k.minutes k.seconds k.frames in
    ap (λ (n : ℕ). numbered r (with_skipped r (n % day_of r))) (count_is_formula t v)
    ∙ ap (λ (n : ℕ). numbered r (with_skipped r n)) (mod-eq_of_lt below)
    ∙ ap (numbered r) (number_of_label r t.hours t.minutes t.seconds t.frames k)
    ∙ numbered_number r t.hours t.minutes t.seconds t.frames k.minutes k.seconds k.frames

-- ---- every count's label is valid

hours_below : (fps n : ℕ) → n / fps < 86400 → n / fps / 3600 ≤ 23
hours_below fps n h = omega arith

drop_seconds_below : (n : ℕ) → n < 2589408 → with_skipped Fps30Drop n / 30 < 86400
drop_seconds_below n h = omega arith

pub seconds_below : (r : TimeCodeType) (n : ℕ) → n < day_of r → with_skipped r n / frames_per_second r < 86400
seconds_below Fps24 n h = omega arith
seconds_below Fps25 n h = omega arith
seconds_below Fps30Drop n h = drop_seconds_below n h
seconds_below Fps30 n h = omega arith

drop_kept : (n : ℕ) → DropParts n → is_skipped (numbered Fps30Drop (with_skipped Fps30Drop n)) ≡ false
drop_kept n p =
    ap (λ (k : ℕ). is_skipped (numbered Fps30Drop k))
    (ap (with_skipped Fps30Drop) p.whole ∙ put_back p.tens p.minute p.place p.minute_small p.place_small p.kept)
    ∙ kept_skipped _ _ _ _ (kept p.tens p.minute p.place p.minute_small p.place_small p.kept)
  where
    kept : (t u x : ℕ) → u < 10 → x < 1800 → (u ≡ 0) ⊎ (2 ≤ x)
        → NotDropped ((18000 * t + (1800 * u + x)) / 30 / 60 % 60) ((18000 * t + (1800 * u + x)) / 30 % 60) ((18000 * t + (1800 * u + x)) % 30)
    kept t u x hu hx (inl e) = inl (omega arith)
    kept t u x hu hx (inr l) = inr (omega arith)

never_skipped_at : (r : TimeCodeType) (n : ℕ) → is_skipped (numbered r (with_skipped r n)) ≡ false
unfolding is_skipped
never_skipped_at Fps24 n = refl
never_skipped_at Fps25 n = refl
never_skipped_at Fps30Drop n = drop_kept n (drop_parts n)
never_skipped_at Fps30 n = refl

pub label_valid : (n : ℕ) (r : TimeCodeType) → T (is_valid (label_at n r))
unfolding label_at
label_valid n r =
    let m : ℕ = with_skipped r (n % day_of r) in
    facts_valid (numbered r m)
    (record {
      hours = hours_below (frames_per_second r) m (seconds_below r (n % day_of r) (mod-lt n (day_positive r)));
      minutes = omega (arith, mod-lt (m / frames_per_second r / 60) {m = 60} (lit< tt));
      seconds = omega (arith, mod-lt (m / frames_per_second r) {m = 60} (lit< tt));
      frames = mod-lt m (fps_positive r);
      kept = never_skipped_at r (n % day_of r);
    })
