-- The short ways of the label calls: counts by the table of minute starts, labels by one quotient, labels as one number, and a few frames
-- away in the same second. Assumes nothing.
use Prim.Native.Nat.{ℕ, zero, suc, ◌+◌, ◌-◌, ◌*◌, ◌/◌, ◌%◌, ◌^◌, ◌≤◌, ◌<◌}
use mathlib.Core.Path.{◌≡◌, refl, sym, subst, ap, ◌∙◌}
use mathlib.Core.Bool.{false, true≢false}
use mathlib.Core.Logic.{inr}
use native.Mathlib.Nat.{mod-eq_of_lt, mul-le-mul_right, mul-sub, mul_assoc, mul_comm, mul-div-le, mul-add-div, mul-add-mod_self_left, div-add-mod, lt_of_mul-lt-mul_left}
use native.Mathlib.Omega.{arith}
use lib.Dec.{T, lit<, lit≤}
use lib.IntN.{ℤ, pos, negsuc, +ℤ_invr}
use mir.Syntax.{w32}
use mir.Val.{Fits}
use Rattle.labels.specs.declared.time.MtcTime.{MtcTime}
use Rattle.labels.specs.declared.time.TimeCodeType.{TimeCodeType}
use Rattle.labels.specs.declared.time.TimeCodeType.TheVariants.{Fps24, Fps25, Fps30Drop, Fps30}
use Rattle.labels.specs.MinuteStarts.{labels_of_minutes}
use Rattle.labels.specs.St12.{label, frames_per_second, is_drop_frame, is_valid}
use Rattle.labels.specs.Time.{bits_of, day_of, formula, frame_count, label_at_second, label_at, mod_z, add_frames}
use Rattle.labels.proofs.Laws.{count_by_formula, from_next_start, count_below, even_label, drop_split, label_round, moved_by_count, moved_by_sum, moved_by_none, frames_later, in_range_valid, mod_below, valid_widths, bits_small, fps_small}
use Rattle.fast_mtc.specs.Label.{label_number}

-- ---- rates by their bits

pub is_drop : (r : TimeCodeType) → bits_of r ≡ 2 → r ≡ Fps30Drop
is_drop Fps24 e = absurd (omega arith)
is_drop Fps25 e = absurd (omega arith)
is_drop Fps30Drop e = refl
is_drop Fps30 e = absurd (omega arith)

pub two_fit : (r : TimeCodeType) → 2 ≤ frames_per_second r
two_fit Fps24 = lit≤ tt
two_fit Fps25 = lit≤ tt
two_fit Fps30Drop = lit≤ tt
two_fit Fps30 = lit≤ tt

-- ---- counts

-- At drop-frame, back from the start of the next minute.
pub by_next_start : (t : MtcTime) (back n : ℕ) → bits_of t.rate ≡ 2 → t.hours < 256 → t.minutes < 256 → t.seconds < 256 → t.frames < 256
    → back ≡ (t.hours * 107892 + t.seconds * 30 + t.frames + (2 ^ 32 - 1800)) % 2 ^ 32
    → n ≡ (back + labels_of_minutes (t.minutes + 1)) % 2 ^ 32 % 2589408 → n ≡ frame_count t
by_next_start t back n e hh hm hs hf eb en =
    let up : (back + labels_of_minutes (t.minutes + 1)) % 2 ^ 32 ≡ t.hours * 107892 + t.seconds * 30 + t.frames + labels_of_minutes (t.minutes + 1) - 1800
    = omega (arith, hh, hm, hs, hf, eb) in
    en
    ∙ ap (λ (x : ℕ). x % 2589408) (up ∙ from_next_start t.hours t.minutes t.seconds t.frames)
    ∙ subst (λ (r : TimeCodeType). formula r (t.hours * 60 + t.minutes) t.seconds t.frames % day_of r ≡ frame_count t)
    (is_drop t.rate e) (sym (count_by_formula t))

-- At any other rate the frames of whole seconds and those of the label.
pub even_frame_count : (t : MtcTime) (n : ℕ) → (bits_of t.rate ≡ 2 → ⊥)
    → n ≡ (((t.hours * 60 + t.minutes) * 60 + t.seconds) * frames_per_second t.rate + t.frames) % (86400 * frames_per_second t.rate) → n ≡ frame_count t
even_frame_count t n k h = h ∙ go t.rate k ∙ sym (count_by_formula t)
  where
    go : (r : TimeCodeType) → (bits_of r ≡ 2 → ⊥)
        → (((t.hours * 60 + t.minutes) * 60 + t.seconds) * frames_per_second r + t.frames) % (86400 * frames_per_second r)
        ≡ formula r (t.hours * 60 + t.minutes) t.seconds t.frames % day_of r
    go Fps24 k = refl
    go Fps25 k = refl
    go Fps30Drop k = absurd (k refl)
    go Fps30 k = refl

-- ---- labels

-- At drop-frame by the minute that the quotient gives, at a place past the first two.
pub by_quotient : (n m x : ℕ) → n < 2589408 → m ≡ n * 5 / 8991 → x ≡ n - (m * 1798 + m / 10 * 2) → 2 ≤ x
    → label_at_second Fps30Drop (m * 60 + x / 30) (x % 30) ≡ label_at n Fps30Drop
by_quotient n m x k em ex h =
    let low : m * 8991 ≤ n * 5 = omega (arith, em) in
    let high : n * 5 < m * 8991 + 8991 = omega (arith, em) in
    let whole : n ≡ 17982 * (m / 10) + (1798 * (m % 10) + x) = omega (arith, low, ex) in
    let small : x < 1800 = omega (arith, low, high, ex) in
    let minute : m ≡ 10 * (m / 10) + m % 10 = omega arith in
    ap (λ (k : ℕ). label_at_second Fps30Drop (k * 60 + x / 30) (x % 30)) minute
    ∙ sym (drop_split n (m / 10) (m % 10) x (mod-eq_of_lt k ∙ whole) (omega arith) small (inr h))

pub drop_at : (n k : ℕ) (s : TimeCodeType) → bits_of s ≡ 2 → k ≡ n % 2589408 → label_at k Fps30Drop ≡ label_at n s
drop_at n k s e h = rw (h, is_drop s e) (label_round n Fps30Drop)

-- ---- one number

-- A rate of so many frames a second, in these two bits.
module _ (r : TimeCodeType) (f b : ℕ) (ef : f ≡ frames_per_second r) (eb : b ≡ bits_of r) where
  positive : 0 < f
  positive = omega (arith, ef, two_fit r)

  few : f ≤ 30
  few = rw ef (fps_small r)

  -- A quotient by the frames below a minute's is a second of the minute.
  second_small : (x : ℕ) → x < 60 * f → x / f < 60
  second_small x h = lt_of_mul-lt-mul_left f (omega (arith, div-add-mod x f, mul_comm 60 f))

  -- A second takes its frames off and adds itself.
  second_off : (s : ℕ) → s * (f * 16777216 - 65536) ≡ f * s * 16777216 - s * 65536
  second_off s = mul-sub s (f * 16777216) 65536 ∙ ap (λ (n : ℕ). n - s * 65536) (sym (mul_assoc s f 16777216) ∙ ap (λ (n : ℕ). n * 16777216) (mul_comm s f))

  -- A minute of the day and a place in it as one number.
  pub in_number : (m x : ℕ) → m < 1440 → x < 60 * f
      → m * 256 - m / 60 * 15359 + (x * 16777216 - x / f * (f * 16777216 - 65536)) + b * 4294967296
      ≡ label_number (label_at_second r (m * 60 + x / f) (x % f))
  unfolding label_number
  in_number m x hm hx =
      let s : x / f < 60 = second_small x hx in
      let hours : (m * 60 + x / f) / 3600 ≡ m / 60 = omega arith in
      let minutes : (m * 60 + x / f) / 60 % 60 ≡ m - m / 60 * 60 = omega arith in
      let seconds : (m * 60 + x / f) % 60 ≡ x / f = omega arith in
      rw (hours, minutes, seconds, second_off (x / f), eb)
      (numbers (m / 60) (m - m / 60 * 60) (x / f) (x % f) (f * (x / f)) m x (bits_of r * 4294967296) (omega arith) (sym (div-add-mod x f)) (omega (arith, mul-le-mul_right (x / f) positive)))
    where
      numbers : (h u s g y m x k : ℕ) → m ≡ h * 60 + u → x ≡ y + g → s ≤ y
          → m * 256 - h * 15359 + (x * 16777216 - (y * 16777216 - s * 65536)) + k ≡ h + u * 256 + s * 65536 + g * 16777216 + k
      numbers h u s g y m x k em ex hs = omega arith

  -- The minute of a count of the day, and the place in it.
  module _ (n : ℕ) where
    abbrev minute : ℕ
    minute = n / (60 * f)

    abbrev place : ℕ
    place = n - minute * (60 * f)

    whole : n ≡ f * (minute * 60) + place
    whole = omega (arith, mul-div-le n (60 * f), parts)
      where
        parts : minute * (60 * f) ≡ f * (minute * 60)
        parts = sym (mul_assoc minute 60 f) ∙ mul_comm (minute * 60) f

    at_second : label_at_second r (minute * 60 + place / f) (place % f) ≡ label_at_second r (n / f) (n % f)
    at_second =
        let q : n / f ≡ minute * 60 + place / f = ap (λ (x : ℕ). x / f) whole ∙ mul-add-div positive (minute * 60) place in
        let x : n % f ≡ place % f = ap (λ (x : ℕ). x % f) whole ∙ mul-add-mod_self_left f (minute * 60) place in
        rw (q, x)

  -- The label of any count, by the one that is left of it in the day.
  pub by_minute : (n k : ℕ) → is_drop_frame r ≡ false → k ≡ n % (86400 * f)
      → label_at_second r (minute k * 60 + place k / f) (place k % f) ≡ label_at n r
  by_minute n k d e =
      let day : 86400 * f ≡ day_of r = rw ef (even_day r d) in
      at_second k ∙ rw (e, day, ef) (sym (even_label n r d))
    where
      even_day : (r : TimeCodeType) → is_drop_frame r ≡ false → 86400 * frames_per_second r ≡ day_of r
      even_day Fps24 d = refl
      even_day Fps25 d = refl
      even_day Fps30Drop d = absurd (true≢false d)
      even_day Fps30 d = refl

-- Its bytes are the counts and the rate.
pub number_bytes : (t : MtcTime) → T (is_valid t) → (label_number t % 256 ≡ t.hours)
    × ((label_number t / 256 % 256 ≡ t.minutes)
    × ((label_number t / 65536 % 256 ≡ t.seconds)
    × ((label_number t / 16777216 % 256 ≡ t.frames) × (label_number t / 4294967296 % 256 ≡ bits_of t.rate))))
unfolding label_number
number_bytes t v =
    let k = valid_widths t v in
    bytes t.hours t.minutes t.seconds t.frames (bits_of t.rate) (omega (arith, k.hours)) (omega (arith, k.minutes))
    (omega (arith, k.seconds)) (omega (arith, k.frames)) (omega (arith, bits_small t.rate))
  where
    bytes : (h m s f b : ℕ) → h < 256 → m < 256 → s < 256 → f < 256 → b < 256
        → ((h + m * 256 + s * 65536 + f * 16777216 + b * 4294967296) % 256 ≡ h)
        × (((h + m * 256 + s * 65536 + f * 16777216 + b * 4294967296) / 256 % 256 ≡ m)
        × (((h + m * 256 + s * 65536 + f * 16777216 + b * 4294967296) / 65536 % 256 ≡ s)
        × (((h + m * 256 + s * 65536 + f * 16777216 + b * 4294967296) / 16777216 % 256 ≡ f)
        × ((h + m * 256 + s * 65536 + f * 16777216 + b * 4294967296) / 4294967296 % 256 ≡ b))))
    bytes h m s f b hh hm hs hf hb =
        let p : (h + m * 256 + s * 65536 + f * 16777216 + b * 4294967296) / 256 ≡ m + s * 256 + f * 65536 + b * 16777216 = omega arith in
        let q : (h + m * 256 + s * 65536 + f * 16777216 + b * 4294967296) / 65536 ≡ s + f * 256 + b * 65536 = omega arith in
        let r : (h + m * 256 + s * 65536 + f * 16777216 + b * 4294967296) / 16777216 ≡ f + b * 256 = omega arith in
        let u : (h + m * 256 + s * 65536 + f * 16777216 + b * 4294967296) / 4294967296 ≡ b = omega arith in
        let a : (h + m * 256 + s * 65536 + f * 16777216 + b * 4294967296) % 256 ≡ h = omega arith in
        let c : (m + s * 256 + f * 65536 + b * 16777216) % 256 ≡ m = omega arith in
        let d : (s + f * 256 + b * 65536) % 256 ≡ s = omega arith in
        let e : (f + b * 256) % 256 ≡ f = omega arith in
        let g : b % 256 ≡ b = omega arith in
        (a, (rw p c, (rw q d, (rw r e, rw u g))))

-- ---- moves

-- A count of the day and a residue, which at most once pass the day.
pub moved_fits : (n s : ℕ) (z : ℤ) → n < 2589408 → s ≡ mod_z z 2589408 → Fits w32 (n + s)
moved_fits n s z h e = record { fits = omega (arith, e, mod_below z 2589408 (lit< tt)) }

pub moved_once : (n s : ℕ) (z : ℤ) → n < 2589408 → s ≡ mod_z z 2589408 → 2589408 ≤ n + s
    → n + s - 2589408 ≡ (n + mod_z z 2589408) % 2589408
moved_once n s z h e hk =
    let below : s < 2589408 = omega (arith, e, mod_below z 2589408 (lit< tt)) in
    let once : n + s - 2589408 ≡ (n + s) % 2589408 = omega (arith, below) in
    once ∙ ap (λ (k : ℕ). (n + k) % 2589408) e

pub drop_count_below : (t : MtcTime) (n : ℕ) → bits_of t.rate ≡ 2 → n ≡ frame_count t → n < 2589408
drop_count_below t n e h = rw h (subst (λ (r : TimeCodeType). frame_count t < day_of r) (is_drop t.rate e) (count_below t))

pub drop_added : (t : MtcTime) (z : ℤ) (n k : ℕ) → bits_of t.rate ≡ 2 → n ≡ frame_count t → k ≡ (n + mod_z z 2589408) % 2589408
    → label_at k Fps30Drop ≡ add_frames t z
drop_added t z n k e h hk =
    ap (λ (x : ℕ). label_at x Fps30Drop) hk
    ∙ label_round (n + mod_z z 2589408) Fps30Drop
    ∙ ap (λ (x : ℕ). label_at (x + mod_z z 2589408) Fps30Drop) h
    ∙ subst (λ (r : TimeCodeType). label_at (frame_count t + mod_z z (day_of r)) r ≡ add_frames t z) (is_drop t.rate e) (sym (moved_by_count t z))

-- At any rate.
pub added : (t : MtcTime) (z : ℤ) (d k s : ℕ) → k ≡ frame_count t → d ≡ day_of t.rate → s ≡ mod_z z d
    → label_at (k + s) t.rate ≡ add_frames t z
added t z d k s ek ed es = rw (ek, es, ed) (sym (moved_by_count t z))

-- ---- a few frames away in the same second

module _ (r : TimeCodeType) (h m s f : ℕ) (hh : h ≤ 23) (hm : m ≤ 59) (hs : s ≤ 59) (low : 2 ≤ f) where
  -- From the third number of a second on none is skipped.
  same_second_valid : f < frames_per_second r → T (is_valid (label r h m s f))
  same_second_valid k = in_range_valid r h m s f hh hm hs k (λ d. inr (omega arith))

  frames_before : (k : ℕ) → f + suc k < frames_per_second r → add_frames (label r h m s (f + suc k)) (negsuc k) ≡ label r h m s f
  frames_before k l =
      ap (λ (t : MtcTime). add_frames t (negsuc k))
      (frames_later r h m s f (suc k) hh hm hs l (in_range_valid r h m s (f + suc k) hh hm hs l (λ d. inr (omega arith))))
      ∙ moved_by_sum (label r h m s f) (pos (suc k)) (negsuc k)
      ∙ ap (add_frames (label r h m s f)) (+ℤ_invr (pos (suc k)))
      ∙ moved_by_none (label r h m s f) (same_second_valid (omega arith))

-- Frames before, from the third number of a second on.
pub frames_earlier : (r : TimeCodeType) (h m s f k : ℕ) → h ≤ 23 → m ≤ 59 → s ≤ 59 → 1 ≤ k → k + 2 ≤ f → f < frames_per_second r
    → label r h m s (f - k) ≡ add_frames (label r h m s f) (negsuc (k - 1))
frames_earlier r h m s f zero hh hm hs least low l = absurd (omega arith)
frames_earlier r h m s f (suc k) hh hm hs least low l =
    let back : f - suc k + suc k ≡ f = omega arith in
    let one_off : suc k - 1 ≡ k = omega arith in
    rw one_off (sym (ap (λ (n : ℕ). add_frames (label r h m s n) (negsuc k)) (sym back) ∙ frames_before r h m s (f - suc k) hh hm hs (omega arith) k (omega arith)))
