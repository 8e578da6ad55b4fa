-- What each rate's numbers are bounded by, and what the calls rest on that count and move labels. Assumes nothing.
use Prim.Native.Nat.{ℕ, ◌+◌, ◌*◌, ◌/◌, ◌%◌, ◌≤◌, ◌<◌}
use mathlib.Core.Path.{◌≡◌, refl, sym, ap, subst}
use mathlib.Core.Bool.{true, false}
use native.Mathlib.Nat.{mod-lt}
use native.Mathlib.Omega.{arith}
use lib.Dec.{T, lit<, lit≤}
use lib.IntN.{ℤ}
use mir.Syntax.{w32}
use mir.Val.{Fits}
use Rattle.labels.specs.declared.time.MtcTime.{MtcTime}
use Rattle.labels.specs.declared.time.TimeCodeType.{TimeCodeType}
use Rattle.labels.specs.declared.time.TimeCodeType.TheVariants.{Fps24, Fps25, Fps30Drop, Fps30}
use Rattle.labels.specs.St12.{frames_per_second, is_drop_frame}
use Rattle.labels.specs.Time.{bits_of, type_of, day_of, formula, frame_count, with_skipped, label_at_second, label_at, mod_z, add_frames}
use Rattle.labels.proofs.Distance.{mod_below}

pub bits_small : (r : TimeCodeType) → bits_of r ≤ 3
bits_small Fps24 = lit≤ tt
bits_small Fps25 = lit≤ tt
bits_small Fps30Drop = lit≤ tt
bits_small Fps30 = lit≤ tt

-- Its bits tell the rate.
pub rate_back : (r : TimeCodeType) → type_of (bits_of r) ≡ r
rate_back Fps24 = refl
rate_back Fps25 = refl
rate_back Fps30Drop = refl
rate_back Fps30 = refl

pub fps_small : (r : TimeCodeType) → frames_per_second r ≤ 30
fps_small Fps24 = lit≤ tt
fps_small Fps25 = lit≤ tt
fps_small Fps30Drop = lit≤ tt
fps_small Fps30 = lit≤ tt

pub fps_positive : (r : TimeCodeType) → 0 < frames_per_second r
fps_positive Fps24 = lit< tt
fps_positive Fps25 = lit< tt
fps_positive Fps30Drop = lit< tt
fps_positive Fps30 = lit< tt

pub day_positive : (r : TimeCodeType) → 0 < day_of r
day_positive Fps24 = lit< tt
day_positive Fps25 = lit< tt
day_positive Fps30Drop = lit< tt
day_positive Fps30 = lit< tt

pub day_small : (r : TimeCodeType) → day_of r ≤ 2592000
day_small Fps24 = lit≤ tt
day_small Fps25 = lit≤ tt
day_small Fps30Drop = lit≤ tt
day_small Fps30 = lit≤ tt

-- A count is below the day.
pub count_below : (t : MtcTime) → frame_count t < day_of t.rate
unfolding frame_count
count_below t = mod-lt _ (day_positive t.rate)

-- ---- the count, by the formula of the rate

even_formula : (r : TimeCodeType) (m s f : ℕ) → is_drop_frame r ≡ false → (m * 60 + s) * frames_per_second r + f ≡ formula r m s f
even_formula Fps24 m s f d = refl
even_formula Fps25 m s f d = refl
even_formula Fps30Drop m s f d = absurd (subst T d tt)
even_formula Fps30 m s f d = refl

-- The rate that drops numbers is one.
pub drop_rate : (r : TimeCodeType) → is_drop_frame r ≡ true → r ≡ Fps30Drop
drop_rate Fps24 e = absurd (subst T (sym e) tt)
drop_rate Fps25 e = absurd (subst T (sym e) tt)
drop_rate Fps30Drop e = refl
drop_rate Fps30 e = absurd (subst T (sym e) tt)

module _ (t : MtcTime) (n d : ℕ) (ed : d ≡ day_of t.rate) where
  pub drop_by_formula : (m : ℕ) → n ≡ formula Fps30Drop m t.seconds t.frames → m ≡ t.hours * 60 + t.minutes → is_drop_frame t.rate ≡ true
      → n % d ≡ frame_count t
  unfolding frame_count
  drop_by_formula m en em k =
      rw (en, em, ed)
      (ap (λ (r : TimeCodeType). formula r (t.hours * 60 + t.minutes) t.seconds t.frames % day_of t.rate) (sym (drop_rate t.rate k)))

  pub even_by_formula : n ≡ frames_per_second t.rate → is_drop_frame t.rate ≡ false
      → (((t.hours * 60 + t.minutes) * 60 + t.seconds) * n + t.frames) % d ≡ frame_count t
  unfolding frame_count
  even_by_formula en k =
      rw (en, ed) (ap (λ (x : ℕ). x % day_of t.rate) (even_formula t.rate (t.hours * 60 + t.minutes) t.seconds t.frames k))

-- ---- the label of a count

pub label_at_lem : (n k d p : ℕ) (r : TimeCodeType) → d ≡ day_of r → k ≡ with_skipped r (n % d) → p ≡ frames_per_second r
    → label_at_second r (k / p) (k % p) ≡ label_at n r
unfolding label_at
label_at_lem n k d p r ed ek ep = rw (ek, ep, ed)

-- ---- moving by a distance

pub sum_fits : (t : MtcTime) (z : ℤ) (d k s : ℕ) → k ≡ frame_count t → d ≡ day_of t.rate → s ≡ mod_z z d → Fits w32 (k + s)
sum_fits t z d k s ek ed es =
    record { fits = omega (arith, ek, es, ed, count_below t, day_small t.rate, mod_below z d (rw ed (day_positive t.rate))) }

pub moved_at : (t : MtcTime) (z : ℤ) (d k s : ℕ) → k ≡ frame_count t → d ≡ day_of t.rate → s ≡ mod_z z d
    → label_at (k + s) t.rate ≡ add_frames t z
unfolding add_frames
moved_at t z d k s ek ed es = rw (ek, es, ed)
