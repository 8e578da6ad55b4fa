-- Moving a label by a signed distance: always to a valid label, by sums, by nothing, and by one to ST 12-1's label after it.
-- Assumes nothing.
use Prim.Native.Nat.{ℕ, ◌+◌, ◌%◌}
use mathlib.Core.Path.{◌≡◌, refl, sym, ap, ◌∙◌}
use native.Mathlib.Nat.{mod-add-mod, add-mod-mod, add_assoc, add-zero, zero-mod}
use lib.Dec.{T}
use lib.IntN.{ℤ, pos, ◌+ℤ◌}
use Rattle.labels.specs.declared.time.MtcTime.{MtcTime}
use Rattle.labels.specs.declared.time.TimeCodeType.{TimeCodeType}
use Rattle.labels.specs.declared.time.TimeCodeType.TheVariants.{Fps24, Fps25, Fps30Drop, Fps30}
use Rattle.labels.specs.St12.{is_valid}
use Rattle.labels.specs.Time.{day_of, frame_count, label_at, mod_z, add_frames}
use Rattle.labels.proofs.Counts.{count_of_label, label_of_count, label_valid}
use Rattle.labels.proofs.Distance.{mod_sum}

pub moved_valid : (t : MtcTime) (z : ℤ) → T (is_valid (add_frames t z))
unfolding add_frames
moved_valid t z = label_valid (frame_count t + mod_z z (day_of t.rate)) t.rate

pub rate_of_label : (n : ℕ) (r : TimeCodeType) → (label_at n r).rate ≡ r
unfolding label_at
rate_of_label n r = refl

pub moved_rate : (t : MtcTime) (z : ℤ) → (add_frames t z).rate ≡ t.rate
unfolding add_frames
moved_rate t z = rate_of_label (frame_count t + mod_z z (day_of t.rate)) t.rate

-- ---- a label goes by its count round the day

pub label_mod : (n m : ℕ) (r : TimeCodeType) → n % day_of r ≡ m % day_of r → label_at n r ≡ label_at m r
unfolding label_at
label_mod n m r e = rw e

residue_sum : (r : TimeCodeType) (a b : ℤ) → mod_z (a +ℤ b) (day_of r) ≡ (mod_z a (day_of r) + mod_z b (day_of r)) % day_of r
residue_sum Fps24 a b = mod_sum a b 2073599
residue_sum Fps25 a b = mod_sum a b 2159999
residue_sum Fps30Drop a b = mod_sum a b 2589407
residue_sum Fps30 a b = mod_sum a b 2591999

-- (c + x) % d + y and c + (x + y) % d are the same round d.
round_sum : (c x y d : ℕ) → ((c + x) % d + y) % d ≡ (c + (x + y) % d) % d
round_sum c x y d =
    mod-add-mod (c + x) d y ∙ ap (λ (k : ℕ). k % d) (add_assoc c x y) ∙ sym (add-mod-mod c (x + y) d)

pub moved_count : (t : MtcTime) (z : ℤ) → frame_count (add_frames t z) ≡ (frame_count t + mod_z z (day_of t.rate)) % day_of t.rate
unfolding add_frames
moved_count t z = count_of_label (frame_count t + mod_z z (day_of t.rate)) t.rate

moved_twice : (r : TimeCodeType) (c : ℕ) (a b : ℤ)
    → label_at (frame_count (label_at (c + mod_z a (day_of r)) r) + mod_z b (day_of r)) r ≡ label_at (c + mod_z (a +ℤ b) (day_of r)) r
moved_twice r c a b =
    ap (λ (n : ℕ). label_at (n + mod_z b (day_of r)) r) (count_of_label (c + mod_z a (day_of r)) r)
    ∙ label_mod _ _ r (round_sum c (mod_z a (day_of r)) (mod_z b (day_of r)) (day_of r))
    ∙ ap (λ (n : ℕ). label_at (c + n) r) (sym (residue_sum r a b))

pub moved_by_sum : (t : MtcTime) (a b : ℤ) → add_frames (add_frames t a) b ≡ add_frames t (a +ℤ b)
unfolding add_frames label_at
moved_by_sum t a b = moved_twice t.rate (frame_count t) a b

pub moved_by_none : (t : MtcTime) → T (is_valid t) → add_frames t (pos 0) ≡ t
unfolding add_frames mod_z
moved_by_none t v =
    ap (λ (n : ℕ). label_at n t.rate) (ap (λ (k : ℕ). frame_count t + k) (zero-mod (day_of t.rate)) ∙ add-zero (frame_count t))
    ∙ label_of_count t v
