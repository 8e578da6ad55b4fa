-- Sums over the numbers below a bound. Assumes nothing.
use Prim.Native.Nat.{ℕ, zero, suc, ◌+◌, ◌-◌, ◌*◌, ◌≤◌, ◌<◌}
use mathlib.Core.Path.{◌≡◌, refl, sym, ap, ap₂, ◌∙◌}
use native.Mathlib.Nat.{add-zero, add-suc, zero-mul, le_refl, le_step}
use native.Mathlib.Omega.{arith}
use Rattle.labels.specs.St12.{sum}

-- Sums of what agrees below the bound agree.
pub sum_below : (n : ℕ) (f g : ℕ → ℕ) → ((i : ℕ) → i < n → f i ≡ g i) → sum n f ≡ sum n g
unfolding sum
sum_below zero f g e = refl
sum_below (suc n) f g e = ap₂ (λ (x y : ℕ). x + y) (sum_below n f g (λ i h. e i (le_step h))) (e n (le_refl (suc n)))

-- What is zero from a number on adds nothing from there.
pub sum_cut : (n m : ℕ) (f : ℕ → ℕ) → ((i : ℕ) → m ≤ i → f i ≡ 0) → sum (m + n) f ≡ sum m f
unfolding sum
sum_cut zero m f e = ap (λ (k : ℕ). sum k f) (add-zero m)
sum_cut (suc n) m f e =
    ap (λ (k : ℕ). sum k f) (add-suc m n)
    ∙ ap₂ (λ (x y : ℕ). x + y) (sum_cut n m f e) (e (m + n) (omega arith))
    ∙ add-zero (sum m f)

-- Below x as g, at x the number b, above x nothing.
pub sum_to : (n x b : ℕ) (f g : ℕ → ℕ) → x < n → ((i : ℕ) → i < x → f i ≡ g i) → f x ≡ b → ((i : ℕ) → x < i → f i ≡ 0)
    → sum n f ≡ sum x g + b
unfolding sum
sum_to n x b f g h below here above =
    ap (λ (k : ℕ). sum k f) whole
    ∙ sum_cut (n - suc x) (suc x) f above
    ∙ ap₂ (λ (k y : ℕ). k + y) (sum_below x f g below) here
  where
    whole : n ≡ suc x + (n - suc x)
    whole = omega arith

-- The same number each time.
pub sum_same : (n c : ℕ) (f : ℕ → ℕ) → ((i : ℕ) → i < n → f i ≡ c) → sum n f ≡ n * c
unfolding sum
sum_same zero c f e = sym (zero-mul c)
sum_same (suc n) c f e = ap₂ (λ (x y : ℕ). x + y) (sum_same n c f (λ i h. e i (le_step h))) (e n (le_refl (suc n))) ∙ more
  where
    more : n * c + c ≡ suc n * c
    more = omega arith

pub sum_zero : (f : ℕ → ℕ) → sum 0 f ≡ 0
unfolding sum
sum_zero f = refl

pub sum_none : (n : ℕ) (f : ℕ → ℕ) → ((i : ℕ) → f i ≡ 0) → sum n f ≡ 0
unfolding sum
sum_none zero f e = refl
sum_none (suc n) f e = ap₂ (λ (x y : ℕ). x + y) (sum_none n f e) (e n)
