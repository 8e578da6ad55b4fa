-- The answers of a check: refused with zeros, or given with the bytes. Assumes nothing.
use Prim.Native.Nat.{ℕ}
use mathlib.Core.Path.{◌≡◌, refl, ap}
use mathlib.Core.Bool.{Bool, true, false, cond}
use mathlib.Core.List.{List}
use Rattle.universal.specs.Refusals.{Refusal, gives, refused}

-- Answers under the same check, with the same bytes where it passes.
pub answer_same : (a b : Bool) (xs ys : List ℕ) (r : Refusal) → a ≡ b → (a ≡ true → xs ≡ ys)
    → cond a (gives xs) (refused r) ≡ cond b (gives ys) (refused r)
answer_same a b xs ys r e same = rw (← e) (go a same)
  where
    go : (c : Bool) → (c ≡ true → xs ≡ ys) → cond c (gives xs) (refused r) ≡ cond c (gives ys) (refused r)
    go true s = ap gives (s refl)
    go false s = refl
