-- Lemmas on emissions: an emission after bytes that went out, and answers told apart. Assumes nothing.
use Rattle.std.specs.Prelude.{Option, Some, None}
use mathlib.Core.Path.{◌≡◌, refl, ap}
use Prim.Native.Nat.{ℕ}
use native.Mathlib.Omega.{arith}
use mathlib.Core.List.{List, ◌++◌, append_assoc}
use Rattle.universal.specs.Refusals.{Refusal, Answer, gives, refused}
use Rattle.universal.specs.Emission.{Emission, resume, ◌then◌}

-- Bytes that went out stand before whatever follows.
pub resume_after : (bs : List ℕ) (d e : Emission) → resume bs None d then e ≡ resume bs None (d then e)
resume_after bs d e = go d.stop
  where
    go : (s : Option Refusal) → resume (bs ++ d.bytes) s e ≡ resume bs None (resume d.bytes s e)
    go None = ap (λ (l : List ℕ). record { bytes = l; stop = e.stop }) (append_assoc bs d.bytes e.bytes)
    go (Some r) = refl

-- A value is no refusal.
pub gives_refused : {A : Type 0} (a : A) (r : Refusal) → ◌≡◌ {A = Answer A} (refused r) (gives a) → ⊥
gives_refused a r h = let z : ◌≡◌ {A = ℕ} 0 1 = cc in omega arith

-- Nothing is no refusal.
pub none_some : (r : Refusal) → ◌≡◌ {A = Option Refusal} (Some r) None → ⊥
none_some r h = let z : ◌≡◌ {A = ℕ} 0 1 = cc in omega arith
