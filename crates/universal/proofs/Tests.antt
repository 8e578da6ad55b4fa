-- Lemmas on the outcomes of tests, for this crate and those above: both of two, and two that are the same or not. Assumes nothing.
use mathlib.Core.Path.{◌≡◌, refl, sym, subst}
use mathlib.Core.Bool.{Bool, true, false, ◌&&◌, beq, false≢true}
use lib.Dec.{T}

-- Where both hold each does.
pub and_parts : (a b : Bool) → a && b ≡ true → (a ≡ true) × (b ≡ true)
and_parts true b h = (refl, h)
and_parts false b h = absurd (false≢true h)

-- Where one fails both do.
pub and_first : (a b : Bool) → a ≡ false → a && b ≡ false
and_first a b e = rw e

pub and_second : (a b : Bool) → b ≡ false → a && b ≡ false
and_second true b e = e
and_second false b e = refl

-- Where each holds both do.
pub and_all : (a b : Bool) → a ≡ true → b ≡ true → a && b ≡ true
and_all a b e f = rw (e, f)

-- A test that came out true holds, and one that holds came out true.
pub true_holds : (b : Bool) → b ≡ true → T b
true_holds b e = subst T (sym e) tt

pub holds_true : (b : Bool) → T b → b ≡ true
holds_true true h = refl
holds_true false h = absurd h

-- Outcomes that are the same compare so.
pub beq_same : (a b : Bool) → a ≡ b → beq a b ≡ true
beq_same true true h = refl
beq_same true false h = absurd (false≢true (sym h))
beq_same false true h = absurd (false≢true h)
beq_same false false h = refl

-- Outcomes that are not the same compare so.
pub beq_other : (a b : Bool) → (a ≡ b → ⊥) → beq a b ≡ false
beq_other true true h = absurd (h refl)
beq_other true false h = refl
beq_other false true h = refl
beq_other false false h = absurd (h refl)

-- Outcomes that compare as the same are.
pub beq_true : (a b : Bool) → beq a b ≡ true → a ≡ b
beq_true true true h = refl
beq_true true false h = absurd (false≢true h)
beq_true false true h = absurd (false≢true h)
beq_true false false h = refl
