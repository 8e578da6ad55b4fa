-- `universal::error::SysexError::of_number` meets its contract. Assumes nothing.
use Prim.Native.Nat.{ℕ, ◌<◌}
use mathlib.Core.Path.{◌≡◌, ◌∙◌}
use native.Mathlib.Omega.{arith}
use borrow.Author.Tests.{ne_eqb}
use Rattle.universal.specs.Refusals.{error_from_10, error_of}
use Rattle.universal.proofs.error.SysexError.of_number.Goals as goal

-- Above 9 the refusal of a number is that of `error_from_10`.
above_9 : (n needed : ℕ) → 9 < n → error_from_10 n ≡ error_of n needed
unfolding error_of
above_9 n needed h =
    rw (
      ne_eqb n 1 (λ q. omega arith),
      ne_eqb n 2 (λ q. omega arith),
      ne_eqb n 3 (λ q. omega arith),
      ne_eqb n 4 (λ q. omega arith),
      ne_eqb n 5 (λ q. omega arith),
      ne_eqb n 6 (λ q. omega arith),
      ne_eqb n 7 (λ q. omega arith),
      ne_eqb n 8 (λ q. omega arith),
      ne_eqb n 9 (λ q. omega arith),
    )

pub returns-then-number-gt9 : goal.returns-then-number-gt9
returns-then-number-gt9 c = c.from_10.ensures ∙ above_9 _ _ c.if-number-gt9.true

pub returns-in-1 : goal.returns-in-1
unfolding error_of
returns-in-1 c = rw c.in-1.is

pub returns-in-2 : goal.returns-in-2
unfolding error_of
returns-in-2 c = rw c.in-2.is

pub returns-in-3 : goal.returns-in-3
unfolding error_of
returns-in-3 c = rw c.in-3.is

pub returns-in-4 : goal.returns-in-4
unfolding error_of
returns-in-4 c = rw c.in-4.is

pub returns-in-5 : goal.returns-in-5
unfolding error_of
returns-in-5 c = rw c.in-5.is

pub returns-in-6 : goal.returns-in-6
unfolding error_of
returns-in-6 c = rw c.in-6.is

pub returns-in-7 : goal.returns-in-7
unfolding error_of
returns-in-7 c = rw c.in-7.is

pub returns-in-8 : goal.returns-in-8
unfolding error_of
returns-in-8 c = rw c.in-8.is

pub returns-in-9 : goal.returns-in-9
unfolding error_of
returns-in-9 c = rw c.in-9.is

pub returns-in_default : goal.returns-in_default
unfolding error_of error_from_10
returns-in_default c =
    let others = c.in_default.in_default-own.rest in
    rw (
      ne_eqb _ _ others.0.0.0.0.0.0.0.0.1,
      ne_eqb _ _ others.0.0.0.0.0.0.0.1,
      ne_eqb _ _ others.0.0.0.0.0.0.1,
      ne_eqb _ _ others.0.0.0.0.0.1,
      ne_eqb _ _ others.0.0.0.0.1,
      ne_eqb _ _ others.0.0.0.1,
      ne_eqb _ _ others.0.0.1,
      ne_eqb _ _ others.0.1,
      ne_eqb _ _ others.1,
      ne_eqb c.args.number 11 (λ q. omega (arith, c.if-number-gt9.false)),
      ne_eqb c.args.number 12 (λ q. omega (arith, c.if-number-gt9.false)),
      ne_eqb c.args.number 13 (λ q. omega (arith, c.if-number-gt9.false)),
    )
