-- Full and short names of time code fields, and their difference of 20H. Assumes nothing.
use Rattle.std.specs.Prelude.{Some, None}
use Prim.Native.Nat.{ℕ, ◌+◌, ◌-◌, ◌≤◌}
use mathlib.Core.Path.{◌≡◌, refl, sym}
use mathlib.Core.Bool.{Bool, true, false, cond, ◌&&◌}
use native.Mathlib.Omega.{arith}
use borrow.Author.Tests.{le-leb, leb-true}
use lib.Dec.{leb}
use Rattle.codes.specs.Rp013Code.{ShortNamed}
use Rattle.codes.specs.TimeCode.{short_name_of, full_name}

-- A name that is given under two tests: both hold, and it is that name.
pub name_told : (a b : Bool) (m n : ℕ) → cond (a && b) (Some m) None ≡ Some n → (a ≡ true) × (b ≡ true) × (m ≡ n)
name_told true true m n e = (refl, refl, cc)
name_told true false m n e = let z : ◌≡◌ {A = ℕ} 0 1 = cc in absurd (omega arith)
name_told false b m n e = let z : ◌≡◌ {A = ℕ} 0 1 = cc in absurd (omega arith)

-- Two tests that hold give the name.
pub name_given : (a b : Bool) (m n : ℕ) → a ≡ true → b ≡ true → m ≡ n → cond (a && b) (Some m) None ≡ Some n
name_given a b m n ea eb e = rw (ea, eb, e)

pub short_name_of_lem : (name short : ℕ) → ShortNamed name short → short_name_of name ≡ Some short
short_name_of_lem name short k = name_given _ _ _ _ (le-leb 1 name k.from) (le-leb name 31 k.to) (sym k.above)

pub full_name_of : (name short : ℕ) → ShortNamed name short → full_name short ≡ Some name
full_name_of name short k = name_given _ _ _ _ (le-leb 33 short (omega arith)) (le-leb short 63 (omega arith)) (omega arith)

pub of_short_name : (name short : ℕ) → short_name_of name ≡ Some short → ShortNamed name short
of_short_name name short e =
    let t : (leb 1 name ≡ true) × (leb name 31 ≡ true) × (name + 32 ≡ short) = name_told (leb 1 name) (leb name 31) _ _ e in
    record { from = leb-true 1 name t.0; to = leb-true name 31 t.1; above = sym t.2 }

pub of_full_name : (name short : ℕ) → full_name short ≡ Some name → ShortNamed name short
of_full_name name short e =
    let t : (leb 33 short ≡ true) × (leb short 63 ≡ true) × (short - 32 ≡ name) =
    name_told (leb 33 short) (leb short 63) _ _ e in
    let low : 33 ≤ short = leb-true 33 short t.0 in
    let high : short ≤ 63 = leb-true short 63 t.1 in
    record { from = omega arith; to = omega arith; above = omega arith }
