-- The order of a reader's words: how a piece stands to those before it, by the order alone. It is finite, so the law is one computed
-- test over every order and piece. Assumes nothing.
use Rattle.std.specs.Prelude.{Option, Some, None}
use Prim.Native.Nat.{ℕ, zero, suc, ◌+◌, ◌%◌, ◌≤◌, ◌<◌}
use mathlib.Core.Bool.{Bool, true, false, cond, ◌&&◌}
use mathlib.Core.Path.{◌≡◌, refl}
use native.Mathlib.Omega.{arith}
use borrow.Author.Tests.{ltb-true, ltb-false, lt-ltb, le-ltb, eqb-true, eqb-false, ne_eqb}
use lib.Dec.{T, ltb, eqb, lit≤, le→leb}
use Rattle.mtc.specs.Reader.{Control, Standing, ordered, order_after, piece_fits}
use Rattle.mtc.specs.Generator.{first, after, final, opposite}
use Rattle.mtc.specs.declared.generator.Direction.{Direction}
use Rattle.mtc.specs.declared.generator.Direction.TheVariants.{Forward, Reverse}
use Rattle.fast_mtc.specs.Clauses.{order_in, order_out, order_begun, InSequence, OutOfSequence, passing}
use Rattle.fast_mtc.specs.Reader.{way_in, last_in, count_in, first_in}

-- ---- how a piece stands, as the code finds it

-- In a direction, with the order of the next piece.
abbrev pub along : Direction → ℕ → ℕ → ℕ → Standing
along d next k p = cond (eqb k next) (ordered true (Some d) true) (ordered false (passing d k p) false)

-- After the first piece of a direction alone.
abbrev pub after_first : Direction → ℕ → Standing
after_first d p =
    cond (eqb p (after d (first d))) (ordered true (Some d) true)
    (cond (eqb p (final d)) (ordered false (Some (opposite d)) true) (ordered false None false))

abbrev pub standing_in : ℕ → ℕ → Standing
standing_in k p =
    cond (ltb k 8) (along Forward (order_in Forward p) k p)
    (cond (ltb k 16) (along Reverse (order_in Reverse p) k p)
    (cond (ltb k 24) (along Forward (order_out Forward p) k p)
    (cond (ltb k 32) (along Reverse (order_out Reverse p) k p)
    (cond (ltb k 40)
    (cond (eqb ((k + 1) % 8) p) (ordered false (Some Forward) true)
    (cond (eqb ((k + 7) % 8) p) (ordered false (Some Reverse) true) (ordered false None false)))
    (cond (eqb k 40) (after_first Forward p) (after_first Reverse p))))))

pub stands_inside : (d : Direction) (k p : ℕ) → InSequence d k → standing_in k p ≡ along d (order_in d p) k p
stands_inside Forward k p h = rw (lt-ltb k 8 h)
stands_inside Reverse k p h = rw (le-ltb k 8 h.0, lt-ltb k 16 h.1)

pub stands_outside : (d : Direction) (k p : ℕ) → OutOfSequence d k → standing_in k p ≡ along d (order_out d p) k p
stands_outside Forward k p h = rw (le-ltb k 8 (omega (arith, h.0)), le-ltb k 16 h.0, lt-ltb k 24 h.1)
stands_outside Reverse k p h = rw (le-ltb k 8 (omega (arith, h.0)), le-ltb k 16 (omega (arith, h.0)), le-ltb k 24 h.0, lt-ltb k 32 h.1)

pub stands_begun : (d : Direction) (p : ℕ) → standing_in (order_begun d) p ≡ after_first d p
stands_begun Forward p = refl
stands_begun Reverse p = refl

-- ---- the test

-- Every number below n passes.
all : ℕ → (ℕ → Bool) → Bool
all zero t = true
all (suc n) t = t n && all n t

both_of : (a b : Bool) → T (a && b) → T a × T b
both_of true true h = (tt, tt)
both_of true false h = absurd h
both_of false b h = absurd h

all_at : (n : ℕ) (t : ℕ → Bool) → T (all n t) → (k : ℕ) → k < n → T (t k)
unfolding all
all_at zero t h k l = absurd (omega arith)
all_at (suc n) t h k l = go (eqb k n) refl (λ m. all_at n t (both_of (t n) (all n t) h).1 k m)
  where
    go : (b : Bool) → eqb k n ≡ b → (k < n → T (t k)) → T (t k)
    go true e rest = rw (eqb-true k n e) (both_of (t n) (all n t) h).0
    go false e rest = let x : k ≡ n → ⊥ = eqb-false k n e in rest (omega (arith, x))

same_bool : Bool → Bool → Bool
same_bool true b = b
same_bool false true = false
same_bool false false = true

same_way : Option Direction → Option Direction → Bool
same_way None None = true
same_way None (Some d) = false
same_way (Some Forward) (Some Forward) = true
same_way (Some Forward) (Some Reverse) = false
same_way (Some Reverse) (Some Forward) = false
same_way (Some Reverse) (Some Reverse) = true
same_way (Some d) None = false

same_standing : Standing → Standing → Bool
same_standing a b = same_bool a.next b.next && (same_way a.direction b.direction && same_bool a.keeps b.keeps)

same_is : (a b : Bool) → T (same_bool a b) → a ≡ b
unfolding same_bool
same_is true true h = refl
same_is true false h = absurd h
same_is false true h = absurd h
same_is false false h = refl

same_way_lem : (a b : Option Direction) → T (same_way a b) → a ≡ b
unfolding same_way
same_way_lem None None h = refl
same_way_lem None (Some d) h = absurd h
same_way_lem (Some Forward) (Some Forward) h = refl
same_way_lem (Some Forward) (Some Reverse) h = absurd h
same_way_lem (Some Reverse) (Some Forward) h = absurd h
same_way_lem (Some Reverse) (Some Reverse) h = refl
same_way_lem (Some Forward) None h = absurd h
same_way_lem (Some Reverse) None h = absurd h

same_standing_lem : (a b : Standing) → T (same_standing a b) → a ≡ b
unfolding same_standing
same_standing_lem a b h =
    let x = both_of (same_bool a.next b.next) (same_way a.direction b.direction && same_bool a.keeps b.keeps) h in
    let y = both_of (same_way a.direction b.direction) (same_bool a.keeps b.keeps) x.1 in
    rw (same_is a.next b.next x.0, same_way_lem a.direction b.direction y.0, same_is a.keeps b.keeps y.1)

-- The part of a reader that decides, by the order and the first piece kept.
abbrev pub control_in : ℕ → ℕ → Control
control_in k kept = record { count = count_in k; first = first_in k kept; last = last_in k; direction = way_in k }

stands : ℕ → ℕ → ℕ → Bool
stands kept k p = same_standing (order_after (control_in k kept) (last_in k) (way_in k) p) (standing_in k p)

every : (kept : ℕ) → T (all 42 (λ k. all 8 (stands kept k)))
unfolding stands way_in last_in count_in first_in all same_standing same_bool same_way
every kept = tt

-- With a last piece.
pub standing : (k p kept : ℕ) → k < 42 → p < 8 → order_after (control_in k kept) (last_in k) (way_in k) p ≡ standing_in k p
unfolding stands
standing k p kept hk hp =
    same_standing_lem (order_after (control_in k kept) (last_in k) (way_in k) p) (standing_in k p)
    (all_at 8 (stands kept k) (all_at 42 (λ j. all 8 (stands kept j)) (every kept) k hk) p hp)

-- Without one it is the first of all, in the direction that there was.
pub standing_none : (k p kept : ℕ) → 42 ≤ k → order_after (control_in k kept) (last_in k) (way_in k) p ≡ ordered false (way_in k) true
unfolding last_in
standing_none k p kept h =
    rw (le-ltb k 8 (omega arith), le-ltb k 16 (omega arith), le-ltb k 24 (omega arith), le-ltb k 32 (omega arith), le-ltb k 40 (omega arith), ne_eqb k 40 (λ e. let x : k ≡ 40 = e in omega arith), ne_eqb k 41 (λ e. let x : k ≡ 41 = e in omega arith))

-- ---- bounds

pub inside_small : (d : Direction) {k : ℕ} → InSequence d k → k < 16
inside_small Forward h = omega (arith, h)
inside_small Reverse h = h.1

pub outside_small : (d : Direction) {k : ℕ} → OutOfSequence d k → (16 ≤ k) × (k < 32)
outside_small Forward h = (h.0, omega (arith, h.1))
outside_small Reverse h = (omega (arith, h.0), h.1)

pub order_inside : (d : Direction) (p : ℕ) → p ≤ 7 → InSequence d (order_in d p)
order_inside Forward p h = omega arith
order_inside Reverse p h = (omega arith, omega arith)

both_at_most : {n : ℕ} (b : Bool) {x y : ℕ} → (b ≡ true → x ≤ n) → (b ≡ false → y ≤ n) → cond b x y ≤ n
both_at_most true f g = f refl
both_at_most false f g = g refl

pub order_count_small : (k : ℕ) → count_in k ≤ 7
unfolding count_in
order_count_small k =
    both_at_most (ltb k 8) (λ e. let x : k < 8 = ltb-true k 8 e in omega arith)
    (λ e. both_at_most (ltb k 16) (λ d. let x : 8 ≤ k = ltb-false k 8 e in omega arith)
    (λ d. both_at_most (eqb k 40) (λ c. lit≤ tt) (λ c. both_at_most (eqb k 41) (λ b. lit≤ tt) (λ b. lit≤ tt))))

pub order_first_small : (k kept : ℕ) → first_in k kept ≤ 7
unfolding first_in
order_first_small k kept =
    both_at_most (ltb k 8) (λ e. lit≤ tt)
    (λ e. both_at_most (ltb k 16) (λ d. lit≤ tt)
    (λ d. both_at_most (eqb k 40) (λ c. lit≤ tt) (λ c. both_at_most (eqb k 41) (λ b. lit≤ tt) (λ b. omega arith))))

fits : (b : Bool) (x y : Option ℕ) → T (piece_fits x) → T (piece_fits y) → T (piece_fits (cond b x y))
fits true x y f g = f
fits false x y f g = g

piece_fits_mod : (n : ℕ) → T (piece_fits (Some (n % 8)))
piece_fits_mod n = le→leb (n % 8) 7 (omega arith)

pub last_fits : (k : ℕ) → T (piece_fits (last_in k))
unfolding last_in
last_fits k =
    fits (ltb k 8) _ _ (piece_fits_mod (k + 7))
    (fits (ltb k 16) _ _ (piece_fits_mod (k + 1))
    (fits (ltb k 24) _ _ (piece_fits_mod (k + 7))
    (fits (ltb k 32) _ _ (piece_fits_mod (k + 1)) (fits (ltb k 40) _ _ (piece_fits_mod k) (fits (eqb k 40) _ _ tt (fits (eqb k 41) _ _ tt tt))))))
