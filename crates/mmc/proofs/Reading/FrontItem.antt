-- The item at the front of bytes, wherever they stand in a string: what the splitter finds there, or that they are cut short.
-- Assumes nothing.
use Rattle.std.specs.Prelude.{None}
use Prim.Native.Nat.{ℕ, suc, ◌+◌, ◌-◌, ◌≤◌, ◌<◌}
use mathlib.Core.Path.{◌≡◌, refl, sym, ap, ◌∙◌}
use mathlib.Core.Bool.{Bool, true, false, not, true≢false}
use mathlib.Core.List.{List, [], ◌∷◌, ◌++◌, append_assoc}
use native.Mathlib.Nat.{not-suc-le-zero}
use native.Mathlib.Omega.{arith}
use borrow.Author.Tests.{le-leb, eq-eqb, leb-true, leb-false, eqb-true, not-true}
use lib.Dec.{leb, eqb}
use lib.ListN.{length, take, drop, get_or, length-append, take-append-drop, get_or-append}
use lib.Seq.{get_or-append_seam, get_or-append-add, take-append_seam, drop-append_seam, length-take-le}
use Rattle.mmc.specs.declared.length.Kind.{Kind}
use Rattle.mmc.specs.declared.length.Length.{Length}
use Rattle.mmc.specs.declared.length.Length.TheVariants.{Fixed, Count}
use Rattle.mmc.specs.Length.{length_of}
use Rattle.mmc.specs.Named.{name_fits, last_of_name}
use Rattle.mmc.specs.Part.{part, is_inside, part_of}
use Rattle.mmc.specs.Rp013.{Item}
use Rattle.mmc.specs.Split.{prefixes_at, measured, split_at, parts_of}
use Rattle.mmc.specs.Strings.{item, rule_of, with_count, item_bytes, data_fits, item_fits, count_bytes, Found}
use Rattle.universal.proofs.Tests.{and_parts}
use Rattle.mmc.proofs.Writing.EmissionPuts.{name_length}
use Rattle.mmc.proofs.Reading.SplitTests.{one_at_the_end, two_zeros, too_few, enough, cut_name, fixed_data, no_count, counted_data}

-- A string with some bytes in it: what stands before them, they, what stands after them.
abbrev string : List ℕ → List ℕ → List ℕ → List ℕ
string pre bytes post = pre ++ (bytes ++ post)

string_length : (pre bytes post : List ℕ) → length (string pre bytes post) ≡ length pre + (length bytes + length post)
string_length pre bytes post = simp length-append

-- The part where some bytes stand has these bytes.
part_bytes : (body pre bytes post : List ℕ) (start len : ℕ) → body ≡ string pre bytes post → start ≡ length pre
    → len ≡ length bytes → part_of body (part start len) ≡ bytes
unfolding part_of is_inside
part_bytes body pre bytes post start len e s l =
    let n : length (string pre bytes post) ≡ length pre + (length bytes + length post) = string_length pre bytes post in
    let a : length pre ≤ length (string pre bytes post) = omega arith in
    let b : length bytes ≤ length (string pre bytes post) - length pre = omega arith in
    rw (
      e,
      s,
      l,
      le-leb (length pre) (length (string pre bytes post)) a,
      le-leb (length bytes) (length (string pre bytes post) - length pre) b,
      drop-append_seam pre (bytes ++ post),
      take-append_seam bytes post,
    )

-- ---- the name

-- The zeros before the last byte of a name.
zeros_of : (pre name rest : List ℕ) → name_fits name ≡ true → length name - 1 ≡ prefixes_at (string pre name rest) (length pre)
unfolding name_fits prefixes_at
zeros_of pre [] rest h = absurd (true≢false (sym h))
zeros_of pre (x ∷ []) rest h = rw (get_or-append_seam pre x rest 1, not-true (eqb x 0) h)
zeros_of pre (a ∷ x ∷ []) rest h =
    let t = and_parts (eqb a 0) (not (eqb x 0)) h in
    rw (get_or-append_seam pre a (x ∷ rest) 1, get_or-append-add pre (a ∷ x ∷ rest) 1 1, t.0, not-true (eqb x 0) t.1)
zeros_of pre (a ∷ b ∷ x ∷ []) rest h =
    let t = and_parts (eqb a 0) (eqb b 0) h in
    rw (get_or-append_seam pre a (b ∷ x ∷ rest) 1, get_or-append-add pre (a ∷ b ∷ x ∷ rest) 1 1, t.0, t.1)
zeros_of pre (a ∷ b ∷ x ∷ y ∷ l) rest h = absurd (true≢false (sym h))

-- Its last byte.
last_of : (pre name rest : List ℕ) → 1 ≤ length name → get_or (string pre name rest) (length pre + (length name - 1)) 0 ≡ last_of_name name
last_of pre name rest h =
    let l : length name - 1 < length name = omega arith in
    get_or-append-add pre (name ++ rest) (length name - 1) 0 ∙ get_or-append name rest 0 (length name - 1) l

-- ---- the item after a name

-- What the splitter gives, with its numbers written otherwise.
item_same : (start n m a b d x y : ℕ) → n ≡ m → a ≡ b → x ≡ y
    → parts_of (part start n) (part a d) x ≡ parts_of (part start m) (part b d) y
item_same start n m a b d x y p q s = rw (p, q, s)

module _ (kind : Kind) (pre name rest : List ℕ) (f : name_fits name ≡ true) where
  -- A name's length, and the string's.
  lengths : (1 ≤ length name) × (length (string pre name rest) ≡ length pre + (length name + length rest))
  lengths = ((name_length name f).0, string_length pre name rest)

  inside : length pre + (length name - 1) < length (string pre name rest)
  inside = omega (arith, lengths)

  rule_of_lem : (rule : Length) → length_of kind (last_of_name name) ≡ rule
      → length_of kind (get_or (string pre name rest) (length pre + (length name - 1)) 0) ≡ rule
  rule_of_lem rule e = ap (length_of kind) (last_of pre name rest lengths.0) ∙ e

  -- A fixed number of data.
  fixed_at : (n : ℕ) → length_of kind (last_of_name name) ≡ Fixed n
      → split_at kind (string pre name rest) (length pre)
      ≡ measured (string pre name rest) (part (length pre) (length name - 1 + 1)) (length pre + (length name - 1) + 1) n
  fixed_at n e =
      sym (fixed_data kind (string pre name rest) (length pre) (length name - 1) (zeros_of pre name rest f) inside n
      (rule_of_lem (Fixed n) e))

  split_fixed : (n : ℕ) → length_of kind (last_of_name name) ≡ Fixed n → n ≤ length rest
      → split_at kind (string pre name rest) (length pre)
      ≡ parts_of (part (length pre) (length name)) (part (length pre + length name + 0) n) (length pre + (length name + n))
  split_fixed n e h =
      let a : length pre + (length name - 1) + 1 ≤ length (string pre name rest) = omega (arith, lengths) in
      let b : n ≤ length (string pre name rest) - (length pre + (length name - 1) + 1) = omega (arith, lengths) in
      fixed_at n e
      ∙ sym (enough (string pre name rest) _ _ n a b)
      ∙ item_same (length pre) _ _ _ _ n _ _ (omega (arith, lengths)) (omega (arith, lengths)) (omega (arith, lengths))

  cut_fixed : (n : ℕ) → length_of kind (last_of_name name) ≡ Fixed n → length rest < n
      → split_at kind (string pre name rest) (length pre) ≡ None
  cut_fixed n e h =
      let a : length pre + (length name - 1) + 1 ≤ length (string pre name rest) = omega (arith, lengths) in
      let b : length (string pre name rest) - (length pre + (length name - 1) + 1) < n = omega (arith, lengths) in
      fixed_at n e ∙ sym (too_few (string pre name rest) _ _ n a b)

-- A count byte that is missing.
cut_count : (kind : Kind) (pre name : List ℕ) → name_fits name ≡ true → length_of kind (last_of_name name) ≡ Count
    → split_at kind (string pre name []) (length pre) ≡ None
cut_count kind pre name f e =
    sym (no_count kind (string pre name []) (length pre) (length name - 1) (zeros_of pre name [] f) (inside kind pre name [] f)
    (rule_of_lem kind pre name [] f Count e) (omega (arith, lengths kind pre name [] f)))

module _ (kind : Kind) (pre name : List ℕ) (c : ℕ) (rest : List ℕ) (f : name_fits name ≡ true)
    (e : length_of kind (last_of_name name) ≡ Count) where
  known : (1 ≤ length name) × (length (string pre name (c ∷ rest)) ≡ length pre + (length name + suc (length rest)))
  known = lengths kind pre name (c ∷ rest) f

  -- The count byte after the name.
  count_byte : get_or (string pre name (c ∷ rest)) (length pre + (length name - 1) + 1) 0 ≡ c
  count_byte =
      let k : length pre + (length name - 1) + 1 ≡ length pre + (length name + 0) = omega (arith, known) in
      rw k (get_or-append-add pre (name ++ (c ∷ rest)) (length name + 0) 0 ∙ get_or-append-add name (c ∷ rest) 0 0)

  -- As many data as it says.
  counted_at : split_at kind (string pre name (c ∷ rest)) (length pre)
      ≡ measured (string pre name (c ∷ rest)) (part (length pre) (length name - 1 + 1)) (length pre + (length name - 1) + 1 + 1) c
  counted_at =
      sym (counted_data kind (string pre name (c ∷ rest)) (length pre) (length name - 1) (zeros_of pre name (c ∷ rest) f)
      (inside kind pre name (c ∷ rest) f) (rule_of_lem kind pre name (c ∷ rest) f Count e) (omega (arith, known)))
      ∙ ap (measured (string pre name (c ∷ rest)) (part (length pre) (length name - 1 + 1)) (length pre + (length name - 1) + 1 + 1))
      count_byte

  split_count : c ≤ length rest
      → split_at kind (string pre name (c ∷ rest)) (length pre)
      ≡ parts_of (part (length pre) (length name)) (part (length pre + length name + 1) c) (length pre + (length name + suc c))
  split_count h =
      let a : length pre + (length name - 1) + 1 + 1 ≤ length (string pre name (c ∷ rest)) = omega (arith, known) in
      let b : c ≤ length (string pre name (c ∷ rest)) - (length pre + (length name - 1) + 1 + 1) = omega (arith, known) in
      counted_at
      ∙ sym (enough (string pre name (c ∷ rest)) _ _ c a b)
      ∙ item_same (length pre) _ _ _ _ c _ _ (omega (arith, known)) (omega (arith, known)) (omega (arith, known))

  cut_counted : length rest < c → split_at kind (string pre name (c ∷ rest)) (length pre) ≡ None
  cut_counted h =
      let a : length pre + (length name - 1) + 1 + 1 ≤ length (string pre name (c ∷ rest)) = omega (arith, known) in
      let b : length (string pre name (c ∷ rest)) - (length pre + (length name - 1) + 1 + 1) < c = omega (arith, known) in
      counted_at ∙ sym (too_few (string pre name (c ∷ rest)) _ _ c a b)

-- ---- an item that fits, at its place

module _ (kind : Kind) (pre name d post : List ℕ) (f : name_fits name ≡ true) where
  split_by_rule : (rule : Length) → length_of kind (last_of_name name) ≡ rule → data_fits rule d ≡ true
      → split_at kind (string pre name (with_count rule d ++ post)) (length pre)
      ≡ parts_of (part (length pre) (length name)) (part (length pre + length name + count_bytes rule) (length d))
      (length pre + (length name + length (with_count rule d)))
  split_by_rule (Fixed n) e h =
      let l : length (d ++ post) ≡ length d + length post = length-append d post in
      split_fixed kind pre name (d ++ post) f (length d) (e ∙ ap Fixed (eqb-true n (length d) h)) (omega arith)
  split_by_rule Count e h =
      let l : length (d ++ post) ≡ length d + length post = length-append d post in
      split_count kind pre name (length d) (d ++ post) f e (omega arith)

-- The data of an item, after its name and a count byte, if there is one.
data_by_rule : (rule : Length) (pre name d post : List ℕ) (start : ℕ) → start ≡ length pre + length name + count_bytes rule
    → part_of (string pre name (with_count rule d ++ post)) (part start (length d)) ≡ d
data_by_rule (Fixed n) pre name d post start s =
    part_bytes _ (pre ++ name) d post start (length d) (simp append_assoc) (omega (arith, length-append pre name)) refl
data_by_rule Count pre name d post start s =
    let l : length (string pre name (length d ∷ [])) ≡ length pre + (length name + 1) = string_length pre name (length d ∷ []) in
    part_bytes _ (string pre name (length d ∷ [])) d post start (length d) (simp append_assoc) (omega arith) refl

-- It is found with exactly its parts.
pub item_found : (kind : Kind) (pre : List ℕ) (x : Item) (post : List ℕ) → item_fits kind x ≡ true
    → Found kind (pre ++ (item_bytes kind x ++ post)) (length pre) x
unfolding item_bytes item_fits
item_found kind pre x post h =
    let t = and_parts (name_fits x.name) (data_fits (rule_of kind x) x.«data») h in
    let a : x.name ++ with_count (rule_of kind x) x.«data» ++ post ≡ x.name ++ (with_count (rule_of kind x) x.«data» ++ post) =
    append_assoc x.name (with_count (rule_of kind x) x.«data») post in
    record {
      split =
          rw (a, length-append x.name (with_count (rule_of kind x) x.«data»))
          (split_by_rule kind pre x.name x.«data» post t.0 (rule_of kind x) refl t.1);
      name_bytes = part_bytes _ pre x.name _ (length pre) (length x.name) (ap (λ (l : List ℕ). pre ++ l) a) refl refl;
      data_bytes = rw a (data_by_rule (rule_of kind x) pre x.name x.«data» post _ refl);
    }

-- ---- what stands at the front of bytes

-- Cut short wherever the bytes stand; or an item that fits, and the bytes after it.
pub data ItemFront (kind : Kind) (s : List ℕ) : Type 0 where
  cut : ((pre : List ℕ) → split_at kind (pre ++ s) (length pre) ≡ None) → ItemFront kind s
  whole : (x : Item) (post : List ℕ) → item_fits kind x ≡ true → s ≡ item_bytes kind x ++ post → ItemFront kind s

module _ (kind : Kind) (name : List ℕ) (f : name_fits name ≡ true) where
  fixed_front : (rest : List ℕ) (n : ℕ) → length_of kind (last_of_name name) ≡ Fixed n → (b : Bool) → leb n (length rest) ≡ b
      → ItemFront kind (name ++ rest)
  unfolding item_bytes item_fits
  fixed_front rest n e true h =
      whole (item name (take n rest)) (drop n rest)
      (rw (f, e, eq-eqb n (length (take n rest)) (sym (length-take-le n rest (leb-true n (length rest) h)))))
      (rw (e, append_assoc name (take n rest) (drop n rest), take-append-drop n rest))
  fixed_front rest n e false h = cut (λ pre. cut_fixed kind pre name rest f n e (leb-false n (length rest) h))

  counted_front : (c : ℕ) (rest : List ℕ) → length_of kind (last_of_name name) ≡ Count → (b : Bool) → leb c (length rest) ≡ b
      → ItemFront kind (name ++ (c ∷ rest))
  unfolding item_bytes item_fits
  counted_front c rest e true h =
      whole (item name (take c rest)) (drop c rest) (rw (f, e))
      (rw (
        e,
        length-take-le c rest (leb-true c (length rest) h),
        append_assoc name (c ∷ take c rest) (drop c rest),
        take-append-drop c rest,
      ))
  counted_front c rest e false h = cut (λ pre. cut_counted kind pre name c rest f e (leb-false c (length rest) h))

  rule_front : (rest : List ℕ) (rule : Length) → length_of kind (last_of_name name) ≡ rule → ItemFront kind (name ++ rest)
  rule_front rest (Fixed n) e = fixed_front rest n e (leb n (length rest)) refl
  rule_front [] Count e = cut (λ pre. cut_count kind pre name f e)
  rule_front (c ∷ rest) Count e = counted_front c rest e (leb c (length rest)) refl

-- One prefix without a last byte.
lone_zero : (kind : Kind) (x : ℕ) → x ≡ 0 → (pre : List ℕ) → split_at kind (pre ++ (x ∷ [])) (length pre) ≡ None
lone_zero kind x e pre =
    let n : length (pre ++ (x ∷ [])) ≡ length pre + 1 = length-append pre (x ∷ []) in
    let z : get_or (pre ++ (x ∷ [])) (length pre) 0 ≡ 0 = get_or-append_seam pre x [] 0 ∙ e in
    sym (cut_name kind (pre ++ (x ∷ [])) (length pre) 1
    (one_at_the_end (pre ++ (x ∷ [])) (length pre) (omega arith) z (omega arith)) (omega arith))

-- Two of them.
lone_zeros : (kind : Kind) (x y : ℕ) → x ≡ 0 → y ≡ 0 → (pre : List ℕ)
    → split_at kind (pre ++ (x ∷ y ∷ [])) (length pre) ≡ None
lone_zeros kind x y e q pre =
    let n : length (pre ++ (x ∷ y ∷ [])) ≡ length pre + 2 = length-append pre (x ∷ y ∷ []) in
    let z : get_or (pre ++ (x ∷ y ∷ [])) (length pre) 0 ≡ 0 = get_or-append_seam pre x (y ∷ []) 0 ∙ e in
    let w : get_or (pre ++ (x ∷ y ∷ [])) (length pre + 1) 0 ≡ 0 = get_or-append-add pre (x ∷ y ∷ []) 1 0 ∙ q in
    sym (cut_name kind (pre ++ (x ∷ y ∷ [])) (length pre) 2
    (two_zeros (pre ++ (x ∷ y ∷ [])) (length pre) (omega arith) z (omega arith) w) (omega arith))

-- The front of any bytes.
pub item_front : (kind : Kind) (s : List ℕ) → 1 ≤ length s → ItemFront kind s
unfolding name_fits
item_front kind [] h = absurd (not-suc-le-zero h)
item_front kind (x ∷ []) h = go (eqb x 0) refl
  where
    go : (b : Bool) → eqb x 0 ≡ b → ItemFront kind (x ∷ [])
    go true e = cut (lone_zero kind x (eqb-true x 0 e))
    go false e = rule_front kind (x ∷ []) (rw e) [] _ refl
item_front kind (x ∷ y ∷ []) h = go (eqb x 0) (eqb y 0) refl refl
  where
    go : (a b : Bool) → eqb x 0 ≡ a → eqb y 0 ≡ b → ItemFront kind (x ∷ y ∷ [])
    go true true e q = cut (lone_zeros kind x y (eqb-true x 0 e) (eqb-true y 0 q))
    go true false e q = rule_front kind (x ∷ y ∷ []) (rw (e, q)) [] _ refl
    go false b e q = rule_front kind (x ∷ []) (rw e) (y ∷ []) _ refl
item_front kind (x ∷ y ∷ z ∷ s) h = go (eqb x 0) (eqb y 0) refl refl
  where
    go : (a b : Bool) → eqb x 0 ≡ a → eqb y 0 ≡ b → ItemFront kind (x ∷ y ∷ z ∷ s)
    go true true e q = rule_front kind (x ∷ y ∷ z ∷ []) (rw (e, q)) s _ refl
    go true false e q = rule_front kind (x ∷ y ∷ []) (rw (e, q)) (z ∷ s) _ refl
    go false b e q = rule_front kind (x ∷ []) (rw e) (y ∷ z ∷ s) _ refl
