-- Lengths, names, items and strings by the pages of RP-013. Assumes nothing.
use Prim.Native.Nat.{ℕ, zero, suc, ◌-◌, ◌≤◌, ◌<◌}
use mathlib.Core.Path.{◌≡◌, refl, sym, ap, ap₂, ◌∙◌}
use mathlib.Core.Bool.{Bool, true, false, not, ◌||◌, true≢false}
use mathlib.Core.Logic.{◌⊎◌, inl, inr}
use mathlib.Core.List.{List, [], ◌∷◌, ◌++◌}
use native.Mathlib.Omega.{arith}
use borrow.Author.Tests.{eq-eqb, ne_eqb, leb-true, leb-false, eqb-true, eqb-false, not-true}
use lib.Dec.{leb, eqb, lit≤}
use lib.ListN.{length}
use Rattle.mmc.specs.declared.length.Kind.{Kind}
use Rattle.mmc.specs.declared.length.Kind.TheVariants.{Commands, Fields}
use Rattle.mmc.specs.declared.length.Length.{Length}
use Rattle.mmc.specs.declared.length.Length.TheVariants.{Fixed, Count}
use Rattle.mmc.specs.Length.{command_length, field_length, length_of}
use Rattle.mmc.specs.Named.{name_fits, last_of_name}
use Rattle.mmc.specs.Rp013.{Follows, prefixed, Name, Item, After, IsItem, Spell}
use Rattle.mmc.specs.Strings.{rule_of, with_count, item_bytes, joined, data_fits, item_fits, all_fit, zeros_item, is_zeros, any_zeros, OfPageOrZeros}
use Rattle.universal.specs.Message.{all_low}
use Rattle.universal.proofs.Laws.{all_low_append, all_low_byte}
use Rattle.universal.proofs.Tests.{and_parts, and_all}
use Rattle.mmc.proofs.Writing.EmissionPuts.{name_length}
use Rattle.mmc.proofs.RangeTests.{within_range, below_range, above_range}

-- ---- lengths by the last byte

module _ (n : ℕ) where
  pub command_below : n < 64 → length_of Commands n ≡ Fixed 0
  unfolding length_of command_length
  command_below h = rw (below_range 64 120 n h)

  pub command_count : 64 ≤ n → n < 120 → length_of Commands n ≡ Count
  unfolding length_of command_length
  command_count l h = rw (within_range 64 120 n l h)

  command_above : 120 ≤ n → length_of Commands n ≡ Fixed 0
  unfolding length_of command_length
  command_above h = rw (above_range 64 120 n (omega arith) h)

  field_zero : n < 1 → length_of Fields n ≡ Fixed 0
  unfolding length_of field_length
  field_zero h = rw (below_range 1 32 n h, below_range 32 64 n (omega arith), below_range 64 120 n (omega arith))

  pub field_five : 1 ≤ n → n < 32 → length_of Fields n ≡ Fixed 5
  unfolding length_of field_length
  field_five l h = rw (within_range 1 32 n l h)

  pub field_two : 32 ≤ n → n < 64 → length_of Fields n ≡ Fixed 2
  unfolding length_of field_length
  field_two l h = rw (above_range 1 32 n (omega arith) l, within_range 32 64 n l h)

  field_count : 64 ≤ n → n < 120 → length_of Fields n ≡ Count
  unfolding length_of field_length
  field_count l h = rw (above_range 1 32 n (omega arith) (omega arith), above_range 32 64 n (omega arith) l, within_range 64 120 n l h)

  field_above : 120 ≤ n → length_of Fields n ≡ Fixed 0
  unfolding length_of field_length
  field_above h =
      rw (
        above_range 1 32 n (omega arith) (omega arith),
        above_range 32 64 n (omega arith) (omega arith),
        above_range 64 120 n (omega arith) h,
      )

-- What the page says follows is what the rule says.
pub follows_length : (kind : Kind) (n : ℕ) (rule : Length) → Follows kind n rule → length_of kind n ≡ rule
follows_length Commands n rule (inl q) = command_below n (omega arith) ∙ sym q.2
follows_length Commands n rule (inr (inl q)) = command_count n q.0 (omega arith) ∙ sym q.2
follows_length Commands n rule (inr (inr (inl q))) = command_above n q.0 ∙ sym q.2
follows_length Commands n rule (inr (inr (inr q))) = absurd q
follows_length Fields n rule (inl q) = field_five n q.0 (omega arith) ∙ sym q.2
follows_length Fields n rule (inr (inl q)) = field_two n q.0 (omega arith) ∙ sym q.2
follows_length Fields n rule (inr (inr (inl q))) = field_count n q.0 (omega arith) ∙ sym q.2
follows_length Fields n rule (inr (inr (inr (inl q)))) = field_above n q.0 ∙ sym q.2
follows_length Fields n rule (inr (inr (inr (inr q)))) = absurd q

-- A number up to another, or above it.
up_to : {C : Type 0} (n most : ℕ) → (n ≤ most → C) → (most < n → C) → C
up_to {C = C} n most f g = go (leb n most) refl
  where
    go : (b : Bool) → leb n most ≡ b → C
    go true e = f (leb-true n most e)
    go false e = g (leb-false n most e)

-- From 01H to 7FH the page says what the rule says.
pub length_follows : (kind : Kind) (n : ℕ) → 1 ≤ n → n ≤ 127 → Follows kind n (length_of kind n)
length_follows Commands n a h =
    up_to n 63 (λ l. inl (a, l, command_below n (omega arith))) λ b.
    up_to n 119 (λ l. inr (inl (b, l, command_count n b (omega arith)))) λ c.
    inr (inr (inl (c, h, command_above n c)))
length_follows Fields n a h =
    up_to n 31 (λ l. inl (a, l, field_five n a (omega arith))) λ b.
    up_to n 63 (λ l. inr (inl (b, l, field_two n b (omega arith)))) λ c.
    up_to n 119 (λ l. inr (inr (inl (c, l, field_count n c (omega arith))))) λ d.
    inr (inr (inr (inl (d, h, field_above n d))))

-- At 00H, which is no name of the page, there are no data.
pub length_zero : (kind : Kind) → length_of kind 0 ≡ Fixed 0
length_zero Commands = command_below 0 (lit≤ tt)
length_zero Fields = field_zero 0 (lit≤ tt)

-- Above 7FH there are none either.
pub length_above : (kind : Kind) (n : ℕ) → 127 < n → length_of kind n ≡ Fixed 0
length_above Commands n h = command_above n (omega arith)
length_above Fields n h = field_above n (omega arith)

-- ---- names

above_zero : (n : ℕ) → eqb n 0 ≡ false → 1 ≤ n
above_zero n h = let z : n ≡ 0 → ⊥ = eqb-false n 0 h in omega arith

-- A name that may be one is the page's, unless its last byte is 00H.
pub fits_name : (name : List ℕ) → name_fits name ≡ true → eqb (last_of_name name) 0 ≡ false → Name name (last_of_name name)
unfolding name_fits
fits_name [] h z = absurd (true≢false (sym h))
fits_name (x ∷ []) h z = record { prefixes = 0; few = lit≤ tt; no_prefix = above_zero x z; bytes = refl }
fits_name (a ∷ x ∷ []) h z =
    let t = and_parts (eqb a 0) (not (eqb x 0)) h in
    record {
      prefixes = 1;
      few = lit≤ tt;
      no_prefix = above_zero x z;
      bytes = ap (λ (k : ℕ). k ∷ x ∷ []) (eqb-true a 0 t.0);
    }
fits_name (a ∷ b ∷ x ∷ []) h z =
    let t = and_parts (eqb a 0) (eqb b 0) h in
    record {
      prefixes = 2;
      few = lit≤ tt;
      no_prefix = above_zero x z;
      bytes = ap₂ (λ (k m : ℕ). k ∷ m ∷ x ∷ []) (eqb-true a 0 t.0) (eqb-true b 0 t.1);
    }
fits_name (a ∷ b ∷ x ∷ y ∷ l) h z = absurd (true≢false (sym h))

-- Of the names that may be one, only 00 00 00 has 00H as its last byte.
pub zeros_name : (name : List ℕ) → name_fits name ≡ true → eqb (last_of_name name) 0 ≡ true → name ≡ 0 ∷ 0 ∷ 0 ∷ []
unfolding name_fits
zeros_name [] h z = absurd (true≢false (sym h))
zeros_name (x ∷ []) h z = absurd (eqb-false x 0 (not-true (eqb x 0) h) (eqb-true x 0 z))
zeros_name (a ∷ x ∷ []) h z =
    absurd (eqb-false x 0 (not-true (eqb x 0) (and_parts (eqb a 0) (not (eqb x 0)) h).1) (eqb-true x 0 z))
zeros_name (a ∷ b ∷ x ∷ []) h z =
    let t = and_parts (eqb a 0) (eqb b 0) h in
    λ i. eqb-true a 0 t.0 i ∷ eqb-true b 0 t.1 i ∷ eqb-true x 0 z i ∷ []
zeros_name (a ∷ b ∷ x ∷ y ∷ l) h z = absurd (true≢false (sym h))

prefixed_fits : (k last : ℕ) → k ≤ 2 → (last ≡ 0 → ⊥) → (name_fits (prefixed k last) ≡ true) × (last_of_name (prefixed k last) ≡ last)
unfolding name_fits
prefixed_fits zero last h n = (rw (ne_eqb last 0 n), refl)
prefixed_fits (suc zero) last h n = (rw (ne_eqb last 0 n), refl)
prefixed_fits (suc (suc zero)) last h n = (refl, refl)
prefixed_fits (suc (suc (suc k))) last h n = absurd (omega arith)

-- A name of the page may be one, with its last byte, which is not 00H.
pub name_fits_lem : (name : List ℕ) (last : ℕ) → Name name last
    → (name_fits name ≡ true) × (last_of_name name ≡ last) × (eqb last 0 ≡ false)
name_fits_lem name last n =
    let z : last ≡ 0 → ⊥ = λ e. omega (arith, n.no_prefix) in
    let p = prefixed_fits n.prefixes last n.few z in
    (ap name_fits n.bytes ∙ p.0, ap last_of_name n.bytes ∙ p.1, ne_eqb last 0 z)

-- ---- items

after_fits : (rule : Length) (d rest : List ℕ) → After rule d rest → (data_fits rule d ≡ true) × (rest ≡ with_count rule d)
after_fits (Fixed n) d rest a = (eq-eqb n (length d) (sym a.0), a.1)
after_fits Count d rest a = (refl, a.1)

fits_after : (rule : Length) (d : List ℕ) → data_fits rule d ≡ true → all_low (with_count rule d) ≡ true → After rule d (with_count rule d)
fits_after (Fixed n) d h l = (sym (eqb-true n (length d) h), refl)
fits_after Count d h l =
    let z : 0 < suc (length d) = omega arith in (omega (arith, all_low_byte (length d ∷ d) 0 l z), refl)

-- An item of the page fits, has its bytes, and is not named 00 00 00.
pub item_fits_lem : (kind : Kind) (x : Item) (bytes : List ℕ) → IsItem kind x bytes
    → (item_fits kind x ≡ true) × (bytes ≡ item_bytes kind x) × (is_zeros x ≡ false)
unfolding item_fits item_bytes
item_fits_lem kind x bytes i =
    let n = name_fits_lem x.name i.last i.named in
    let r : rule_of kind x ≡ i.follows = ap (length_of kind) n.1 ∙ follows_length kind i.last i.follows i.ranged in
    let a = after_fits i.follows x.«data» i.rest i.after in
    (rw (r, n.0) a.0, rw (r, ← a.1) i.joined, rw n.1 n.2)

-- An item that fits, with bytes to 7FH, is one of the page, unless it is named 00 00 00.
pub fits_item : (kind : Kind) (x : Item) → item_fits kind x ≡ true → all_low (item_bytes kind x) ≡ true → is_zeros x ≡ false
    → IsItem kind x (item_bytes kind x)
unfolding item_fits item_bytes
fits_item kind x h l z =
    let t = and_parts (name_fits x.name) (data_fits (rule_of kind x) x.«data») h in
    let b = and_parts (all_low x.name) (all_low (with_count (rule_of kind x) x.«data»))
    (sym (all_low_append x.name (with_count (rule_of kind x) x.«data»)) ∙ l) in
    let n : 1 ≤ length x.name = (name_length x.name t.0).0 in
    let i : length x.name - 1 < length x.name = omega arith in
    record {
      last = last_of_name x.name;
      named = fits_name x.name t.0 z;
      follows = rule_of kind x;
      ranged =
          length_follows kind (last_of_name x.name) (above_zero (last_of_name x.name) z)
          (all_low_byte x.name (length x.name - 1) b.0 i);
      rest = with_count (rule_of kind x) x.«data»;
      after = fits_after (rule_of kind x) x.«data» t.1 b.1;
      joined = refl;
    }

-- An item that fits and whose name ends with 00H is named 00 00 00 and has no data.
pub zeros_item_lem : (kind : Kind) (x : Item) → item_fits kind x ≡ true → is_zeros x ≡ true → x ≡ zeros_item
unfolding item_fits
zeros_item_lem kind x h z =
    let t = and_parts (name_fits x.name) (data_fits (rule_of kind x) x.«data») h in
    let r : rule_of kind x ≡ Fixed 0 = ap (length_of kind) (eqb-true (last_of_name x.name) 0 z) ∙ length_zero kind in
    let n : x.name ≡ 0 ∷ 0 ∷ 0 ∷ [] = zeros_name x.name t.0 z in
    let d : x.«data» ≡ [] = no_bytes x.«data» (rw r at t.1) in
    λ i. record { name = n i; «data» = d i }
  where
    no_bytes : (d : List ℕ) → eqb 0 (length d) ≡ true → d ≡ []
    no_bytes [] e = refl
    no_bytes (b ∷ bs) e = absurd (omega (arith, eqb-true 0 (length (b ∷ bs)) e))

-- ---- strings

or_false : (a b : Bool) → (a || b) ≡ false → (a ≡ false) × (b ≡ false)
or_false true b h = absurd (true≢false h)
or_false false b h = (refl, h)

-- Items of the page fit, have the string's bytes, and none is named 00 00 00.
pub spell_fits : (kind : Kind) (xs : List Item) (bytes : List ℕ) → Spell kind xs bytes
    → (all_fit kind xs ≡ true) × (bytes ≡ joined kind xs) × (any_zeros xs ≡ false)
unfolding all_fit joined any_zeros
spell_fits kind [] bytes s = (refl, s, refl)
spell_fits kind (x ∷ xs) bytes s =
    let i = item_fits_lem kind x s.0 s.2 in
    let r = spell_fits kind xs s.1 s.3 in
    (rw i.0 r.0, s.4 ∙ ap₂ (λ (l m : List ℕ). l ++ m) i.1 r.1, rw i.2 r.2)

-- Items that fit, with bytes to 7FH and none of them named 00 00 00, spell a string of the page.
pub fits_spell : (kind : Kind) (xs : List Item) → all_fit kind xs ≡ true → all_low (joined kind xs) ≡ true → any_zeros xs ≡ false
    → Spell kind xs (joined kind xs)
unfolding all_fit joined any_zeros
fits_spell kind [] h l z = refl
fits_spell kind (x ∷ xs) h l z =
    let t = and_parts (item_fits kind x) (all_fit kind xs) h in
    let o = or_false (is_zeros x) (any_zeros xs) z in
    let b = and_parts (all_low (item_bytes kind x)) (all_low (joined kind xs))
    (sym (all_low_append (item_bytes kind x) (joined kind xs)) ∙ l) in
    (item_bytes kind x, joined kind xs, fits_item kind x t.0 b.0 o.0, fits_spell kind xs t.1 b.1 o.1, refl)

-- Items that fit, with bytes to 7FH, are the page's or named 00 00 00.
pub page_or_zeros : (kind : Kind) (xs : List Item) → all_fit kind xs ≡ true → all_low (joined kind xs) ≡ true → OfPageOrZeros kind xs
unfolding all_fit joined
page_or_zeros kind [] h l = tt
page_or_zeros kind (x ∷ xs) h l =
    let t = and_parts (item_fits kind x) (all_fit kind xs) h in
    let b = and_parts (all_low (item_bytes kind x)) (all_low (joined kind xs))
    (sym (all_low_append (item_bytes kind x) (joined kind xs)) ∙ l) in
    (one (is_zeros x) refl t.0 b.0, page_or_zeros kind xs t.1 b.1)
  where
    one : (z : Bool) → is_zeros x ≡ z → item_fits kind x ≡ true → all_low (item_bytes kind x) ≡ true
        → IsItem kind x (item_bytes kind x) ⊎ (x ≡ zeros_item)
    one true e f low = inr (zeros_item_lem kind x f e)
    one false e f low = inl (fits_item kind x f low e)

zeros_fits : (kind : Kind) → item_fits kind zeros_item ≡ true
unfolding item_fits name_fits
zeros_fits kind = rw (length_zero kind)

-- Such items fit.
pub of_page_fits : (kind : Kind) (xs : List Item) → OfPageOrZeros kind xs → all_fit kind xs ≡ true
unfolding all_fit
of_page_fits kind [] t = refl
of_page_fits kind (x ∷ xs) t = and_all (item_fits kind x) (all_fit kind xs) (one t.0) (of_page_fits kind xs t.1)
  where
    one : IsItem kind x (item_bytes kind x) ⊎ (x ≡ zeros_item) → item_fits kind x ≡ true
    one (inl i) = (item_fits_lem kind x (item_bytes kind x) i).0
    one (inr e) = ap (item_fits kind) e ∙ zeros_fits kind
