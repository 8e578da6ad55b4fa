-- Emissions put into a buffer: what the put functions answer and leave, once the emission is known. Assumes nothing.
use Rattle.std.specs.Prelude.{Some}
use Prim.Native.Nat.{ℕ, ◌+◌, ◌≤◌, ◌<◌}
use mathlib.Core.Path.{◌≡◌, refl, sym, ap, ◌∙◌}
use mathlib.Core.Bool.{Bool, true, false, cond, true≢false}
use mathlib.Core.List.{List, [], ◌∷◌}
use native.Mathlib.Omega.{arith}
use borrow.Author.Tests.{le-leb, lt-leb, eq-eqb, ne_eqb, leb-true, leb-false, eqb-true, eqb-false}
use lib.Dec.{leb, eqb, lit≤}
use lib.ListN.{length, length-append}
use Rattle.mmc.specs.declared.length.Kind.{Kind}
use Rattle.mmc.specs.declared.length.Kind.TheVariants.{Commands, Fields}
use Rattle.mmc.specs.declared.length.Length.{Length}
use Rattle.mmc.specs.declared.length.Length.TheVariants.{Fixed, Count}
use Rattle.mmc.specs.Length.{within, command_length, field_length, length_of}
use Rattle.mmc.specs.Named.{Extent, extent_of, name_fits, last_of_name, by_rule, named_item}
use Rattle.universal.specs.Refusals.{refusal}
use Rattle.universal.specs.Emission.{Emission, sent, refusing, ◌then◌}
use Rattle.universal.specs.Message.{all_low}
use Rattle.universal.specs.Message.{data_emission}
use Rattle.universal.specs.Overlay.{overlay}
use Rattle.universal.proofs.Laws.{overlay_then, data_sent, data_refused}

-- What a put answers and leaves of an emission.
abbrev pub Puts : Emission → List ℕ → ℕ → Extent → List ℕ → Type 0
Puts e out at o after = (o ≡ extent_of e) × (after ≡ overlay out at e.bytes)

-- The buffer after bytes that went out and the emission behind them.
pub left_behind : (e : Emission) (bs : List ℕ) (rest : Emission) (out middle after : List ℕ) (at next : ℕ) → e ≡ sent bs then rest
    → middle ≡ overlay out at bs → after ≡ overlay middle next rest.bytes → next ≡ at + length bs → after ≡ overlay out at e.bytes
left_behind e bs rest out middle after at next q m a n =
    overlay_then out middle after at next bs rest.bytes m a n ∙ ap (λ (x : Emission). overlay out at x.bytes) (sym q)

-- What a put answers of bytes that went out and the emission behind them.
pub extent_behind : (bs : List ℕ) (rest : Emission) (o : Extent) → o ≡ extent_of rest
    → record { len = length bs + o.len; stop = o.stop } ≡ extent_of (sent bs then rest)
extent_behind bs rest o p =
    ap (λ (x : Extent). record { len = length bs + x.len; stop = x.stop }) p
    ∙ ap (λ (k : ℕ). record { len = k; stop = rest.stop }) (sym (length-append bs rest.bytes))

-- Data is no longer than it is.
pub data_length : (d : List ℕ) → length (data_emission d).bytes ≤ length d
data_length d = go (all_low d) refl
  where
    go : (b : Bool) → all_low d ≡ b → length (data_emission d).bytes ≤ length d
    go true e = rw (data_sent d e) (omega arith)
    go false e = rw (data_refused d e) (omega arith)

-- ---- data by the rule

module _ (d : List ℕ) where
  pub fixed_other : (n : ℕ) → (n ≡ length d → ⊥) → by_rule (Fixed n) d ≡ refusing 2
  unfolding by_rule
  fixed_other n h = rw (ne_eqb n (length d) h)

  pub fixed_high : (n : ℕ) → n ≡ length d → all_low d ≡ false → by_rule (Fixed n) d ≡ refusing 1
  unfolding by_rule
  fixed_high n e h = rw (eq-eqb n (length d) e, data_refused d h)

  pub fixed_low : (n : ℕ) → n ≡ length d → all_low d ≡ true → by_rule (Fixed n) d ≡ sent d
  unfolding by_rule
  fixed_low n e h = rw (eq-eqb n (length d) e, data_sent d h)

  pub count_long : 127 < length d → by_rule Count d ≡ refusing 2
  unfolding by_rule
  count_long h = rw (lt-leb (length d) 127 h)

  pub count_sent : length d ≤ 127 → by_rule Count d ≡ sent (length d ∷ []) then data_emission d
  unfolding by_rule
  count_sent h = rw (le-leb (length d) 127 h)

  pub count_high : length d ≤ 127 → all_low d ≡ false → by_rule Count d ≡ record { bytes = length d ∷ []; stop = Some (refusal 1) }
  unfolding by_rule
  count_high l h = rw (le-leb (length d) 127 l, data_refused d h)

  pub count_low : length d ≤ 127 → all_low d ≡ true → by_rule Count d ≡ sent (length d ∷ d)
  unfolding by_rule
  count_low l h = rw (le-leb (length d) 127 l, data_sent d h)

-- ---- a name and its data

module _ (kind : Kind) (name d : List ℕ) where
  pub name_unfit : name_fits name ≡ false → named_item kind name d ≡ refusing 2
  unfolding named_item
  name_unfit h = rw h

  pub name_high : name_fits name ≡ true → all_low name ≡ false → named_item kind name d ≡ refusing 1
  unfolding named_item
  name_high f h = rw (f, data_refused name h)

  pub name_sent : name_fits name ≡ true → all_low name ≡ true → named_item kind name d ≡ sent name then by_rule (length_of kind (last_of_name name)) d
  unfolding named_item
  name_sent f h = rw (f, data_sent name h)

-- ---- a name's form

-- So with the rule that its last byte has.
pub name_by : (kind : Kind) (name d : List ℕ) (rule : Length) → name_fits name ≡ true → all_low name ≡ true
    → rule ≡ length_of kind (last_of_name name) → named_item kind name d ≡ sent name then by_rule rule d
name_by kind name d rule f l e = name_sent kind name d f l ∙ ap (λ (r : Length). sent name then by_rule r d) (sym e)

pub name_length : (name : List ℕ) → name_fits name ≡ true → (1 ≤ length name) × (length name ≤ 3)
unfolding name_fits
name_length [] e = absurd (true≢false (sym e))
name_length (x ∷ []) e = (omega arith, omega arith)
name_length (a ∷ x ∷ []) e = (omega arith, omega arith)
name_length (a ∷ b ∷ x ∷ []) e = (omega arith, omega arith)
name_length (a ∷ b ∷ x ∷ y ∷ l) e = absurd (true≢false (sym e))

-- ---- together

pub of_rule : (d : List ℕ) (r q : Length) → r ≡ q → by_rule r d ≡ by_rule q d
of_rule d r q e = ap (λ (x : Length). by_rule x d) e

-- By the rule no more goes out than a count byte and the data.
pub rule_length : (r : Length) (d : List ℕ) → length (by_rule r d).bytes ≤ length d + 1
rule_length (Fixed n) d = go (eqb n (length d)) (all_low d) refl refl
  where
    go : (a b : Bool) → eqb n (length d) ≡ a → all_low d ≡ b → length (by_rule (Fixed n) d).bytes ≤ length d + 1
    go true true e l = rw (fixed_low d n (eqb-true n (length d) e) l) (omega arith)
    go true false e l = rw (fixed_high d n (eqb-true n (length d) e) l) (omega arith)
    go false b e l = rw (fixed_other d n (eqb-false n (length d) e)) (omega arith)
rule_length Count d = go (leb (length d) 127) (all_low d) refl refl
  where
    go : (a b : Bool) → leb (length d) 127 ≡ a → all_low d ≡ b → length (by_rule Count d).bytes ≤ length d + 1
    go true true e l = rw (count_low d (leb-true (length d) 127 e) l) (omega arith)
    go true false e l = rw (count_high d (leb-true (length d) 127 e) l) (omega arith)
    go false b e l = rw (count_long d (leb-false (length d) 127 e)) (omega arith)

-- ---- how much goes out at most

fixed_small : (n : ℕ) (d : List ℕ) → n ≤ 128 → length (by_rule (Fixed n) d).bytes ≤ 128
fixed_small n d m = go (eqb n (length d)) (all_low d) refl refl
  where
    go : (a b : Bool) → eqb n (length d) ≡ a → all_low d ≡ b → length (by_rule (Fixed n) d).bytes ≤ 128
    go true true e l = rw (fixed_low d n (eqb-true n (length d) e) l) (omega (arith, eqb-true n (length d) e))
    go true false e l = rw (fixed_high d n (eqb-true n (length d) e) l) (omega arith)
    go false b e l = rw (fixed_other d n (eqb-false n (length d) e)) (omega arith)

counted_short : (d : List ℕ) → length (by_rule Count d).bytes ≤ 128
counted_short d = go (leb (length d) 127) (all_low d) refl refl
  where
    go : (a b : Bool) → leb (length d) 127 ≡ a → all_low d ≡ b → length (by_rule Count d).bytes ≤ 128
    go true true e l = rw (count_low d (leb-true (length d) 127 e) l) (omega (arith, leb-true (length d) 127 e))
    go true false e l = rw (count_high d (leb-true (length d) 127 e) l) (omega arith)
    go false b e l = rw (count_long d (leb-false (length d) 127 e)) (omega arith)

-- A rule asks for at most five bytes, or for a count.
rule_small : (kind : Kind) (x : ℕ) (d : List ℕ) → length (by_rule (length_of kind x) d).bytes ≤ 128
unfolding length_of command_length field_length
rule_small Commands x d = go (within 64 120 x)
  where
    go : (a : Bool) → length (by_rule (cond a Count (Fixed 0)) d).bytes ≤ 128
    go true = counted_short d
    go false = fixed_small 0 d (lit≤ tt)
rule_small Fields x d = go (within 1 32 x) (within 32 64 x) (within 64 120 x)
  where
    go : (a b c : Bool) → length (by_rule (cond a (Fixed 5) (cond b (Fixed 2) (cond c Count (Fixed 0)))) d).bytes ≤ 128
    go true b c = fixed_small 5 d (lit≤ tt)
    go false true c = fixed_small 2 d (lit≤ tt)
    go false false true = counted_short d
    go false false false = fixed_small 0 d (lit≤ tt)

-- A name and its data are at most 131 bytes.
pub named_small : (kind : Kind) (name d : List ℕ) → length (named_item kind name d).bytes ≤ 131
named_small kind name d = go (name_fits name) (all_low name) refl refl
  where
    go : (a b : Bool) → name_fits name ≡ a → all_low name ≡ b → length (named_item kind name d).bytes ≤ 131
    go true true f h =
        rw (name_sent kind name d f h)
        (omega (arith, length-append name (by_rule (length_of kind (last_of_name name)) d).bytes, name_length name f, rule_small kind (last_of_name name) d))
    go true false f h = rw (name_high kind name d f h) (omega arith)
    go false b f h = rw (name_unfit kind name d f) (omega arith)
