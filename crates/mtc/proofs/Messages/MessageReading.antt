-- Which messages are MIDI Time Code's of a kind, test by test, and what reading one kind answers. Assumes nothing.
use Rattle.std.specs.Prelude.{Option, Some, None}
use Prim.Native.Nat.{ℕ}
use mathlib.Core.Path.{◌≡◌, refl, ap, ap₂}
use mathlib.Core.Bool.{Bool, true, false, ◌&&◌, false≢true, and-eq-true_iff}
use mathlib.Core.List.{List}
use lib.Dec.{eqb}
use lib.ListN.{length}
use native.Mathlib.Omega.{arith}
use borrow.Author.Tests.{eq-eqb, ne_eqb, eqb-true}
use Rattle.universal.specs.Message.{header}
use Rattle.universal.specs.Refusals.{Refusal, Answer, gives, refused, refusal}
use Rattle.universal.specs.declared.message.Universal.{Universal}
use Rattle.mtc.specs.Kind.{time_code, is_sub_id2, is_time_code, read_kind, ReadsOnly}

-- ---- the kind, test by test

-- ---- one kind

module _ {A : Type 0} (right : Bool) (n size : ℕ) (m : A) where
  pub read_other : right ≡ false → read_kind right (eqb n size) m ≡ gives None
  read_other h = rw h

  pub size_refused : right ≡ true → (n ≡ size → ⊥) → read_kind right (eqb n size) m ≡ refused (refusal 2)
  size_refused h l = rw (h, ne_eqb n size l)

  pub read_whole : right ≡ true → n ≡ size → read_kind right (eqb n size) m ≡ gives (Some m)
  read_whole h l = rw (h, eq-eqb n size l)

-- ---- one layout

-- A message of a kind has its header.
kind_header : (u : Universal) (n : ℕ) → is_time_code u n ≡ true → u ≡ time_code u.device_id n
unfolding is_time_code
kind_header u n h = go u.real_time u.sub_id1 u.sub_id2 h
  where
    sub_id2_lem : (x : Option ℕ) → is_sub_id2 x n ≡ true → x ≡ Some n
    sub_id2_lem None e = absurd (false≢true e)
    sub_id2_lem (Some k) e = ap Some (eqb-true k n e)

    go : (r : Bool) (s : ℕ) (x : Option ℕ) → (r && (eqb s 1 && is_sub_id2 x n)) ≡ true
        → header r u.device_id s x ≡ time_code u.device_id n
    go false s x e = absurd (false≢true e)
    go true s x e =
        let both = (and-eq-true_iff (eqb s 1) (is_sub_id2 x n)).0 e in
        ap₂ (λ (k : ℕ) (y : Option ℕ). header true u.device_id k y) (eqb-true s 1 both.0) (sub_id2_lem x both.1)

-- A header of a kind is of that kind.
header_kind : (device n : ℕ) → is_time_code (time_code device n) n ≡ true
unfolding is_time_code
header_kind device n = eq-eqb n n refl

other_header : (u : Universal) (n : ℕ) → (u ≡ time_code u.device_id n → ⊥) → is_time_code u n ≡ false
other_header u n h = go (is_time_code u n) refl
  where
    go : (b : Bool) → is_time_code u n ≡ b → is_time_code u n ≡ false
    go true e = absurd (h (kind_header u n e))
    go false e = e

none_given : {A : Type 0} (m : A) → gives None ≡ gives (Some m) → ⊥
none_given m e = let z : ◌≡◌ {A = ℕ} 0 1 = cc in omega arith

refused_given : {A : Type 0} (r : Refusal) (m : A) → refused r ≡ gives m → ⊥
refused_given r m e = let z : ◌≡◌ {A = ℕ} 0 1 = cc in omega arith

module _ {A : Type 0} (sub_id2 size : ℕ) (made : ℕ → List ℕ → A) where
  -- What `read_kind` answers of a message and its data.
  abbrev pub reading : Universal → List ℕ → Answer (Option A)
  reading u bs = read_kind (is_time_code u sub_id2) (eqb (length bs) size) (made u.device_id bs)

  read_only : (u : Universal) (bs : List ℕ) (m : A) → reading u bs ≡ gives (Some m)
      → (u ≡ time_code u.device_id sub_id2) × (length bs ≡ size)
  read_only u bs m = go (is_time_code u sub_id2) (eqb (length bs) size) refl refl
    where
      go : (k w : Bool) → is_time_code u sub_id2 ≡ k → eqb (length bs) size ≡ w → read_kind k w (made u.device_id bs) ≡ gives (Some m)
          → (u ≡ time_code u.device_id sub_id2) × (length bs ≡ size)
      go true true p q e = (kind_header u sub_id2 p, eqb-true (length bs) size q)
      go true false p q e = absurd (refused_given (refusal 2) (Some m) e)
      go false w p q e = absurd (none_given m e)

  pub reads_only : ReadsOnly sub_id2 size made reading
  reads_only =
      record {
        accepts = λ device bs l. read_whole _ (length bs) size _ (header_kind device sub_id2) l;
        only = read_only;
        other_kind = λ u bs h. read_other _ (length bs) size _ (other_header u sub_id2 h);
        other_length = λ device bs l. size_refused _ (length bs) size _ (header_kind device sub_id2) l;
      }
