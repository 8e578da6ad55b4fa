-- Lemmas on the fields of a message: a value in range or not, and what holds of an opening that is not refused. Assumes nothing.
use Rattle.std.specs.Prelude.{Option, Some, None}
use mathlib.Core.Path.{◌≡◌, refl}
use Prim.Native.Nat.{ℕ, ◌≤◌, ◌<◌, zero-le}
use native.Mathlib.Nat.{le_refl}
use mathlib.Core.Bool.{Bool, true, false, beq}
use mathlib.Core.List.{List, [], ◌∷◌, ◌++◌}
use lib.Dec.{leb}
use lib.ListN.{length}
use borrow.Author.Tests.{le-leb, lt-leb, leb-true}
use Rattle.universal.specs.Refusals.{refusal}
use Rattle.universal.specs.Emission.{Emission, sent, refusing, check, ◌then◌}
use Rattle.universal.specs.Midi1.{has_sub_id2, sub_id2_given, sub_id2_bytes, class_id}
use Rattle.universal.specs.Message.{sub_id2_value, value, all_low, opening}
use Rattle.universal.specs.declared.message.Universal.{Universal}
use Rattle.universal.proofs.Emissions.{none_some}
use Rattle.universal.proofs.Tests.{and_parts, beq_same, beq_true}

-- A value of at most 7FH goes out.
pub value_low : (v : ℕ) → v ≤ 127 → value v ≡ sent (v ∷ [])
value_low v h = rw (le-leb v 127 h)

-- One above is refused.
pub value_high : (v : ℕ) → 127 < v → value v ≡ refusing 3
value_high v h = rw (lt-leb v 127 h)

-- The fields of an opening that is not refused are in range, and its bytes are these.
pub record Accepted (u : Universal) : Type 0 where
  pub device : u.device_id ≤ 127
  pub family : sub_id2_given u.sub_id2 ≡ has_sub_id2 u.real_time u.sub_id1
  pub sub_id1_lem : u.sub_id1 ≤ 127
  pub sub_id2_lem : (sub_id2_value u.sub_id2).stop ≡ None
  pub emits : (opening u).bytes ≡ 240 ∷ class_id u.real_time ∷ u.device_id ∷ u.sub_id1 ∷ (sub_id2_value u.sub_id2).bytes

module _ (bs : List ℕ) (v : ℕ) (rest : Emission) where
  -- An opening by the outcomes of its checks.
  checked : Bool → Bool → Bool → Emission
  checked a b t = check a 5 then check b 3 then sent bs then (check t 3 then sent (v ∷ [])) then rest

  -- Where it is not refused each check held.
  unchecked : (a b t : Bool) → (checked a b t).stop ≡ None
      → (a ≡ true) × (b ≡ true) × (t ≡ true) × (rest.stop ≡ None) × ((checked a b t).bytes ≡ bs ++ v ∷ rest.bytes)
  unfolding checked
  unchecked false b t h = absurd (none_some (refusal 5) h)
  unchecked true false t h = absurd (none_some (refusal 3) h)
  unchecked true true false h = absurd (none_some (refusal 3) h)
  unchecked true true true h = (refl, refl, refl, h, refl)

-- So it is with an opening.
pub accepted : (u : Universal) → (opening u).stop ≡ None → Accepted u
unfolding opening checked
accepted u h =
    let given : Bool = sub_id2_given u.sub_id2 in
    let rule : Bool = has_sub_id2 u.real_time u.sub_id1 in
    let r =
    unchecked (240 ∷ class_id u.real_time ∷ u.device_id ∷ []) u.sub_id1 (sub_id2_value u.sub_id2)
    (leb u.device_id 127) (beq given rule) (leb u.sub_id1 127) h in
    record {
      device = leb-true _ _ r.0;
      family = beq_true given rule r.1;
      sub_id1_lem = leb-true _ _ r.2;
      sub_id2_lem = r.3;
      emits = r.4;
    }

-- The class byte is low.
pub class_low : (t : Bool) → leb (class_id t) 127 ≡ true
class_low true = refl
class_low false = refl

-- The byte of a sub-ID 2 that is not refused is low.
pub sub_id2_low : (m : Option ℕ) → (sub_id2_value m).stop ≡ None → all_low (sub_id2_value m).bytes ≡ true
unfolding all_low
sub_id2_low None h = refl
sub_id2_low (Some v) h = go (leb v 127) refl h
  where
    go : (t : Bool) → leb v 127 ≡ t → (check t 3 then sent (v ∷ [])).stop ≡ None → all_low (check t 3 then sent (v ∷ [])).bytes ≡ true
    go true e p = rw e
    go false e p = absurd (none_some (refusal 3) p)

-- What it emits is its byte.
pub sub_id2_bytes_lem : (m : Option ℕ) → (sub_id2_value m).stop ≡ None → (sub_id2_value m).bytes ≡ sub_id2_bytes m
sub_id2_bytes_lem None h = refl
sub_id2_bytes_lem (Some v) h = go (leb v 127) h
  where
    go : (t : Bool) → (check t 3 then sent (v ∷ [])).stop ≡ None → (check t 3 then sent (v ∷ [])).bytes ≡ v ∷ []
    go true p = refl
    go false p = absurd (none_some (refusal 3) p)

-- One whose byte is low is not refused.
pub sub_id2_sent : (m : Option ℕ) → all_low (sub_id2_bytes m) ≡ true → sub_id2_value m ≡ sent (sub_id2_bytes m)
unfolding all_low
sub_id2_sent None h = refl
sub_id2_sent (Some v) h = rw (and_parts (leb v 127) true h).0

-- A sub-ID 2 is at most one byte.
pub sub_id2_short : (m : Option ℕ) → length (sub_id2_value m).bytes ≤ 1
sub_id2_short None = zero-le
sub_id2_short (Some v) = go (leb v 127)
  where
    go : (t : Bool) → length (check t 3 then sent (v ∷ [])).bytes ≤ 1
    go true = le_refl 1
    go false = zero-le

-- All bytes of an opening that is not refused but the first are low.
pub inner_low : (u : Universal) → Accepted u
    → all_low (class_id u.real_time ∷ u.device_id ∷ u.sub_id1 ∷ (sub_id2_value u.sub_id2).bytes) ≡ true
unfolding all_low
inner_low u a =
    rw
    (class_low u.real_time, le-leb u.device_id 127 a.device, le-leb u.sub_id1 127 a.sub_id1_lem)
    (sub_id2_low u.sub_id2 a.sub_id2_lem)

-- Past the checks of the device and the family come the fields.
pub opening_fields : (u : Universal) → u.device_id ≤ 127
    → sub_id2_given u.sub_id2 ≡ has_sub_id2 u.real_time u.sub_id1
    → opening u
    ≡ sent (240 ∷ class_id u.real_time ∷ u.device_id ∷ []) then value u.sub_id1 then sub_id2_value u.sub_id2
unfolding opening
opening_fields u d f = rw (le-leb u.device_id 127 d, beq_same _ _ f)
