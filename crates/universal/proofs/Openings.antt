-- Opening bytes put into a buffer, by the outcome of each test. Assumes nothing.
use Rattle.std.specs.Prelude.{Option, Some, None}
use mathlib.Core.Path.{◌≡◌, refl, sym, ap, subst, ◌∙◌}
use Prim.Native.Nat.{ℕ, ◌≤◌, ◌<◌}
use native.Mathlib.Nat.{le_of_suc-le-suc}
use mathlib.Core.Bool.{Bool, true, false, false≢true}
use mathlib.Core.List.{List, [], ◌∷◌}
use lib.ListN.{length}
use Rattle.universal.specs.Refusals.{Refusal, refusal, Answer, gives, refused}
use Rattle.universal.specs.Overlay.{overlay}
use Rattle.universal.specs.Emission.{Emission, sent, reached}
use Rattle.universal.specs.Midi1.{has_sub_id2, class_id}
use Rattle.universal.specs.Message.{header, opening}
use Rattle.universal.specs.declared.message.Universal.{Universal}
use Rattle.universal.proofs.Laws.{overlay_then, overlay_none, opening_device, opening_family, opening_sub_id1, opening_sub_id2, opening_plain, opening_with_sub_id2}

-- What a call owes that put an emission's bytes at the buffer's start: its answer, and the buffer.
abbrev pub EmissionPut : Emission → Answer ℕ → List ℕ → List ℕ → Type 0
EmissionPut e r out after = record { result_value : r ≡ reached e; out_after : after ≡ overlay out 0 e.bytes }

-- It owes the same of an emission that is the same.
put_as : {d e : Emission} {r : Answer ℕ} {after : List ℕ} (out : List ℕ) → d ≡ e → EmissionPut d r out after → EmissionPut e r out after
put_as {r = r} {after} out p h = subst (λ (e : Emission). EmissionPut e r out after) p h

-- Bytes that all went out.
put_sent : (e : Emission) (bs out after : List ℕ) → e ≡ sent bs → after ≡ overlay out 0 bs → EmissionPut e (gives (length bs)) out after
unfolding reached
put_sent e bs out after p h = put_as out (sym p) (record { result_value = refl; out_after = h })

-- Bytes that went out before a refusal.
put_refused : (e : Emission) (bs : List ℕ) (r : Refusal) (out after : List ℕ) → e ≡ record { bytes = bs; stop = Some r }
    → after ≡ overlay out 0 bs → EmissionPut e (refused r) out after
unfolding reached
put_refused e bs r out after p h = put_as out (sym p) (record { result_value = refl; out_after = h })

-- A message's opening is that of its fields.
pub fields_put : (u : Universal) (m : Option ℕ) (r : Answer ℕ) (out after : List ℕ) → u.sub_id2 ≡ m
    → EmissionPut (opening (header u.real_time u.device_id u.sub_id1 m)) r out after → EmissionPut (opening u) r out after
fields_put u m r out after e h =
    put_as out
    (ap (λ (k : Option ℕ). opening (header u.real_time u.device_id u.sub_id1 k)) (sym e))
    h

-- A device above 127.
pub device_against : (u : Universal) (out : List ℕ) → 127 < u.device_id → EmissionPut (opening u) (refused (refusal 5)) out out
device_against u out h = put_refused (opening u) [] (refusal 5) out out (opening_device u h) (sym (overlay_none out 0))

module _ (real_time : Bool) (device sub_id1 : ℕ) (low : device < 128) (has : Bool) (rule : has ≡ has_sub_id2 real_time sub_id1) (out : List ℕ) where
  -- No sub-ID 2, where the family carries one.
  pub plain_against : has ≡ true → EmissionPut (opening (header real_time device sub_id1 None)) (refused (refusal 3)) out out
  plain_against h =
      put_refused _ [] (refusal 3) out out
      (opening_family (header real_time device sub_id1 None) (le_of_suc-le-suc low) (λ e. false≢true (e ∙ sym rule ∙ h)))
      (sym (overlay_none out 0))

  -- A sub-ID 2, where the family carries none.
  pub with_against : (sub_id2 : ℕ) → has ≡ false
      → EmissionPut (opening (header real_time device sub_id1 (Some sub_id2))) (refused (refusal 3)) out out
  with_against v h =
      put_refused _ [] (refusal 3) out out
      (opening_family (header real_time device sub_id1 (Some v)) (le_of_suc-le-suc low)
      (λ e. false≢true (sym (e ∙ sym rule ∙ h))))
      (sym (overlay_none out 0))

  module _ (started : List ℕ) (start : started ≡ overlay out 0 (240 ∷ class_id real_time ∷ device ∷ [])) where
    -- The sub-ID 1 stands after the device.
    fourth : (after : List ℕ) → after ≡ overlay started 3 (sub_id1 ∷ []) → after ≡ overlay out 0 (240 ∷ class_id real_time ∷ device ∷ sub_id1 ∷ [])
    fourth after a = overlay_then out started after 0 3 (240 ∷ class_id real_time ∷ device ∷ []) (sub_id1 ∷ []) start a refl

    -- A sub-ID 1 above 7FH, without a sub-ID 2.
    pub plain_high : has ≡ false → 127 < sub_id1
        → EmissionPut (opening (header real_time device sub_id1 None)) (refused (refusal 3)) out started
    plain_high f h =
        put_refused _ _ (refusal 3) out started
        (opening_sub_id1 (header real_time device sub_id1 None) (le_of_suc-le-suc low) (sym f ∙ rule) h)
        start

    -- The whole opening without a sub-ID 2.
    pub plain_whole : has ≡ false → sub_id1 ≤ 127 → (after : List ℕ) → after ≡ overlay started 3 (sub_id1 ∷ [])
        → EmissionPut (opening (header real_time device sub_id1 None)) (gives 4) out after
    plain_whole f h after a =
        put_sent _ (240 ∷ class_id real_time ∷ device ∷ sub_id1 ∷ []) out after
        (opening_plain real_time device sub_id1 (le_of_suc-le-suc low) (sym rule ∙ f) h)
        (fourth after a)

    module _ (sub_id2 : ℕ) (given : has ≡ true) where
      module _ (h : sub_id1 ≤ 127) (middle : List ℕ) (a : middle ≡ overlay started 3 (sub_id1 ∷ [])) where
        -- A sub-ID 2 above 7FH.
        pub with_high_sub_id2 : 127 < sub_id2
            → EmissionPut (opening (header real_time device sub_id1 (Some sub_id2))) (refused (refusal 3)) out middle
        with_high_sub_id2 g =
            put_refused _ _ (refusal 3) out middle
            (opening_sub_id2 real_time device sub_id1 (le_of_suc-le-suc low) sub_id2 (sym rule ∙ given) h g)
            (fourth middle a)

        -- The whole opening with a sub-ID 2.
        pub with_whole : sub_id2 ≤ 127 → (after : List ℕ) → after ≡ overlay middle 4 (sub_id2 ∷ [])
            → EmissionPut (opening (header real_time device sub_id1 (Some sub_id2))) (gives 5) out after
        with_whole l after b =
            put_sent _ (240 ∷ class_id real_time ∷ device ∷ sub_id1 ∷ sub_id2 ∷ []) out after
            (opening_with_sub_id2 real_time device sub_id1 (le_of_suc-le-suc low) sub_id2 (sym rule ∙ given) h l)
            (overlay_then out middle after 0 4 (240 ∷ class_id real_time ∷ device ∷ sub_id1 ∷ []) (sub_id2 ∷ []) (fourth middle a) b refl)
