-- Bytes put one by one: what a turn of `put_part`'s loop adds, and when enough bytes were put. Assumes nothing.
use mathlib.Core.Path.{◌≡◌, sym, ap, ◌∙◌}
use mathlib.Core.Logic.{◌⊎◌, inl, inr, ⊎_elim}
use Prim.Native.Nat.{ℕ, ◌+◌, ◌≤◌, ◌<◌}
use native.Mathlib.Nat.{le_of_lt}
use native.Mathlib.Numerals.{add-one}
use native.Mathlib.Omega.{arith}
use mathlib.Core.List.{List, [], ◌∷◌}
use lib.ListN.{length, take, drop, get_or, set, take-append-drop, length-set}
use lib.Seq.{take-suc, take_all, length-take-le}
use Rattle.universal.specs.Overlay.{overlay}
use Rattle.universal.proofs.Laws.{length_overlay, overlay_append, overlay_past}

-- One byte more of the source.
pub overlay_turn : (out : List ℕ) (at : ℕ) (bytes : List ℕ) (i : ℕ) → i < length bytes
    → set (overlay out at (take i bytes)) (at + i) (get_or bytes i 0) ≡ overlay out at (take (i + 1) bytes)
unfolding overlay
overlay_turn out at bytes i h =
    sym
    (rw (add-one, take-suc bytes i 0)
    (overlay_append out at (take i bytes) (get_or bytes i 0 ∷ []) ∙ rw (length-take-le i bytes (le_of_lt h))))

-- The first bytes are enough where they reach the buffer's end, or the source's.
pub overlay_enough : (out : List ℕ) (at : ℕ) (bytes : List ℕ) (n : ℕ) → n ≤ length bytes
    → (length out ≤ at + n) ⊎ (length bytes ≤ n) → overlay out at (take n bytes) ≡ overlay out at bytes
overlay_enough out at bytes n within (inl reach) =
    sym
    (ap (λ (l : List ℕ). overlay out at l) (sym (take-append-drop n bytes))
    ∙ overlay_append out at (take n bytes) (drop n bytes)
    ∙ overlay_past (overlay out at (take n bytes)) (at + length (take n bytes)) (drop n bytes)
    (omega (arith, length_overlay out at (take n bytes), length-take-le n bytes within)))
overlay_enough out at bytes n within (inr all) = ap (λ (l : List ℕ). overlay out at l) (take_all n bytes all)

-- The first `i` of the `end` bytes that fit were put into `out₀`, which gave `out`.
pub record Copied (out₀ : List ℕ) (at : ℕ) (bytes : List ℕ) (end : ℕ) (out : List ℕ) (i : ℕ) : Type 0 where
  pub inside : i ≤ end
  pub source : end ≤ length bytes
  pub room : at + end ≤ length out₀
  pub most : (length out₀ ≤ at + end) ⊎ (length bytes ≤ end)
  pub kept : length out ≡ length out₀
  pub holds : out ≡ overlay out₀ at (take i bytes)

-- A turn of the loop puts one more.
pub copied_turn : (out₀ : List ℕ) (at : ℕ) (bytes : List ℕ) (end : ℕ) (out : List ℕ) (i : ℕ)
    → Copied out₀ at bytes end out i → i < end → Copied out₀ at bytes end (set out (at + i) (get_or bytes i 0)) (i + 1)
copied_turn out₀ at bytes end out i r h =
    record {
      inside = omega arith;
      source = r.source;
      room = r.room;
      most = r.most;
      kept = length-set out (at + i) (get_or bytes i 0) ∙ r.kept;
      holds =
          ap (λ (l : List ℕ). set l (at + i) (get_or bytes i 0)) r.holds ∙ overlay_turn out₀ at bytes i (omega arith);
    }

-- At the end the whole source was put, as far as it fits.
pub copied_all : (out₀ : List ℕ) (at : ℕ) (bytes : List ℕ) (end : ℕ) (out : List ℕ) (i : ℕ)
    → Copied out₀ at bytes end out i → end ≤ i → out ≡ overlay out₀ at bytes
copied_all out₀ at bytes end out i r h =
    r.holds
    ∙ overlay_enough out₀ at bytes i (omega arith)
    (⊎_elim (λ l. inl (omega arith)) (λ l. inr (omega arith)) r.most)
