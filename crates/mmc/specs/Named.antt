-- A name and its data written by the length rule, as mmc.rs does it: the bytes emitted before the refusing check. Assumes nothing.
use Rattle.universal.specs.declared.error.SysexError.{SysexError}
use Rattle.std.specs.Prelude.{ℕ, ◌-◌, Bool, false, not, ◌&&◌, List, [], ◌∷◌, leb, eqb, length, get_or, Option, Some, None, Result, Ok, Err}
use Rattle.mmc.specs.declared.length.Kind.{Kind}
use Rattle.mmc.specs.declared.length.Length.{Length}
use Rattle.mmc.specs.declared.length.Length.TheVariants.{Fixed, Count}
use Rattle.mmc.specs.declared.named.Put.{Put}
use Rattle.mmc.specs.Length.{length_of}
use Rattle.universal.specs.Refusals.{Refusal, refusal_of}
use Rattle.universal.specs.Emission.{Emission, sent, check, ◌then◌}
use Rattle.universal.specs.Message.{data_emission}

-- ---- what a put answers, in the paper's numbers

-- How many bytes went out, and the refusal that ended them, if any did.
pub record Extent : Type 0 where
  pub len : ℕ
  pub stop : Option Refusal

abbrev pub stop_of : {A : Type 0} → Result A SysexError → Option Refusal
stop_of (Ok a) = None
stop_of (Err e) = Some (refusal_of e)

abbrev pub put_of : Put → Extent
put_of p = record { len = p.len; stop = stop_of p.checked }

abbrev pub extent_of : Emission → Extent
extent_of e = record { len = length e.bytes; stop = e.stop }

-- ---- a name and its data

-- One byte after at most two zeros, which is zero only after two.
unfoldable pub name_fits : List ℕ → Bool
name_fits [] = false
name_fits (x ∷ []) = not (eqb x 0)
name_fits (a ∷ x ∷ []) = eqb a 0 && not (eqb x 0)
name_fits (a ∷ b ∷ x ∷ []) = eqb a 0 && eqb b 0
name_fits (a ∷ b ∷ x ∷ y ∷ l) = false

-- A name's last byte, which its length rule goes by.
abbrev pub last_of_name : List ℕ → ℕ
last_of_name name = get_or name (length name - 1) 0

-- Data by the rule: 2 for another length, then 1 for a byte above 7FH.
unfoldable pub by_rule : Length → List ℕ → Emission
by_rule (Fixed n) d = check (eqb n (length d)) 2 then data_emission d
by_rule Count d = check (leb (length d) 127) 2 then sent (length d ∷ []) then data_emission d

-- A name, which is checked first for its form and then for its bytes, and the data by its rule.
unfoldable pub named_item : Kind → List ℕ → List ℕ → Emission
named_item kind name d = check (name_fits name) 2 then data_emission name then by_rule (length_of kind (last_of_name name)) d
