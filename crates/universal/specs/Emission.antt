-- What a writing emits: the bytes up to the first check that refuses, and that refusal. One definition of an emission gives
-- the bytes that go out and the answer. Assumes nothing.
use Rattle.std.specs.Prelude.{ℕ, Bool, true, false, List, [], ◌++◌, leb, length, Option, Some, None}
use Rattle.universal.specs.Refusals.{Refusal, refusal, too_small, Answer, gives, refused}

-- The bytes emitted, and the refusal that ended it, if any did.
pub record Emission : Type 0 where
  pub bytes : List ℕ
  pub stop : Option Refusal

-- Bytes that go out unchecked.
abbrev pub sent : List ℕ → Emission
sent bs = record { bytes = bs; stop = None }

-- A refusal by its number, with nothing emitted.
abbrev pub refusing : ℕ → Emission
refusing n = record { bytes = []; stop = Some (refusal n) }

-- A check: nothing where it holds, else the refusal of that number.
abbrev pub check : Bool → ℕ → Emission
check true n = sent []
check false n = refusing n

-- What comes after bytes that went out, and after a refusal, which nothing follows.
abbrev pub resume : List ℕ → Option Refusal → Emission → Emission
resume bs None e = record { bytes = bs ++ e.bytes; stop = e.stop }
resume bs (Some r) e = record { bytes = bs; stop = Some r }

infixr 40 ◌then◌
-- One emission, and then the next unless the first was refused.
abbrev pub ◌then◌ : Emission → Emission → Emission
d then e = resume d.bytes d.stop e

-- ---- a whole message in a buffer of a given length

-- The length where all of it fits, else 4 with the needed length.
abbrev pub fitted : Bool → ℕ → Answer ℕ
fitted true n = gives n
fitted false n = refused (too_small n)

-- Its own refusal first; then the length against the buffer's.
abbrev pub answer_in : Option Refusal → ℕ → ℕ → Answer ℕ
answer_in None n room = fitted (leb n room) n
answer_in (Some r) n room = refused r

abbrev pub reached_in : Option Refusal → ℕ → Answer ℕ
reached_in None n = gives n
reached_in (Some r) n = refused r

-- Where a part of a message has come to, or its refusal.
unfoldable pub reached : Emission → Answer ℕ
reached e = reached_in e.stop (length e.bytes)

unfoldable pub answer : Emission → ℕ → Answer ℕ
answer e room = answer_in e.stop (length e.bytes) room
