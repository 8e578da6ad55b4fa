-- Refusals as numbers: 0 is none, 1 to 10 are document 01's, 11 to 13 are document 02's. Assumes nothing.
use Rattle.std.specs.Prelude.{ℕ}
use Rattle.universal.specs.Refusals.{Answer, gives, refused}

-- The number of an answer's refusal, 0 where it has none.
unfoldable pub refusal_in : {A : Type 0} → Answer A → ℕ
refusal_in (gives a) = 0
refusal_in (refused r) = r.number
