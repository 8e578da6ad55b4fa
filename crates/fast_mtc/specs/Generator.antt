-- Directions, pieces and generators as flat records, and back. Assumes nothing.
use Rattle.std.specs.Prelude.{ℕ, Bool, not, cond, List, eqb, leb, get_or, Option, Some, None}
use Rattle.fast_mtc.specs.Time.{time_of, time_at, flat_time}
use Rattle.fast_mtc.specs.declared.generator.FlatGenerator.{FlatGenerator}
use Rattle.fast_mtc.specs.declared.generator.FlatByte.{FlatByte}
use Rattle.mtc.specs.declared.generator.Direction.{Direction}
use Rattle.mtc.specs.declared.generator.Direction.TheVariants.{Forward, Reverse}
use Rattle.mtc.specs.declared.generator.MtcGenerator.{MtcGenerator}
use Rattle.universal.specs.Refusals.{Answer, gives, refused}

-- 0 is forward, any other number reverse.
unfoldable pub direction_at : ℕ → Direction
direction_at n = cond (eqb n 0) Forward Reverse

unfoldable pub flat_direction : Direction → ℕ
flat_direction Forward = 0
flat_direction Reverse = 1

-- A number above 7 is no piece.
unfoldable pub piece_at : ℕ → Option ℕ
piece_at n = cond (leb n 7) (Some n) None

unfoldable pub flat_piece : Option ℕ → ℕ
flat_piece None = 255
flat_piece (Some n) = n

unfoldable pub generator_of : FlatGenerator → MtcGenerator
generator_of g =
    record { time = time_of g.time; direction = direction_at g.direction; last = piece_at g.last; running = g.running }

unfoldable pub flat_generator : MtcGenerator → FlatGenerator
flat_generator g =
    record {
      time = flat_time g.time;
      direction = flat_direction g.direction;
      last = flat_piece g.last;
      running = g.running;
    }

-- A byte that stands for a truth: any but 0 is true.
abbrev pub is_set : ℕ → Bool
is_set n = not (eqb n 0)

-- The same record as its eight bytes.
unfoldable pub generator_in : List ℕ → MtcGenerator
generator_in bs =
    record {
      time = time_at bs 0;
      direction = direction_at (get_or bs 5 0);
      last = piece_at (get_or bs 6 0);
      running = is_set (get_or bs 7 0);
    }

-- A byte, or a refusal and byte 0.
unfoldable pub flat_byte : Answer ℕ → FlatByte
flat_byte (gives b) = record { refusal = 0; byte = b }
flat_byte (refused r) = record { refusal = r.number; byte = 0 }
