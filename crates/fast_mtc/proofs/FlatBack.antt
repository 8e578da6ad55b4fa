-- Flat labels and generators stand for one value each: what is flattened and read back is the same. Assumes nothing.
use Rattle.std.specs.Prelude.{Option, Some, None}
use Prim.Native.Nat.{ℕ}
use mathlib.Core.Path.{◌≡◌, refl, ap, ◌∙◌}
use mathlib.Core.Bool.{true}
use lib.Dec.{T}
use lib.IntN.{ℤ}
use Rattle.fast_mtc.specs.Generator.{direction_at, flat_direction, piece_at, flat_piece, generator_of, flat_generator}
use Rattle.fast_mtc.specs.Time.{time_of, time_numbered, flat_time}
use Rattle.mtc.specs.Reader.{piece_fits}
use Rattle.labels.specs.St12.{is_valid}
use Rattle.fast_mtc.specs.Label.{label_number}
use Rattle.fast_mtc.proofs.LabelShortWays.{number_bytes}
use Rattle.labels.proofs.Laws.{rate_back, moved_valid}
use Rattle.labels.specs.Time.{add_frames}
use Rattle.mtc.specs.declared.generator.Direction.{Direction}
use Rattle.mtc.specs.declared.generator.Direction.TheVariants.{Forward, Reverse}
use Rattle.mtc.specs.declared.generator.MtcGenerator.{MtcGenerator}
use Rattle.labels.specs.declared.time.MtcTime.{MtcTime}

pub time_back : (t : MtcTime) → time_of (flat_time t) ≡ t
unfolding time_of flat_time
time_back t = rw (rate_back t.rate)

pub direction_back : (d : Direction) → direction_at (flat_direction d) ≡ d
unfolding direction_at flat_direction
direction_back Forward = refl
direction_back Reverse = refl

-- A last piece above 7, which no call leaves, is not kept.
piece_back : (p : Option ℕ) → piece_fits p ≡ true → piece_at (flat_piece p) ≡ p
unfolding piece_at flat_piece
piece_back None h = refl
piece_back (Some n) h = rw h

pub generator_back : (g : MtcGenerator) → piece_fits g.last ≡ true → generator_of (flat_generator g) ≡ g
unfolding generator_of flat_generator
generator_back g h = rw (time_back g.time, direction_back g.direction, piece_back g.last h)

-- ---- a label's number

-- A valid label comes back from its number.
pub number_time : (t : MtcTime) → T (is_valid t) → time_numbered (label_number t) ≡ flat_time t
unfolding time_numbered flat_time
number_time t v =
    let b = number_bytes t v in
    rw (b.0, b.1.0, b.1.1.0, b.1.1.1.0, b.1.1.1.1)

-- So does the label of a move.
pub moved_numbered : (t : MtcTime) (z : ℤ) (n : ℕ) → n ≡ label_number (add_frames t z) → time_of (time_numbered n) ≡ add_frames t z
moved_numbered t z n e =
    ap time_of (ap time_numbered e ∙ number_time (add_frames t z) (moved_valid t z)) ∙ time_back (add_frames t z)
