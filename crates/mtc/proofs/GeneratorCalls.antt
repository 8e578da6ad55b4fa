-- The generator: what its proofs cite. Assumes nothing.
use Rattle.std.specs.Prelude.{Option, Some, None}
use Prim.Native.Nat.{ℕ, ◌≤◌}
use mathlib.Core.Bool.{Bool, true, false, cond}
use mathlib.Core.List.{List, [], ◌∷◌}
use mathlib.Core.Path.{◌≡◌}
use native.Mathlib.Omega.{arith}
use lib.Dec.{T, lit≤, le→leb}
use lib.ListN.{get_or}
use Rattle.mtc.specs.QuarterFrame.{pieces}
use Rattle.mtc.specs.Generator.{known, piece_next, time_next, sent_at, next_byte, after_next_byte, GeneratorCall, next_byte_call, running, turn, locate, after_generator_call, after_generator_calls}
use Rattle.mtc.specs.Reader.{piece_fits}
use Rattle.labels.specs.declared.time.MtcTime.{MtcTime}
use Rattle.mtc.specs.declared.generator.Direction.{Direction}
use Rattle.mtc.specs.declared.generator.Direction.TheVariants.{Forward, Reverse}
use Rattle.mtc.specs.declared.generator.MtcGenerator.{MtcGenerator}
use Rattle.universal.specs.Refusals.{gives, refused, refusal}

-- ---- a last piece above 7 is none

-- ---- the next byte

-- A running generator sends the piece after its last one.
pub sends : (g : MtcGenerator) {m : Option ℕ} {t : MtcTime} {p : ℕ}
    → g.running ≡ true → known g.last ≡ m → t ≡ time_next g.direction m g.time → p ≡ piece_next g.direction m
    → (gives (get_or (pieces t) p 0) ≡ next_byte g) × (sent_at t g.direction p ≡ after_next_byte g)
unfolding next_byte after_next_byte
sends g r k et ep = (rw (r, k, et, ep), rw (r, k, et, ep))

-- A stopped one refuses and stays as it is.
pub stopped_refuses : (g : MtcGenerator) → g.running ≡ false → (refused (refusal 8) ≡ next_byte g) × (g ≡ after_next_byte g)
unfolding next_byte after_next_byte
stopped_refuses g r = (rw r, rw r)

-- ---- records that no calls leave

next_small : (d : Direction) (m : Option ℕ) → piece_next d m ≤ 7
next_small Forward None = lit≤ tt
next_small Forward (Some l) = omega arith
next_small Reverse None = lit≤ tt
next_small Reverse (Some l) = omega arith

next_fits : (g : MtcGenerator) → T (piece_fits g.last) → T (piece_fits (after_next_byte g).last)
unfolding after_next_byte
next_fits g h = go g.running
  where
    p : ℕ
    p = piece_next g.direction (known g.last)

    sent : MtcGenerator
    sent = sent_at (time_next g.direction (known g.last) g.time) g.direction p

    go : (b : Bool) → T (piece_fits (cond b sent g).last)
    go true = le→leb p 7 (next_small g.direction (known g.last))
    go false = h

call_fits : (g : MtcGenerator) (c : GeneratorCall) → T (piece_fits g.last) → T (piece_fits (after_generator_call g c).last)
call_fits g next_byte_call h = next_fits g h
call_fits g (running b) h = h
call_fits g (turn d) h = h
call_fits g (locate t) h = tt

-- No list of calls leaves a last piece above 7.
pub calls_fit : (cs : List GeneratorCall) (g : MtcGenerator) → T (piece_fits g.last) → T (piece_fits (after_generator_calls g cs).last)
unfolding after_generator_calls
calls_fit [] g h = h
calls_fit (c ∷ cs) g h = calls_fit cs (after_generator_call g c) (call_fits g c h)

-- ---- the piece after one
