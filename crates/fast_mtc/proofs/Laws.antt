-- The laws that readers and upper crates cite: what is flattened is the same value when it is read back. A generator whose last piece is
-- above 7, which no call leaves, comes back without one. Assumes nothing.
use mathlib.Core.Path.{◌≡◌, refl}
use Rattle.fast_mtc.specs.Refusal.{refusal_in}
use Rattle.universal.specs.Refusals.{Refusal, gives, refused}
pub use Rattle.fast_mtc.proofs.FlatBack.{time_back, number_time, generator_back}
-- Any words stand for a sound reader.
pub use Rattle.fast_mtc.proofs.ReceivedPieces.{sound_in}
-- Frames earlier in the same second, from the third number on, are a difference.
pub use Rattle.fast_mtc.proofs.LabelShortWays.{frames_earlier}
-- Events, reports and refused bytes as numbers, and what is read off them: the highest byte is the refusal, 0 for none; a report is whole in
-- its number and the reader that it left.
pub use Rattle.fast_mtc.proofs.Events.{event_small, given_number, refused_number, highest_byte, event_report, none_reported, some_reported, jump_reported, report_back, reported_back, kept_back}

-- An answer's refusal is its number, and 0 where there is none.
pub in_gives : {A : Type 0} (a : A) → refusal_in (gives a) ≡ 0
unfolding refusal_in
in_gives a = refl

pub in_refused : (A : Type 0) (r : Refusal) → refusal_in {A = A} (refused r) ≡ r.number
unfolding refusal_in
in_refused A r = refl
