-- For the proofs of the crates above it `Laws` has the laws of this crate's definitions, `Tests` lemmas on tests, and `Clauses` facts of
-- two parts by their names; the other files serve this crate's own. Assumes nothing.
pub mod Clauses
mod Emissions
pub mod Laws
mod MessageFields
mod Messages
mod Openings
mod Overlays
pub mod Tests
