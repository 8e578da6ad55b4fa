-- The laws that readers cite: what a list of quarter frames leaves and reports is what the calls of `receive` leave and report. Assumes
-- nothing.
pub use Rattle.fimbrast.proofs.Feeding.{feeds}
