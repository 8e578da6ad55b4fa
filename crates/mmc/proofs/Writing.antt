-- Writing strings: what is put of an item, and what a writing holds and answers. Assumes nothing.
pub mod AcceptedWritings
pub mod CommandWriting
pub mod EmissionPuts
pub mod HeldEmissions
pub mod ItemBytes
pub mod ItemPuts
pub mod WriterCalls
