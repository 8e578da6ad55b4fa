-- Full messages and user bits: their bytes, written and read. Assumes nothing.
pub mod MessageBytes
pub mod MessageReading
pub mod MessageWriting
pub mod UserBitGroups
