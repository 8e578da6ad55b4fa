mod GeneratorCalls
pub mod Instances
pub mod Laws
mod Messages
mod QuarterFrames
mod ReaderCalls
mod Sequences
mod Widths
