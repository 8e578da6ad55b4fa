mod Numbers
mod Armed
mod Bytes
mod EndZeros
pub mod Instances
pub mod Laws
mod Positions
