pub mod Demand3
pub mod Obey
pub mod Transport
