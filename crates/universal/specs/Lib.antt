pub mod Emission
pub mod Message
pub mod Midi1
pub mod Overlay
pub mod Refusals
