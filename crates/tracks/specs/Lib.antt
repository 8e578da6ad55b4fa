pub mod Rp013Tracks
pub mod Tracks
