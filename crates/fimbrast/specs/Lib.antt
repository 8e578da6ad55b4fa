pub mod Feed
pub mod Index
pub mod Obey
pub mod TrackSet
pub mod Version
