pub mod MinuteStarts
pub mod St12
pub mod Time
