mod CountParts
mod Counts
mod DayCount
mod Distance
mod Instances
mod LabelAfter
mod LabelBefore
mod LabelOrder
pub mod Laws
mod MinuteStarts
mod Moves
mod Rates
mod Skipped
mod Sums
mod Validity
