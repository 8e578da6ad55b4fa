pub mod CommandLaws
mod RangeTests
mod Reading
pub mod ReadingLaws
pub mod StringLaws
mod Writing
pub mod WritingLaws
pub mod WritingSteps
