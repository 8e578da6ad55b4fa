-- Reading strings: the splitter, the walk, and what commands and fields are read as. Assumes nothing.
pub mod CommandReading
pub mod CommandTests
pub mod FoundInside
pub mod FrontItem
pub mod ItemsFound
pub mod NextPlace
pub mod PageStrings
pub mod PrefixedNames
pub mod ReadBack
pub mod SplitTests
pub mod Walks
