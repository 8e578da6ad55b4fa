mod CommandWords
mod FlatBack
pub mod Laws
mod WordItems
mod WordPuts
mod WordRanges
mod WordReading
mod WordsReadBack
