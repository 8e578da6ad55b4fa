mod Events
mod FlatBack
mod GeneratorBytes
mod LabelShortWays
mod LabelWords
pub mod Laws
mod Orders
mod PassedPieces
mod ReceivedPieces
mod SpelledLists
mod SteadyLabels
