mod AcceptedCodes
mod BeyondPage
mod Bits
mod CodeAnswers
mod LabelWidths
pub mod Laws
mod Names
mod ReadByPage
mod WrittenAgain
