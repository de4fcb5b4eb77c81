pub mod Dates
pub mod DateTexts
pub mod DateLaw
mod DatesWritten
