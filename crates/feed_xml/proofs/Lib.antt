pub mod Written
pub mod TextsWritten
pub mod CharactersAllowed
pub mod MarksRead
pub mod Structure
pub mod Found
