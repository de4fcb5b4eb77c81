pub mod Turns
pub mod Reported
pub mod Agreement
pub mod Fetches
pub mod WantedPackages
pub mod SameResponses
pub mod OpenedAgain
