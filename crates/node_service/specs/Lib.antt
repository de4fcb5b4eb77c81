pub mod Reports
pub mod Wanted
pub mod Responders
pub mod Agreement
pub mod Runs
pub mod Starting
