pub mod NodeSites
pub mod SitePlaces
pub mod SitesReadings
pub mod SitesSteps
