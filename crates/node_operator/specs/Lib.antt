pub mod FeedResponses
pub mod SitesResponses
