pub mod SitesTaken
