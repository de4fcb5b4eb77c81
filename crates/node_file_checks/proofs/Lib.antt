mod ResponseHeads
mod PartChecks
