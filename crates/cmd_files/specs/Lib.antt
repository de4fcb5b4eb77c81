pub mod PlacedFiles
