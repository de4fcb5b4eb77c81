mod Steps
mod Shows
mod Empty
mod Shelves
mod Asked
mod WorldSteps
mod Counts
mod Wrong
