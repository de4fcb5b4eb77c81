mod Placed
mod Reasoned
mod Found
mod Histories
