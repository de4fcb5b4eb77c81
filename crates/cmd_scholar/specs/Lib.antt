pub mod Elements
pub mod Embargoes
pub mod Fragments
pub mod Items
pub mod Laws
