pub mod Indices
pub mod Named
pub mod Slots
