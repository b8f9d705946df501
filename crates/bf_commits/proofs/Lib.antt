pub mod Changes
pub mod Fronts
pub mod Pieces
pub mod Texts
