pub mod Dots
pub mod Fronts
pub mod Refusals
pub mod Words
