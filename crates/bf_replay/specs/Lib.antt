pub mod Kept
pub mod Laws
pub mod Refusals
pub mod Meaning
pub mod Parts
