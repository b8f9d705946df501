pub mod Cuts
pub mod Held
pub mod Journalling
pub mod Kept
pub mod Legs
pub mod Searching
