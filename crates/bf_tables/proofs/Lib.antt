pub mod Found
pub mod Indexed
pub mod Numbered
pub mod Positions
