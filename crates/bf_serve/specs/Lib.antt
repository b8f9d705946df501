pub mod Begins
pub mod Laws
pub mod Searches
pub mod Serving
pub mod Steps
pub mod Turns
