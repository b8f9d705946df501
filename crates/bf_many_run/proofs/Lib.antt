pub mod Parting
pub mod Listing
pub mod Grouping
pub mod Sharing
pub mod Telling
pub mod Joining
