pub mod Gathering
pub mod Skipping
pub mod Refusing
pub mod Ended
pub mod Opening
pub mod Starting
