pub mod Bounds
pub mod Claimed
pub mod Holding
pub mod Standing
pub mod Strange
pub mod Turns
