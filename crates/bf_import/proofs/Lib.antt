mod Answered
mod Placed
pub mod Carried
pub mod Keeping
mod Loaded
mod Refusals
mod Resting
pub mod Standing
