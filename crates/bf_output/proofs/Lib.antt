pub mod Accepted
pub mod Begins
mod Closing
mod Ended
pub mod Loading
pub mod Logged
mod Outputs
pub mod Places
pub mod Replayed
pub mod Returning
pub mod Runs
pub mod Skips
mod Started
mod Unused
