pub mod Opened
pub mod Passing
pub mod Picking
pub mod Joining
pub mod Beside
pub mod Standing
pub mod Calls
pub mod Sending
