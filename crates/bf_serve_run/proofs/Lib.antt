pub mod Replying
pub mod Writing
pub mod Concluding
pub mod Replies
