pub mod Doing
pub mod Fewer
pub mod Fresh
pub mod Known
pub mod Places
pub mod Posted
pub mod Ran
pub mod Sequences
