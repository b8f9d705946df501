pub mod Runs
pub mod Certified
pub mod Accepted
pub mod Asking
