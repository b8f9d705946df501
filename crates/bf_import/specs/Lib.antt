pub mod Faults
pub mod Growing
pub mod Kept
pub mod Loading
pub mod Rest
pub mod Roles
