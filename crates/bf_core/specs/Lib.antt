pub mod Claims
pub mod Consuming
pub mod Machine
