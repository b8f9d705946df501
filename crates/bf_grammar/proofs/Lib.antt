pub mod Composing
pub mod Faults
pub mod Laws
pub mod Onward
pub mod Parts
pub mod Repeating
mod Rows
pub mod Taking
