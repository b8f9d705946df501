pub mod Limits
pub mod Place
pub mod Lines
pub mod Forms
pub mod Commands
pub mod Stream
pub mod Laws
