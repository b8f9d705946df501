pub mod Components
pub mod Quoting
