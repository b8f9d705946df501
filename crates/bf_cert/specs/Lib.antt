pub mod Certificates
pub mod Edges
pub mod Faults
pub mod Lines
pub mod Made
pub mod Reading
pub mod Walks
