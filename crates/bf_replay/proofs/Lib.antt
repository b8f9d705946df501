pub mod Digests
pub mod Keeping
pub mod Naming
pub mod Replayable
pub mod Folding
