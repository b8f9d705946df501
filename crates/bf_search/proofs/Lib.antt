pub mod Reaching
pub mod Modes
pub mod RowLemmas
pub mod CandidateLemmas
pub mod Turns
pub mod Worked
