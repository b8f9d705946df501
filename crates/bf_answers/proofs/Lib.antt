pub mod Answering
pub mod Complete
pub mod Concluding
pub mod Fronts
pub mod Saying
pub mod Streamed
