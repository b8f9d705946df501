pub mod Keeping
pub mod Remembering
mod WorkedRecalls
mod Filled
mod Fitting
mod Images
mod Looking
mod Making
mod Mending
pub mod Moments
mod Opening
mod Slots
mod StepLemmas
mod Surely
mod Worked
