pub mod Bodies
pub mod Contents
pub mod Furnished
pub mod Imports
pub mod Keeping
pub mod Laws
pub mod Meanings
pub mod Named
