pub mod Decimals
pub mod Told
