pub mod Bits
pub mod Bitwise
pub mod Blocks
pub mod Row
pub mod Marks
