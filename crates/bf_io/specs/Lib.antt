pub mod Files
pub mod ScriptedFiles
pub mod Causes
pub mod Decimal
pub mod Scripted
pub mod Told
