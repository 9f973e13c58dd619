pub mod Lines
pub mod Spelling
