pub mod Codes
pub mod Reading
pub mod Refusals
pub mod Spelling
pub mod Steps
