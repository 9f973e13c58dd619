pub mod Codes
pub mod Placing
pub mod Steps
