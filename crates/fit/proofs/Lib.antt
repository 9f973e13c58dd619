pub mod Alive
pub mod Apart
pub mod Bounds
pub mod Worths
