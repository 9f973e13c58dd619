pub mod Counts
pub mod Drains
pub mod InOrder
pub mod Lead
pub mod Places
