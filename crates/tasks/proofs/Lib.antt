pub mod Records
pub mod Scan
pub mod Settled
pub mod Tables
pub mod Unique
