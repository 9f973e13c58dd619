pub mod Measured
pub mod Playing
