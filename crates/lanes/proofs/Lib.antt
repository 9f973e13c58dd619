pub mod Blocks
pub mod Names
pub mod Settled
pub mod Texts
