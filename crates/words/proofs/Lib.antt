pub mod Feeds
pub mod Pairs
pub mod Reading
pub mod Settled
pub mod Values
pub mod Whole
pub mod Worded
