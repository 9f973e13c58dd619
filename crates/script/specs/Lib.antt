pub mod Calls
pub mod Day
pub mod Headings
pub mod Opening
pub mod Texts
