pub mod Numbers
pub mod Records
pub mod Unique
pub mod Printing
