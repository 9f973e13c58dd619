pub mod Read
pub mod Playing
