pub mod Days
pub mod Firsts
pub mod Headed
pub mod Said
pub mod Sessions
pub mod Settled
pub mod Tests
