pub mod States
pub mod Calls
pub mod Promise
