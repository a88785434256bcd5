pub mod Coding
pub mod Repair
pub mod Listing
