pub mod Cutting
pub mod Numbers
pub mod Turns
pub mod Bounds
pub mod Writing
pub mod Unwriting
