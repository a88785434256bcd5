pub mod Arithmetic
pub mod Elements
pub mod Answered
pub mod Logarithms
