pub mod Below
pub mod Subtraction
pub mod Remainder
pub mod Storing
pub mod Tabling
pub mod Sets
pub mod Accepting
mod Taking
mod Vetoing
