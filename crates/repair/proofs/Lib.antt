pub mod Columns
pub mod Repairs
