pub mod Faults
pub mod Rows
pub mod Reduction
pub mod Sound
pub mod Tables
pub mod Veto
