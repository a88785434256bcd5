pub mod Faults
pub mod Cuts
pub mod Lines
pub mod Tables
pub mod Scripts
pub mod Configured
pub mod Written
