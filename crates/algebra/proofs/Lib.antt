pub mod Sums
pub mod Vectors
pub mod Tables
pub mod Insertion
pub mod Contents
pub mod Bridge
pub mod Forms
pub mod Oldest
