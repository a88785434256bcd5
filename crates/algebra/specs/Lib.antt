pub mod Frames
pub mod Rows
pub mod Packets
pub mod Theorems
