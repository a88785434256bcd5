pub mod Recordings
pub mod Decoding
pub mod Listing
