mod Searching
mod Pigeons
mod Terms
pub mod Oldests
mod Vetoes
mod Choosing
mod Showing
mod Listing
