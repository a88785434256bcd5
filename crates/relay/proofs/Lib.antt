mod Passing
mod Bits
mod Keeping
