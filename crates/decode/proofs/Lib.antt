mod Hearings
mod Cutting
mod Writing
