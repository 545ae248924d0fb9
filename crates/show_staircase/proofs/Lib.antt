mod Counts
mod Cuts
mod Drawn
mod Lines
mod Misread
