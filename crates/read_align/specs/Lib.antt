pub mod Align
pub mod Divisor
pub mod Starts
