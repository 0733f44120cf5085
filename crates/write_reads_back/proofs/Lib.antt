pub mod Rows
pub mod Parts
pub mod Shown
pub mod Accepts
pub mod Stays
pub mod Read
pub mod RoundTrip
