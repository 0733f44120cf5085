pub mod Read
pub mod Facts
pub mod Wanted
pub mod Collect
