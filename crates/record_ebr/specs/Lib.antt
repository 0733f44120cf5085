pub mod Ebr
