pub mod Pick
pub mod Bytes
pub mod Put
pub mod Said
pub mod Checks
pub mod Row
pub mod All
