pub mod Tests
pub mod Bytes
pub mod Put
pub mod Readings
pub mod Checks
pub mod Row
