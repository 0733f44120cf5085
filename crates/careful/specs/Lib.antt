pub mod Stores
pub mod Careful
pub mod Output
pub mod Demand3
pub mod Gap
pub mod Laid
