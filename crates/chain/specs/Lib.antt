pub mod Chain
pub mod Facts
pub mod Walk
pub mod Links
