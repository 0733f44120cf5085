pub mod Put
pub mod Updated
