pub mod Facts
pub mod Looked
pub mod Says
pub mod Wants
pub mod Collect
pub mod collected
