pub mod Written
pub mod Header
