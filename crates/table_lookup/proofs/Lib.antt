pub mod Decision
pub mod Numbers
