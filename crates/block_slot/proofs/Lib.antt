pub mod changes
