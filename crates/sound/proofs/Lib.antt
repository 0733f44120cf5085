pub mod Is
pub mod Test
pub mod Good
pub mod Walk
