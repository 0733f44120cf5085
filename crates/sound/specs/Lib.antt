pub mod Is
pub mod Sound
pub mod Walk
