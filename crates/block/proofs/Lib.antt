pub mod Laws
pub mod Inside
pub mod Back
pub mod Forth
pub mod Over
pub mod Slots
pub mod calls
