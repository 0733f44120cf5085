pub mod Shifted
pub mod Rising
pub mod Good
pub mod Halves
pub mod Disk
pub mod Answers
