pub mod Less
pub mod Remove
pub mod RemoveAt
