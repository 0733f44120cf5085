pub mod HeaderBytesHeader
pub mod Header
