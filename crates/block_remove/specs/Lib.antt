pub mod ByNumberRemoved
pub mod AtSectorRemoved
