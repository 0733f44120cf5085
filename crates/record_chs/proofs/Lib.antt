pub mod Small
pub mod Laws
