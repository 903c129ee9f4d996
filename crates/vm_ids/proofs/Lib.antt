pub mod Forest
pub mod Places
