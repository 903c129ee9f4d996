pub mod Place
pub mod Lone
pub mod Mixed
pub mod Lending
pub mod Finding
