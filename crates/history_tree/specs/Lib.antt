pub mod Hanging
pub mod Items
