pub mod Accessing
pub mod Counting
pub mod Forest
pub mod Denying
pub mod Dispatching
pub mod Held
pub mod MixAsking
pub mod Refusing
