-- Where an address lies in a process, and what is loaded and stored there.
pub mod Places
pub mod Areas
pub mod Looking
pub mod Seeing
pub mod Loading
pub mod PagePut
pub mod Storing
