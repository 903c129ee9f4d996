-- What the tables of the plain machine are, before and after a change.
pub mod Sound
pub mod Taking
pub mod Regions
pub mod Awaiting
pub mod Locks
