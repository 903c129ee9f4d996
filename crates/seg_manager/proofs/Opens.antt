-- A segment is opened: for the first time, or once more.
pub mod Outcome
pub mod FirstBefore
pub mod FirstSeen
pub mod FirstCall
pub mod AgainSeen
pub mod AgainCall
