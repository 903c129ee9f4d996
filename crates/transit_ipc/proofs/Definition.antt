-- What the definitions of ports say by themselves.
pub mod Rows
pub mod Played
pub mod InOrder
