-- What the definitions of processes say by themselves.
pub mod Played
pub mod Rows
pub mod PlainRows
pub mod Lasting
pub mod Limits
pub mod ExecRow
