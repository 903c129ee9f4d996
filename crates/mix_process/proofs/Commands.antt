-- What each command of processes comes to.
pub mod Exec
pub mod Fork
pub mod Grow
pub mod Exit
