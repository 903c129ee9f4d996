pub mod Handing
pub mod Threading
pub mod Under
