-- What the mapper holds after a push.
pub mod Outside
pub mod PushedPages
pub mod Told
