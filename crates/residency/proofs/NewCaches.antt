-- A new store, and caches that are made.
pub mod New
pub mod Made
pub mod MadeNamed
