-- A cache that goes.

-- Its pages are pushed to its segment, and their heirs get them.
pub mod Written
-- Tables without one.
pub mod Tables
-- The rows of a destroy.
pub mod Rows
-- The store without the cache.
pub mod Right
-- The manager after it, and its answer.
pub mod Taken
-- The answers where the mapper failed.
pub mod Failed
