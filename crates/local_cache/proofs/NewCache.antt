-- A cache is made.

-- What is found after a cache was made.
pub mod FoundPages
-- A cache that is made: the caches stay sound, and the forest has its pages more.
pub mod Forest
-- A cache that is made leaves the caches whole.
pub mod Whole
