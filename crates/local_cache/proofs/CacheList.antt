-- The caches without their page nodes.

-- What is at numbers that follow one another.
pub mod Values
-- The rows of caches, read and changed.
pub mod Rows
-- The numbers of pages of live caches, and how many there are.
pub mod PageNumbers
-- How many numbers of a range a map has, and how many pages are locked.
pub mod Counting
-- A count of locks that is set.
pub mod Counts
-- What is told of the caches and their pages.
pub mod Reading
-- One page of a live cache, whose grant or locks are set.
pub mod Setting
-- A cache comes, and a cache goes.
pub mod Coming
