-- The pages of a move, one by one or many at once, and the store follows.

-- Moves of pages, one behind the other.
pub mod Parts
-- One page is moved.
pub mod OnePage
-- All pages are moved at once.
pub mod AllAtOnce
