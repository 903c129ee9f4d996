-- Pages are copied, one alone or many at once, and the store follows.

-- Copies of pages, one behind the other.
pub mod Parts
-- One page was copied alone.
pub mod OneFollowed
-- One page is copied whose node dropped no frame and no slot.
pub mod OnePage
-- All pages are copied at once.
pub mod AllAtOnce
-- A step of a copy.
pub mod Steps
