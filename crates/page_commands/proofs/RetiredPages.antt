-- Pages are retired, one alone or many at once, and the store follows.

-- Pages that are retired, one behind the other.
pub mod Parts
-- One page was retired alone.
pub mod OneFollowed
-- One page was retired alone, a fresh node made for it, and the store followed.
pub mod Detached
-- One page is retired that is in no frame and in no slot.
pub mod OnePage
-- All pages are retired at once.
pub mod AllAtOnce
-- A step of a retirement.
pub mod Steps
