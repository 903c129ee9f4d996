-- What a tied store is, and what leaves it so.

-- What a tied store says of one frame and of one slot, and when it is right.
pub mod Tied
-- What lies outside of the frames is there still, where nodes keep their homes or lose them.
pub mod Backed
-- The pages of segments through a step, and what is granted and locked.
pub mod Homes
-- Every node has its own state: the store is as it was.
pub mod States
-- What each call keeps, one call after the other.
pub mod Kept
-- Without its pages the forest of a store is that of the own states.
pub mod Shape
-- How many slots a store needs, and when it is right.
pub mod Sized
-- Which pages have homes: those of a cache that is named.
pub mod Named
