-- Entries in leaves: the list that they are, and how many leaves they fill.

-- One entry of a leaf.
pub mod Entries
-- A leaf in two.
pub mod Halving
-- A leaf that goes, and two leaves in one.
pub mod Mending
-- How many entries stand before a spot.
pub mod Indexes
-- Leaves that are full enough.
pub mod Spread
-- Where a number belongs.
pub mod Finding
-- What the directory keeps true.
pub mod Keeping
-- Spots where entries stand.
pub mod Held
