-- What stretches say after a change, that they are in order, and how many numbers they have.

-- The parts of a stretch.
pub mod Parts
-- A stretch in two.
pub mod Splitting
-- Two stretches in one.
pub mod Joining
-- A stretch that came.
pub mod Insertion
-- A stretch that went.
pub mod Removal
-- Another stretch of the same numbers.
pub mod Replacement
-- A bound between two stretches in another place.
pub mod MovedBound
