-- What stretches say of a number, and which stretch says it.

-- A number and one stretch.
pub mod Numbers
-- The order of the stretches of a list.
pub mod Order
-- What a list says of a number.
pub mod Sayings
-- The first stretch behind a number.
pub mod Next
-- A stretch and the one before it that it continues.
pub mod Meeting
-- Numbers that are in one stretch.
pub mod Together
-- How many numbers there are, and that there are no more stretches than numbers.
pub mod Counts
