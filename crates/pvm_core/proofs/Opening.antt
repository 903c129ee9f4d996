-- A segment is opened.

-- The pages of a new cache in the forest of the store.
pub mod Forest
-- The machine with one cache more.
pub mod Machine
-- The answers of opening a segment.
pub mod Rows
-- The manager after a segment was opened.
pub mod Sound
-- A segment was opened: the answer.
pub mod Answer
-- A segment was not opened: the answer.
pub mod Refused
-- A manager with the cache of a segment more.
pub mod Named
-- What a mapper that was asked for the size of a segment tells.
pub mod Told
