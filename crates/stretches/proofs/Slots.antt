-- Leaves in slots: what each has, and which slots are free.

-- Which slots are free.
pub mod Free
-- What a leaf has after a change of memory.
pub mod Memory
-- A change of one leaf's entries.
pub mod Entry
-- What the pool keeps true.
pub mod Pooling
-- What a contract sees of the pool, before and after a change.
pub mod Seeing
