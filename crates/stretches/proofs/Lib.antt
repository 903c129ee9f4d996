-- Entries in leaves: the list that they are, and how many leaves they fill.
pub mod Leaves
-- Leaves in slots: what each has, and which slots are free.
pub mod Slots
-- What stretches say of a number, and which stretch says it.
pub mod Reading
-- What they say after a change.
pub mod Changes
-- The map of the stretches has what they say, so an equation on the one is one on the other.
pub mod Cells
-- Changes step by step are changes stretch by stretch.
pub mod Steps
-- An answer that is none.
pub mod Nothing
