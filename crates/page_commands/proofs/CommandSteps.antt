-- What is carried through the steps of a command.

-- The steps of settle.
pub mod Steps
-- Working nodes gave way, one alone or many at once, and the store follows.
pub mod Merges
-- The pages that a span names.
pub mod Ranges
-- The pages of a range become those of their segment.
pub mod Replacing
-- What a command needs is there still when its pages were forgotten.
pub mod Forgetting
-- A command settled, and each page has a node still.
pub mod Settled
