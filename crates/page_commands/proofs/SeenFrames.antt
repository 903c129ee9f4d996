-- In which frames pages are seen: the forest of frames through the steps.

-- The frame of a node's own page.
pub mod OwnFrames
-- Its bare form is that of the own states.
pub mod Shape
-- A node goes, or loses its own page.
pub mod Leaving
-- A node takes the name of a page that has none.
pub mod Coming
-- A fresh node is linked to its source.
pub mod Linking
