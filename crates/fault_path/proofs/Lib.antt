-- What a call keeps, answers and costs.
pub mod Calls
-- Frames that are gathered, and become those of nodes.
pub mod Frames
-- The page that is read, one that is owned, and one that becomes dirty.
pub mod OnePage
-- The rules of the page forest that the calls come to.
pub mod Rules
-- Which translations are dropped.
pub mod Translations
