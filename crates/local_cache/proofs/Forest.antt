-- The page forest that is read off the caches.

-- What the forest of the caches has at a name, and when it is a given forest.
pub mod Reading
-- A rule that the forest of own states followed is followed by the forest of any pages that are
-- told by number.
pub mod ReadingBy
-- A change of the caches that follows a rule of the page forest.
pub mod Rule
-- Rows of stubs: what a walk gives, cutting a row in two, and rows in another arena.
pub mod StubRows
-- The least thin node is that of the forest.
pub mod ThinForest
