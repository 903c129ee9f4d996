-- One page is retired or copied alone, as a step does where it can't do many at once.

-- A page was retired alone.
pub mod Retired
-- A page was detached for a copy: its node and that of its source.
pub mod Detached
-- The fresh node was hung on the source's: the page is copied.
pub mod Copied
-- A step that did one page.
pub mod Steps
-- The other nodes, where the node of a page was retired or detached.
pub mod Others
-- A node was renewed for a copy, and is to be hung on its source's.
pub mod Hung
