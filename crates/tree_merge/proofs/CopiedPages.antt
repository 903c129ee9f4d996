-- Many pages are copied at once.

-- Changes of nodes of different numbers may be made in either order.
pub mod Changes
-- Rows of nodes of which no two have a node in common, but for those of one page.
pub mod Rows
-- Changes page by page are changes of all pages, one kind after the other.
pub mod Kinds
-- The kinds of a copy.
pub mod Linking
-- One page is copied, whose node is as new.
pub mod OnePage
-- One page is copied after the other.
pub mod InTurn
-- Pages whose nodes are alike can be copied at once.
pub mod AtOnce
