-- The children of a node.
pub mod ChildLists
-- A node in its place: it is cut off, or another one comes there.
mod Place
-- The node of a page leaves: it is freed, retired or detached.
pub mod Leaving
-- A node gives way to its only child.
mod Merge
-- The rules retire, detach and settle_step are followed with any pages, as they are with own
-- states.
pub mod OtherPages
-- What a call says that it released is what became of the nodes and their own states.
pub mod Releases
-- Nodes that are alike.
pub mod AlikeNodes
-- Many pages are retired at once.
pub mod RetiredPages
-- A node without children leaves its parent, and is as new.
pub mod LeafRenewed
-- Many pages are copied at once.
pub mod CopiedPages
-- One page is retired or copied alone.
pub mod PagesAlone
