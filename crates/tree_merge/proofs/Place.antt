-- A node in its place: it is cut off, or another one comes there.

-- A step that changes links and lists alone, by the forest that it leaves.
pub mod Step
-- A node is cut off, whichever link it hangs by.
pub mod Cut
-- A node that hangs by a tree link is cut off.
pub mod TreeCut
-- A node comes in the place of another one that hangs by a tree link.
pub mod TreeExchange
-- The only child of a node in its place, and the node freed.
pub mod Heir
