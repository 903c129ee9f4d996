-- A node gets another name.

-- A node under another name: its name is another one wherever it is named.
pub mod Renaming
-- A node under another name: it becomes that of a page that has none, and the page that it was the
-- node of has none then.
pub mod PageName
-- A page whose node became a working node, and the room that is left.
pub mod WorkingName
-- The homes of nodes, and what leaves them.
pub mod Homes
