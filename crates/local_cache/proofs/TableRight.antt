-- What holds of the nodes and the thin ones among them, when nodes come, go or change.

-- Working numbers, free ones among them.
pub mod Numbers
-- One node that stands alone.
pub mod Alone
-- Nodes of one run.
pub mod Together
-- No node, more room, and the first of the thin nodes.
pub mod Thinnest
