-- The page nodes: look-ups, changes of one node, own states.

-- What is found after a change of one node.
pub mod Cells
-- Numbers of nodes, as a map compares them.
pub mod Numbers
-- The list of own states, under a change of one node and when a node is made.
pub mod OwnStates
-- The numbers and the own states of nodes, told by look-ups.
pub mod Values
-- There are as many nodes of the forest as own states: each node of the arena has its name, and no
-- two of them one.
pub mod Count
-- Nodes that stay there after a change of many nodes.
pub mod Many
