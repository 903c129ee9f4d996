-- The lists of stubs and their links.

-- What a change of links leaves in each column of the links.
pub mod Links
-- A change of links takes no room, and lists of stubs are shorter than there are nodes.
pub mod Room
-- A stub at the end of a list: what it does to the links, the list and the forest.
pub mod Addition
-- A stub that is cut out of a list.
pub mod Cut
-- A node in the place of a stub: what it does to the links and to the list.
pub mod Exchange
-- Stubs that are handed to another node, one after another.
pub mod Handing
-- One list of stubs behind another: what it does to the links and to the lists.
pub mod Joining
-- A node without stubs, whose list goes to another one.
pub mod NoStubs
