-- Pages are moved.

-- What is done of one page of a move may be done before others are moved.
pub mod Changes
-- A page was detached, and its fresh node and that of another page exchange their names.
pub mod Exchanged
-- One page is moved whose old node has no children, and is none or zeros.
pub mod OnePage
-- One page is moved after the other.
pub mod InTurn
-- Pages whose nodes are alike can be moved at once.
pub mod AtOnce
