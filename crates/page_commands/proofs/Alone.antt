-- A page that is its node's alone stays so through the rules of the page forest.

-- A page that nobody reads through, marked, and what the rules leave of it.
pub mod Unread
-- The page is marked, and is its node's alone at the end.
pub mod Marked
-- Values of pages that a command doesn't name.
pub mod Outside
-- The whole commands.
pub mod Commands
