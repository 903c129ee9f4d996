-- A node takes the name of a page that has none, and the store follows.

-- A fresh node, or one that had another name: what lies outside of the frames is there still.
pub mod Taken
-- A fresh node for a page that has none: the forest of any pages has it, and a store stays tied.
pub mod Fresh
-- A page was retired, and a fresh node made for it.
pub mod Detached
-- A node became that of a page that had none.
pub mod Renamed
-- A page was moved, and what was released followed in the store: it is the rule for the forest of
-- bytes.
pub mod Moved
