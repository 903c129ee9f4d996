-- A fresh node is linked to its source, and the store is as it was.

-- Links were changed, and maybe a working node without a page was made.
pub mod Grown
