-- What holds between two commands.

-- The pages of live caches and their nodes, and what leaves the caches whole.
pub mod LivePages
-- The caches stay whole after a copy, a move, and after a cache went.
pub mod Commands
-- Caches without nodes.
pub mod Empty
-- The caches stay whole where nodes keep their numbers and names.
pub mod Like
