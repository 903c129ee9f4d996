-- What becomes of translations while frames fall free.

-- The translations of the frames that fell free are dropped.
pub mod Freed
-- The whole commands.
pub mod Commands
