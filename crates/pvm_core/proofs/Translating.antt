-- What keeps translations right.
pub mod Dropped
pub mod Left
pub mod Unmapped
pub mod Alike
pub mod Tables
pub mod Places
pub mod Regions
pub mod Actors
pub mod Cut
pub mod Held
pub mod Once
pub mod Commands
-- What may be written may be so still.
pub mod Writable
-- Nodes and their frames stay.
pub mod Cells
-- A region is locked, or isn't any more.
pub mod Relocked
-- A page is brought in.
pub mod Brought
-- Room is taken, and a cache is made.
pub mod Made
