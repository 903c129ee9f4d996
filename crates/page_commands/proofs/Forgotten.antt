-- Own pages give way to pages of zeros, and the store follows.

-- The page of one node is forgotten.
pub mod One
-- The pages of a range are forgotten, one after the other.
pub mod Range
-- What is forgotten isn't seen in the end, and the caches are whole still.
pub mod Law
-- Pages are forgotten some of which were forgotten before.
pub mod Again
