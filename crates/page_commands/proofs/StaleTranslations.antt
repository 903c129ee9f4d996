-- The translations that must not outlive a change of the pages that they lead to.

-- The frame in which a page is seen is that of the node that owns it.
pub mod Seen
-- Pages whose nodes are alike and in no frame are seen in none.
pub mod Alike
-- The translations of a range, some pages after others.
pub mod Ranges
-- The frames of the own pages of some nodes are those in which the map has these.
pub mod Owned
-- What is left of the translations.
pub mod Left
-- What is kept from before translations alone were dropped or narrowed.
pub mod Behind
