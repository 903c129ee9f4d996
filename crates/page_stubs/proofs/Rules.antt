-- The calls follow the rules of the page forest.

-- Cutting a stub out is the rule of the forest.
pub mod Cut
-- A node in the place of a stub is the rule of the forest.
pub mod Exchange
-- Handing stubs over is the rule of the forest.
pub mod Handing
-- A node may be hung below another one that isn't under it: some rank of the nodes has it higher.
pub mod Ranks
-- The rules of stubs are followed with any pages, as they are with own states.
pub mod OtherPages
