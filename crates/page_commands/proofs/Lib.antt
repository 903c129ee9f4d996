-- A store that is tied to its caches.
pub mod TiedStores
-- A node goes, or loses its own page, and the store follows.
pub mod NodesGone
-- A fresh node is linked to its source, and the store is as it was.
pub mod LinkedNodes
-- A node takes the name of a page that has none, and the store follows.
pub mod NamedNodes
-- Own pages give way to pages of zeros, and the store follows.
pub mod Forgotten
-- Pages of which nothing is in memory, and to whose nodes nothing is linked.
pub mod PassedOver
-- In which frames pages are seen.
pub mod SeenFrames
-- A page that is its node's alone stays so.
pub mod Alone
-- What becomes of translations while frames fall free.
pub mod FreedFrames
-- The translations that must not outlive a change of the pages that they lead to.
pub mod StaleTranslations
-- What is carried through the steps of a command.
pub mod CommandSteps
-- Pages are retired, one alone or many at once, and the store follows.
pub mod RetiredPages
-- Pages are copied, one alone or many at once, and the store follows.
pub mod CopiedPages
-- The pages of a move, one by one or many at once, and the store follows.
pub mod MovedPages
