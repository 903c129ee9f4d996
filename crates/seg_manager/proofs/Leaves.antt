-- References go: with an actor, a region, or an opening.
pub mod LeavingRows
pub mod RegionsLeft
pub mod RegionsGone
pub mod ReferencesGone
pub mod ExitOrUnmapCall
pub mod OpeningTakenBack
pub mod CloseCall
