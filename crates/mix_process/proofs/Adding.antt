-- A process gets one part more, or one less.
pub mod PartMapped
pub mod NeverLocked
pub mod SpareFilled
pub mod FilledAndMapped
pub mod OwnPagesAdded
pub mod PartCopied
pub mod OwnDestroyed
