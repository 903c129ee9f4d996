-- Copies and moves.
pub mod SpanRows
pub mod Spanned
pub mod Transfers
pub mod Transferring
pub mod Reserved
pub mod Readied
pub mod Unready
