-- What a call of the manager below comes to, and that it can be called again.
pub mod EmptyStart
pub mod Pushed
pub mod OneGone
pub mod CallAgain
pub mod Pushing
pub mod Staying
pub mod PassedOn
pub mod MapRow
pub mod Served
pub mod MapCall
