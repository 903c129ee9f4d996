-- What a call of the manager comes to, and that it can be called again.
pub mod UntoldSteps
pub mod CallAgain
pub mod CallAgainNoMapper
pub mod OneCall
pub mod Using
pub mod MapCall
pub mod ActorExits
