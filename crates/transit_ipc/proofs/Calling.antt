-- What a call of the manager comes to, and that it can be called again.
pub mod CallAgain
pub mod CallsSoFar
pub mod UntoldSteps
pub mod PassedOn
