-- A process is begun, and gets what it starts with.
pub mod ActorBegun
pub mod TakenBack
pub mod ImageCalls
pub mod ImageOpened
pub mod ImageLoaded
pub mod PartsInherited
pub mod ExecSteps
