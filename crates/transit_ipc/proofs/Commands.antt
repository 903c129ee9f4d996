-- What each command of ports comes to.
pub mod PortMade
pub mod MakePort
pub mod SendRows
pub mod Send
pub mod MoveOut
pub mod ReceiveRows
pub mod Receive
