-- What a replay is shown to be.
pub mod Shift
pub mod Sizes
pub mod Turned
pub mod Shows
pub mod Turns
pub mod Runs
pub mod Taken
pub mod Arguments
pub mod Rules
pub mod Same
