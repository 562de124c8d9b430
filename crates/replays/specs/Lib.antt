pub mod Calls
pub mod Replay
pub mod Runs
pub mod Same
