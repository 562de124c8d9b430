pub mod CloneChain
pub mod Look
