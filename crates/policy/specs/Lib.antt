pub mod Policy
