pub mod Change
pub mod Blocks
pub mod Made
pub mod Step
pub mod Unblocked
pub mod UnblockedParts
