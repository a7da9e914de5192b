pub mod Effect
pub mod Lowered
pub mod Small
pub mod Quiet
pub mod Laws
pub mod Stored
pub mod Ports
pub mod Contract
