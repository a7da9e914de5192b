pub mod Places
pub mod Evaluation
pub mod Plans
pub mod LaneSteps
pub mod NoRange
pub mod LineSteps
pub mod ProductSteps
pub mod Programs
