pub mod Words
pub mod StepsReply
pub mod Laws
pub mod Told
