pub mod KeptReads
pub mod OneMap
pub mod OneReply
pub mod Tellings
pub mod Ends
