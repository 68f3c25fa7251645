pub mod Queues
pub mod Triples
pub mod Sends
pub mod Ends
pub mod Fills
