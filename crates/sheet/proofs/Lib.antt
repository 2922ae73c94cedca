pub mod Strips
pub mod Steps
pub mod Ends
pub mod Demand
