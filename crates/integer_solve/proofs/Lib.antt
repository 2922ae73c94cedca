pub mod Integers
pub mod Words
pub mod Numbers
pub mod Taking
pub mod Progress
pub mod Theorems
