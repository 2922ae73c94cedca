-- Document 01 as definitions, each beside the sentence that it stands for.
pub mod Number
pub mod Storage
pub mod Call
pub mod Element
pub mod Check
pub mod Direct
pub mod Many
pub mod Machine
pub mod Sheet
pub mod Run
