-- What a call comes to, why it may be refused, the searches that conditions are said by, and test 7.
pub mod Outcome
pub mod Refusal
pub mod Search
pub mod Degree
