-- What `balance` promises, and what the functions that write the tables do.
pub mod Lent
pub mod Parts
