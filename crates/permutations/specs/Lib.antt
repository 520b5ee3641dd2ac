-- Permutations of a few places: their order, the next list, and what is promised of all of them. In reading order.
pub mod Values
pub mod Next
pub mod Every
pub mod Calls
pub mod SmallLists
pub mod Parts
