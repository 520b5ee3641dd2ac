-- What balancing is, the cuts that are certain, the list after cuts and what finding them promises; then what the parts of
-- the search do.
pub mod Balance
pub mod Certain
pub mod Cuts
pub mod Marks
pub mod Ranks
pub mod Parts
