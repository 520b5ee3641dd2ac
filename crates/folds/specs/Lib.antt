-- The fold of a run list, what `fold` promises, what is promised of folds, and what the parts of the code ask and promise. In reading
-- order.
pub mod Fold
pub mod Lent
pub mod Fewest
pub mod Parts
