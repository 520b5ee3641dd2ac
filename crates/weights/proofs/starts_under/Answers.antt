-- The part has the entries that `under` names.
use Rattle.weights.proofs.Stretches.{under_within, under_part, under_empty}
use Rattle.weights.proofs.starts_under.Goals as goal

pub slice_bounds-result-end-in-Ok : goal.slice_bounds-result-end-in-Ok
slice_bounds-result-end-in-Ok c = under_within _ _ _ _ c.in-Ok.ensures

pub returns-in-Err : goal.returns-in-Err
returns-in-Err c = under_empty _ _ _ _ _ c.in-Err.ensures

pub returns-in-Ok : goal.returns-in-Ok
returns-in-Ok c = under_part _ _ _ _ c.in-Ok.ensures
