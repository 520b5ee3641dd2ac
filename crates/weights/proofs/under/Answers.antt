-- The size that `weight` gives, and where the stretch begins, which fits as the table's size does.
use Rattle.std.proofs.Common.{arith}
use Rattle.outcomes.proofs.Refusing.{goes_up}
use Rattle.weights.proofs.Stretches.{weight_held, weight_entered, first_fits, under_done, under_unweighed}
use Rattle.weights.proofs.under.Goals as goal

pub returns-in_err-count : goal.returns-in_err-count
returns-in_err-count c = goes_up _ _ _ c.from_residual.ensures.1 (under_unweighed _ _ _ _ _ c.in_err-count.ensures)

pub first-requires-clause-entered : goal.first-requires-clause-entered
first-requires-clause-entered c = weight_entered _ _ _ _ c.in_ok-count.ensures

pub first-requires-clause-held : goal.first-requires-clause-held
first-requires-clause-held c = weight_held _ _ _ _ c.in_ok-count.ensures

pub overflow_cast-result : goal.overflow_cast-result
overflow_cast-result c = omega (arith, first_fits _ _ _ _ c.in_ok-count.ensures _ c.first.ensures)

pub returns : goal.returns
returns c = under_done _ _ _ _ c.in_ok-count.ensures _ c.first.ensures
