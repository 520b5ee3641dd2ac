use Rattle.std.proofs.Common.{arith}
use Rattle.outcomes.proofs.Searching.{searched_next, searched_some}
use Rattle.runs.proofs.Checking.{out_of_range_true, out_of_range_false}
use Rattle.runs.proofs.RunList.first_out_of_range.Goals as goal

pub returns-then-from-image_end : goal.returns-then-from-image_end
returns-then-from-image_end c =
    searched_some _ _ _ c.loop-x.invariant c.loop-x-test.true (out_of_range_true _ _ _ (omega arith))

pub loop-x-preserved : goal.loop-x-preserved
loop-x-preserved c =
    searched_next _ _ _ c.loop-x.invariant c.loop-x-test.true (out_of_range_false _ _ _ (omega arith))
