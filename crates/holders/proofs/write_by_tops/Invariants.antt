use Rattle.std.proofs.Common.{map}
use Rattle.order.proofs.Filling.{Filling}
use Rattle.runs.specs.Runs.{runs_in, run_at}
use Rattle.holders.proofs.write_by_tops.Given as goal

abbrev pub invariant-loop-x : goal.invariant-loop-x
invariant-loop-x l = Filling (map (run_at l.list.n (runs_in l.list)) l.list.images.now) l.fn.to l.to l.x
