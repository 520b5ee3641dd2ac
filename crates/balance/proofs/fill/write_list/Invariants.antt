-- x runs and c cuts are written.
use Rattle.runs.specs.Runs.{runs_in}
use Rattle.balance.proofs.Writing.{Writing}
use Rattle.balance.proofs.fill.write_list.Given as goal

abbrev pub invariant-loop-c : goal.invariant-loop-c
invariant-loop-c l =
    Writing l.list.n (runs_in l.list) l.cuts l.initial.to_starts l.initial.to_images l.to_starts l.to_images l.x l.c
