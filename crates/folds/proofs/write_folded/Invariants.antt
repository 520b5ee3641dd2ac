-- The first x runs are taken, and those that begin one of the fold are written.
use Rattle.runs.specs.Runs.{runs_in}
use Rattle.folds.proofs.Heads.{Heading}
use Rattle.folds.proofs.write_folded.Given as goal

abbrev pub invariant-loop-x : goal.invariant-loop-x
invariant-loop-x l = Heading (runs_in l.list) l.fn.to.starts.now l.fn.to.images.now l.starts l.images l.m l.x
