-- The search has come to degree d.
use Rattle.runs.specs.Runs.{runs_in}
use Rattle.plans.proofs.Fitted.{Seeking}
use Rattle.plans.proofs.seeking.Search.sweep_from.Given as goal

abbrev pub invariant-loop-d : goal.invariant-loop-d
invariant-loop-d l = Seeking l.self.list.n (runs_in l.self.list) l.self.entries l.self.low l.initial.working l.working l.d
