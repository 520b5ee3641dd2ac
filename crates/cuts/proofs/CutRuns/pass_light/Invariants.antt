-- What the front has passed is light.
use Rattle.std.proofs.Common.{◌-◌}
use Rattle.runs.specs.Runs.{runs_in}
use Rattle.cuts.specs.Parts.{PassesLight}
use Rattle.cuts.proofs.CutRuns.pass_light.Given as goal

abbrev pub invariant-loop-at : goal.invariant-loop-at
invariant-loop-at l =
    PassesLight l.d l.self.list.n (runs_in l.self.list) l.self.ranked.now l.self.cuts.now l.fn.front l.at

abbrev pub decreases-loop-at : goal.decreases-loop-at
decreases-loop-at l = l.self.list.n - l.at.q
