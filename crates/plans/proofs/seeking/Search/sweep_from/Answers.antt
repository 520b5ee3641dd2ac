-- Each turn is a degree more that leaves too many intervals.
use Rattle.std.proofs.Common.{◌≡◌, ℕ, ◌∙◌, subst, arith}
use Rattle.runs.specs.Runs.{runs_in}
use Rattle.plans.proofs.Outcomes.{clearable}
use Rattle.plans.proofs.Clearing.{swept_cleared}
use Rattle.plans.proofs.Fitted.{Seeking, seeking_cuttable, seeking_next, seeking_found, seeking_whole, seeking_none}
use Rattle.plans.proofs.seeking.Search.sweep_from.Goals as goal

pub find_cuts-cuts-requires : goal.find_cuts-cuts-requires
find_cuts-cuts-requires c =
    seeking_cuttable _ _ _ _ _ _ _ c.requires.0 _ _ c.loop-d.invariant _ (omega arith) (omega (arith, c.requires.1.most))

pub returns-then-self-cuts : goal.returns-then-self-cuts
returns-then-self-cuts c =
    seeking_found _ _ _ _ _ _ _ c.requires.0 _ _ c.loop-d.invariant (omega (arith, c.requires.1.most)) _ _
    c.find_cuts-cuts.ensures (omega arith)

pub loop-d-preserved : goal.loop-d-preserved
loop-d-preserved c =
    seeking_next _ _ _ _ _ _ _ c.requires.0 _ _ c.loop-d.invariant (omega (arith, c.requires.1.most)) _ _
    c.find_cuts-cuts.ensures (omega arith) (omega arith)

pub returns-then-first-le-MOST_DEGREE : goal.returns-then-first-le-MOST_DEGREE
returns-then-first-le-MOST_DEGREE c =
    let e : c.loop-d.d ≡ c.args.first.whole = omega (arith, c.requires.1.up) in
    let l = c.args.self.list in
    let s = subst (λ (d : ℕ). Seeking l.n (runs_in l) c.args.self.entries c.args.self.low c.args.working.now c.loop-d.working d) e c.loop-d.invariant in
    seeking_whole _ _ _ _ _ _ _ c.requires.0 _ _ s _ c.requires.1 (omega arith) (omega arith) c.if-first-le-MOST_DEGREE.true

pub clear-requires : goal.clear-requires
clear-requires c = clearable _ _ _ _ c.requires.0.passed _ c.loop-d.invariant.sized

pub returns : goal.returns
returns c = (
  seeking_none _ _ _ _ _ _ _ c.requires.0 _ _ c.loop-d.invariant (omega arith),
  c.clear.ensures ∙ swept_cleared _ _ _ _ c.requires.0.passed _ c.loop-d.invariant.rest,
)
