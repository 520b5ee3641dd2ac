-- Folding: neighbours whose images follow on become one run. And the same list told by its function alone: it has a start at
-- each place where the function does not follow on. That the two agree is proved (proofs/Folding).
use Rattle.std.specs.Prelude.{ℕ, suc, ◌-◌, Bool, not, ◌||◌, List, map, eqb}
use Rattle.order.specs.Lists.{up_to}
use Rattle.outcomes.specs.Search.{keep}
use Rattle.runs.specs.Runs.{Runs, runs, count_of, start_of, image_of, carry}

-- whether run x begins a run of the fold: it is the first, or its image is not where the run before it would take x's start
unfoldable pub begins : Runs → ℕ → Bool
begins r x = eqb x 0 || not (eqb (image_of r x) (carry r (x - 1) (start_of r x)))

-- the runs of the list that begin one of the fold, in order
unfoldable pub heads : Runs → List ℕ
heads r = keep (begins r) (up_to (count_of r))

-- the fold: their starts and images
unfoldable pub folded : Runs → Runs
folded r = runs (map (start_of r) (heads r)) (map (image_of r) (heads r))

-- whether a function breaks at p: p is the first place, or its image is not one above that of the place before it
unfoldable pub breaks : (ℕ → ℕ) → ℕ → Bool
breaks f p = eqb p 0 || not (eqb (f p) (suc (f (p - 1))))

-- its breakpoints: the places below n where it breaks, in order
abbrev pub breakpoints : ℕ → (ℕ → ℕ) → List ℕ
breakpoints n f = keep (breaks f) (up_to n)

-- the list of the function's maximal runs, a start at each breakpoint: no legal list with its values on the places below n has fewer
unfoldable pub maximal_runs : ℕ → (ℕ → ℕ) → Runs
maximal_runs n f = runs (breakpoints n f) (map f (breakpoints n f))
