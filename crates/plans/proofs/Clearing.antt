-- What the working table holds afterwards.
use Prim.Native.Nat.{ℕ, ◌+◌, ◌-◌, ◌≤◌}
use mathlib.Core.Path.{◌≡◌, sym, ap, ◌∙◌}
use mathlib.Core.List.{List, ◌++◌}
use native.Mathlib.Omega.{arith}
use lib.ListN.{length, drop, replicate, length-replicate}
use lib.Seq.{drop-drop}
use Rattle.outcomes.specs.Outcome.{done, refused, over, filled}
use Rattle.runs.specs.Runs.{Runs, count_of}
use Rattle.cuts.proofs.Balancing.{cuts_bound}
use Rattle.plans.specs.Working.{working_size, planned_of, cleared_by}
use Rattle.plans.proofs.Outcomes.{planned_sizes}

-- lists that agree from one entry on agree from each later one on
pub drop_on : (c k : ℕ) (a b : List ℕ) → c ≤ k → drop c a ≡ drop c b → drop k a ≡ drop k b
drop_on c k a b h e =
    let s : k ≡ c + (k - c) = omega arith in
    ap (λ (m : ℕ). drop m a) s ∙ sym (drop-drop (k - c) c a) ∙ ap (drop (k - c)) e ∙ drop-drop (k - c) c b
    ∙ ap (λ (m : ℕ). drop m b) (sym s)

module _ (n : ℕ) (r : Runs) (d : ℕ) (working : List ℕ) where
  -- it stays after a refusal by tests 1 to 8
  pub working_kept : (k p : ℕ) → planned_of n r d (length working) ≡ refused k p → cleared_by n r d working ≡ working
  unfolding cleared_by filled
  working_kept k p e = rw e

  -- else its first B entries are 0
  module _ (e : planned_of n r d (length working) ≡ done tt) where
    pub working_cleared : cleared_by n r d working ≡ over (replicate (working_size d (count_of r)) 0) working
    unfolding cleared_by filled
    working_cleared = rw e

    -- whatever stood in its first k
    pub swept_cleared : (swept : List ℕ) → drop (count_of r) swept ≡ drop (count_of r) working
        → over (replicate (working_size d (count_of r)) 0) swept ≡ cleared_by n r d working
    swept_cleared swept s =
        let b = working_size d (count_of r) in
        let z = length-replicate {A = ℕ} b 0 in
        let few = cuts_bound d (count_of r) 0 (planned_sizes n r d (length working) e).0 (omega arith) in
        ap (λ (t : List ℕ). replicate b 0 ++ t) (drop_on (count_of r) (length {A = ℕ} (replicate b 0)) swept working (omega arith) s)
        ∙ sym working_cleared
