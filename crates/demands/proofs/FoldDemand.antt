-- The order of the tests of `fold`, and that a refusal leaves both tables.
use Rattle.runs.specs.Runs.{count_of}
use Rattle.outcomes.specs.Refusal.{says}
use Rattle.runs.specs.Check.{list_tests, tests_up_to}
use Rattle.runs.proofs.WritesList.{writes_kept}
use Rattle.folds.specs.Lent.{fold_of}
use Rattle.demands.specs.FoldDemand.{FoldDemand}
use Rattle.demands.proofs.Demand1.{judged}
use mathlib.Core.Path.{refl}

pub fold_demand : FoldDemand
unfolding list_tests tests_up_to fold_of
fold_demand = record {
  fold = λ n r a b. judged _ _ _ refl;
  fold_kept = λ n r a b a' b' x c. writes_kept says count_of (fold_of n r a b) a b x a' b' c;
}
