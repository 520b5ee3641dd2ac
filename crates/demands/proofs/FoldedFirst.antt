-- A fold and then balancing: the list that `fold` left is the fold, and where `balance` answers, demand 3 holds for it.
use Prim.Native.Nat.{ℕ, ◌≤◌}
use Rattle.std.specs.Prelude.{Result}
use Rattle.outcomes.specs.Refusal.{says}
use Rattle.outcomes.specs.declared.Refusal.{Refusal}
use mathlib.Core.Path.{◌≡◌, refl, sym, ap, ◌∙◌, subst}
use native.Mathlib.Omega.{arith}
use lib.ListN.{take}
use Rattle.outcomes.specs.Outcome.{Outcome, done, refused, Long, map_done}
use Rattle.outcomes.proofs.Judging.{done_refused}
use Rattle.runs.specs.Runs.{Runs, runs, count_of, map_of, SamePermutation}
use Rattle.runs.specs.Legal.{Legal}
use Rattle.runs.specs.Check.{max_runs, check_of}
use Rattle.runs.proofs.Accepted.{legal_accepted}
use Rattle.folds.specs.Fold.{folded}
use Rattle.folds.specs.Fewest.{FewestOf}
use Rattle.folds.proofs.Fewest.{fewest_runs}
use Rattle.cuts.specs.Balance.{bound_of}
use Rattle.balance.specs.Lent.{Lent, lent_columns, first_of, balance_of, interval_count}
use Rattle.balance.proofs.Outcomes.{balance_room}
use Rattle.demands.specs.FoldedFirst.{BothCalls, FoldedFirst}
use Rattle.demands.proofs.Demand3.{demand3}

-- a function of an outcome that is done
was_done : {A B : Type 0} (f : A → B) (o : Outcome A) (b : B) → map_done f o ≡ done b → (a : A) × (o ≡ done a)
unfolding map_done
was_done f (done a) b e = (a, refl)
was_done f (refused k p) b e = absurd (done_refused b k p (sym e))

module _ (n : ℕ) (r : Runs) (k d : ℕ) (entry exit : Lent) (answer : Result ℕ Refusal) (c : BothCalls n r k d entry exit answer) where
  -- the list that `fold` left
  abbrev left : Runs
  left = runs (take k c.to_starts') (take k c.to_images')

  written : Legal n r × (left ≡ folded r) × (count_of left ≡ k) × (k ≤ max_runs)
  written =
      let w = fewest_runs.written n r c.to_starts c.to_images c.to_starts' c.to_images' c.fold_answer c.folds k c.fold_says in
      (w.0, w.1, w.2, w.3)

  accepted : check_of n left ≡ done tt
  accepted =
      let legal : Legal n left = rw written.1 (fewest_runs.legal n r written.0) in
      legal_accepted n left legal (omega (arith, written.2, written.3))

  fewest : FewestOf n r k
  fewest = subst (FewestOf n r) (ap count_of (sym written.1) ∙ written.2) (fewest_runs.fewest n r written.0)

  module _ (m : ℕ) (z : says answer ≡ done m) where
    bounded : (m ≤ bound_of d k) × SamePermutation n (first_of m exit).links.list r
    bounded =
        let t = was_done interval_count (balance_of n left d entry) m (sym c.balances.says ∙ z) in
        let room = balance_room n left d entry t.0 t.1 in
        let s = demand3.0 n left d entry exit answer c.balances room.0 room.1 room.2 room.3 in
        let f : done s.0 ≡ done m = sym s.1 ∙ z in
        let e : s.0 ≡ m = cc in (
          omega (arith, e, s.2, ap (bound_of d) written.2),
          λ p h. ap (λ (j : ℕ). map_of n (first_of j exit).links.list p) (sym e) ∙ s.3.same_permutation p h
              ∙ ap (λ (q : Runs). map_of n q p) written.1 ∙ fewest_runs.same n r written.0 p h,
        )

pub folded_first : FoldedFirst
folded_first = record {
  bound = λ n r k d entry exit answer c m z.
      let b = bounded n r k d entry exit answer c m z in
      (fewest n r k d entry exit answer c, b.0, b.1);
  answered = λ n r k d entry exit answer c low high room.
      let s = demand3.0 n (left n r k d entry exit answer c) d entry exit answer c.balances
      (accepted n r k d entry exit answer c) low high room in
      (s.0, s.1);
  answered_in_bound = λ n r k d entry exit answer c low high long.
      let enough = subst (λ (m : ℕ). Long (bound_of d m) (lent_columns entry)) (sym (written n r k d entry exit answer c).2) long in
      let s = demand3.1 n (left n r k d entry exit answer c) d entry exit answer c.balances
      (accepted n r k d entry exit answer c) low high enough in
      (s.0, s.1);
}
