-- What is promised of folds: the fold is the list of maximal runs of the list's function (proofs/Folding), and all else follows from
-- the laws of that list (proofs/Maximal).
use Prim.Native.Nat.{ℕ, suc, ◌≤◌, ◌<◌}
use mathlib.Core.Path.{◌≡◌, refl, sym, ap, ◌∙◌}
use mathlib.Core.Logic.{◌≢◌}
use mathlib.Core.List.{List, [], ◌∷◌}
use native.Mathlib.Omega.{arith}
use lib.ListN.{length, take, drop}
use Rattle.outcomes.specs.Outcome.{done, Long}
use Rattle.runs.specs.Runs.{Runs, runs, count_of, image_of, image_end, map_of, SamePermutation}
use Rattle.runs.specs.Legal.{Legal}
use Rattle.runs.specs.Check.{max_runs}
use Rattle.std.specs.Prelude.{Result}
use Rattle.outcomes.specs.Refusal.{says}
use Rattle.outcomes.specs.declared.Refusal.{Refusal}
use Rattle.runs.proofs.Accepted.{accepted_legal, legal_accepted}
use Rattle.runs.proofs.Bijection.{map_below, map_injective}
use Rattle.runs.proofs.WritesList.{writes_list}
use Rattle.runs.proofs.WritesList.{written_given, written_only, list_over}
use Rattle.folds.specs.Fold.{folded}
use Rattle.folds.specs.Lent.{fold_of, Folds}
use Rattle.folds.specs.Fewest.{FewestOf, FewestRuns}
use Rattle.folds.proofs.Maximal.{maximal_map, maximal_legal, maximal_alike, maximal_apart, maximal_least, maximal_only}
use Rattle.folds.proofs.Folding.{folded_starts, folded_maximal}
use Rattle.folds.proofs.Heads.{folded_no_more}

module _ (n : ℕ) (r : Runs) (c : Legal n r) where
  some : 0 < n
  some = omega (arith, c.below 0 c.some)

  folded_legal : Legal n (folded r)
  folded_legal = rw (folded_maximal n r c)
      (maximal_legal n (map_of n r) some (map_below n r c) (map_injective n r c))

  folded_map : SamePermutation n (folded r) r
  folded_map p h = ap (λ (q : Runs). map_of n q p) (folded_maximal n r c) ∙ maximal_map n (map_of n r) some p h

  folded_apart : (x : ℕ) → suc x < count_of (folded r) → image_of (folded r) (suc x) ≢ image_end n (folded r) x
  folded_apart = rw (folded_maximal n r c) (maximal_apart n (map_of n r) some)

  folded_fewest : FewestOf n r (count_of (folded r))
  folded_fewest = record {
    list = folded r;
    legal = folded_legal;
    same = folded_map;
    counted = refl;
    least = λ q d h. omega (arith, ap count_of (folded_maximal n r c), maximal_least n (map_of n r) some q d h);
  }

  folded_only : (q : Runs) → Legal n q → SamePermutation n q r → count_of q ≤ count_of (folded r) → q ≡ folded r
  folded_only q d h l =
      maximal_only n q d (map_of n r) h (omega (arith, ap count_of (folded_maximal n r c))) ∙ sym (folded_maximal n r c)

  folded_own : FewestOf n r (count_of r) → folded r ≡ r
  folded_own f = sym (folded_only r c (λ p h. refl) (f.least (folded r) folded_legal folded_map))

-- one function, one fold
module _ (n : ℕ) (r q : Runs) (c : Legal n r) (d : Legal n q) where
  same_fold : SamePermutation n r q → folded r ≡ folded q
  same_fold h = folded_maximal n r c ∙ maximal_alike n (map_of n r) (map_of n q) h ∙ sym (folded_maximal n q d)

  fold_same : folded r ≡ folded q → SamePermutation n r q
  fold_same e p h = sym (folded_map n r c p h) ∙ ap (λ (t : Runs). map_of n t p) e ∙ folded_map n q d p h

folded_twice : (n : ℕ) (r : Runs) → Legal n r → folded (folded r) ≡ folded r
folded_twice n r c = same_fold n (folded r) r (folded_legal n r c) c (folded_map n r c)

-- what a call is done for, and what it then leaves
module _ (n : ℕ) (r : Runs) (a b : List ℕ) where
  fold_done : (q : Runs) → fold_of n r a b ≡ done q
      → Legal n r × (count_of r ≤ max_runs) × Long (count_of r) (a ∷ b ∷ []) × (q ≡ folded r)
  unfolding fold_of
  fold_done q e =
      let d = written_only n r (folded r) a b q e in
      let c = accepted_legal n r d.0 in
      (c.0, c.1, d.1, d.2)

  fold_given : (q : Runs) → Legal n r × (count_of r ≤ max_runs) × Long (count_of r) (a ∷ b ∷ []) × (q ≡ folded r) → fold_of n r a b ≡ done q
  unfolding fold_of
  fold_given q (c, few, long, e) = written_given n r (folded r) a b (legal_accepted n r c few) long ∙ ap done (sym e)

  fold_left : (a' b' : List ℕ) (x : Result ℕ Refusal) → Folds n r a b a' b' x → (k : ℕ) → says x ≡ done k
      → let q = runs (take k a') (take k b') in
      Legal n r × (q ≡ folded r) × (count_of q ≡ k) × (k ≤ max_runs) × (drop k a' ≡ drop k a) × (drop k b' ≡ drop k b)
  fold_left a' b' x w k e =
      let l = writes_list says (fold_of n r a b) a b a' b' x w k e in
      let q = l.0 in
      let d = fold_done q l.1 in
      let paired : length q.images ≡ count_of q = rw d.3 (folded_legal n r d.0).paired in
      let t = list_over q k l.2 (paired ∙ l.2) a b a' b' l.3 l.4 in
      (d.0, t.0 ∙ d.3, ap count_of t.0 ∙ l.2, omega (arith, l.2, ap count_of d.3, folded_no_more r, d.1), t.1, t.2)

pub fewest_runs : FewestRuns
fewest_runs = record {
  legal = folded_legal;
  same = folded_map;
  few = folded_no_more;
  apart = folded_apart;
  starts = folded_starts;
  maximal = folded_maximal;
  fewest = folded_fewest;
  only = λ n r q c. folded_only n r c q;
  one = λ n r q c d. (same_fold n r q c d, fold_same n r q c d);
  twice = folded_twice;
  own = folded_own;
  given = λ n r a b q. (fold_done n r a b q, fold_given n r a b q);
  written = fold_left;
}
