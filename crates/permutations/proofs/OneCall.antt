-- What one call gives: the next list, by the chain of all permutations; and 18 is of the last alone.
use Prim.Native.Nat.{ℕ, ◌≤◌, ◌<◌}
use Rattle.std.specs.Prelude.{Result}
use Rattle.outcomes.specs.Refusal.{says}
use mathlib.Core.Path.{◌≡◌, sym, ap, ◌∙◌, subst}
use mathlib.Core.Bool.{true, false, false≢true}
use mathlib.Core.Logic.{◌⊎◌, inl, inr, ⊎_elim, ◌≢◌}
use mathlib.Core.List.{List, [], ◌∷◌}
use native.Mathlib.Omega.{arith}
use lib.ListN.{length, take, drop}
use lib.Seq.{take_at, drop_at}
use borrow.Author.Tests.{eqb-true, eq-eqb}
use Rattle.order.specs.Lists.{Pairwise, up_to, down_to}
use Rattle.order.proofs.Laws.{lt_or_le}
use Rattle.outcomes.specs.Outcome.{done, refused, short_test, judge, Long}
use Rattle.runs.specs.Runs.{Runs, runs, count_of}
use Rattle.runs.specs.Legal.{Legal}
use Rattle.runs.specs.Check.{check_of}
use Rattle.runs.proofs.Legality.{legal_few}
use Rattle.runs.proofs.Accepted.{legal_accepted}
use Rattle.runs.proofs.WritesList.{writes_list}
use Rattle.folds.specs.Fold.{maximal_runs}
use Rattle.permutations.specs.Values.{values_of, value_at, Before}
use Rattle.permutations.specs.Next.{ascent_of, successor, falls, max_places, size_test, last_test, next_runs, next_of, NextListed}
use Rattle.outcomes.specs.declared.Refusal.{Refusal}
use Rattle.permutations.specs.Every.{OfFewestRuns, IsNext}
use Rattle.permutations.specs.Parts.{Permutes, later_of, after_of}
use Rattle.permutations.proofs.Ordering.{before_trans, before_itself, before_differs}
use Rattle.permutations.proofs.Successors.{falls_ascent}
use Rattle.permutations.proofs.Chain.{chain_top}
use Rattle.permutations.proofs.Members.{values_length, values_permute, permutes_distinct, list_values, list_fewest}
use Rattle.permutations.proofs.Permutations.{later, all_on, all_order, all_mem, down_flat, flat_down, successor_least, successor_permutes}
use Rattle.permutations.proofs.Outcomes.{later_is, next_later, after_rises, after_falls, next_done, next_eighteen}

-- the list of a permutation
abbrev pub list_of : ℕ → List ℕ → Runs
list_of n l = maximal_runs n (value_at l)

module _ (n : ℕ) (r : Runs) (c : Legal n r) where
  some_places : 0 < n
  some_places = omega (arith, c.below 0 c.some)

  module _ (h : 0 < ascent_of (values_of n r)) where
    above : Permutes n (successor (values_of n r))
    above = successor_permutes n (values_of n r) (values_permute n r c) h

    pub next_values : values_of n (next_runs n r) ≡ successor (values_of n r)
    unfolding next_runs
    next_values = list_values n (successor (values_of n r)) some_places above

    next_fewest : OfFewestRuns n (next_runs n r)
    unfolding next_runs
    next_fewest = list_fewest n (successor (values_of n r)) some_places above

    next_least : (s : Runs) → Legal n s → Before (values_of n r) (values_of n s)
        → (values_of n s ≡ values_of n (next_runs n r)) ⊎ Before (values_of n (next_runs n r)) (values_of n s)
    next_least s d b = rw next_values ((successor_least n (values_of n r) (values_permute n r c) h).least (values_of n s)
        (all_mem n (values_of n s) (values_permute n s d)) b)

    pub is_next : IsNext n r (next_runs n r)
    is_next = record {
      fewest_runs = next_fewest;
      above = rw next_values (successor_least n (values_of n r) (values_permute n r c) h).above;
      least = next_least;
      between = λ s d b e. ⊎_elim
          (λ (z : values_of n s ≡ values_of n (next_runs n r)). before_differs (values_of n s) (values_of n (next_runs n r)) e z)
          (λ (z : Before (values_of n (next_runs n r)) (values_of n s)). before_itself (values_of n s)
          (before_trans (values_of n s) (values_of n (next_runs n r)) (values_of n s) e z))
          (next_least s d b);
    }

  -- no ascent where the values fall, and none is above those
  distinct : Pairwise ◌≢◌ (values_of n r)
  distinct = permutes_distinct n (values_of n r) (values_permute n r c)

  pub none_above : values_of n r ≡ down_to n → (s : Runs) → Legal n s → Before (values_of n r) (values_of n s) → ⊥
  none_above e s d b = chain_top (up_to n) (later n) (down_to n) (all_on n) (all_order n) (values_of n s)
      (all_mem n (values_of n s) (values_permute n s d)) (subst (λ (l : List ℕ). Before l (values_of n s)) e b)

rises_where : (l : List ℕ) → Pairwise ◌≢◌ l → falls l ≡ false → 0 < ascent_of l
rises_where l d e = go (lt_or_le 0 (ascent_of l))
  where
    go : (0 < ascent_of l) ⊎ (ascent_of l ≤ 0) → 0 < ascent_of l
    go (inl h) = h
    go (inr h) = absurd (false≢true (sym e ∙ falls_ascent l d ∙ eq-eqb (ascent_of l) 0 (omega arith)))

flat_where : (l : List ℕ) → Pairwise ◌≢◌ l → falls l ≡ true → ascent_of l ≡ 0
flat_where l d e = eqb-true (ascent_of l) 0 (sym (falls_ascent l d) ∙ e)

-- one that rises nowhere is the last, and the last rises nowhere
module _ (n : ℕ) (r : Runs) (c : Legal n r) where
  pub not_last : values_of n r ≢ down_to n → 0 < ascent_of (values_of n r)
  not_last d = go (lt_or_le 0 (ascent_of (values_of n r)))
    where
      go : (0 < ascent_of (values_of n r)) ⊎ (ascent_of (values_of n r) ≤ 0) → 0 < ascent_of (values_of n r)
      go (inl h) = h
      go (inr h) = absurd (d (flat_down n (values_of n r) (values_permute n r c) (omega arith)))

  own_size : Permutes (length (values_of n r)) (values_of n r)
  own_size = rw (values_length n r) (values_permute n r c)

  -- tests 1 to 6, 17 and 8 let it pass
  module _ (few : n ≤ max_places) where
    accepted : done tt ≡ check_of n r
    accepted = sym (legal_accepted n r c (omega (arith, legal_few n r c)))

    module _ (a b : List ℕ) (long : Long n (a ∷ b ∷ [])) where
      passed : next_of n r a b ≡ after_of (values_of n r)
      passed = next_later n r a b accepted ∙ later_is n r a b few long

      pub call_given : values_of n r ≢ down_to n → next_of n r a b ≡ done (next_runs n r)
      unfolding next_runs
      call_given d =
          passed ∙ after_rises (values_of n r) own_size (not_last d)
          ∙ ap (λ (m : ℕ). done (maximal_runs m (value_at (successor (values_of n r))))) (values_length n r)

      pub call_ended : values_of n r ≡ down_to n → next_of n r a b ≡ refused 18 0
      call_ended e = passed ∙ after_falls (values_of n r) own_size (ap ascent_of e ∙ down_flat n)

-- what a call that is done says of its list
pub call_next : (n : ℕ) (r : Runs) (a b : List ℕ) (q : Runs) → next_of n r a b ≡ done q
    → Legal n r × (n ≤ max_places) × Long n (a ∷ b ∷ []) × (values_of n r ≢ down_to n) × (q ≡ next_runs n r)
call_next n r a b q e =
    let d = next_done n r a b q e in
    let h = rises_where (values_of n r) (distinct n r d.0) d.3 in
    (d.0, d.1, d.2, λ z. omega (arith, h, ap ascent_of z, down_flat n), d.4)

pub call_last : (n : ℕ) (r : Runs) (a b : List ℕ) (p : ℕ) → next_of n r a b ≡ refused 18 p
    → Legal n r × (n ≤ max_places) × Long n (a ∷ b ∷ []) × (values_of n r ≡ down_to n) × (p ≡ 0)
call_last n r a b p e =
    let d = next_eighteen n r a b p e in
    let z = flat_where (values_of n r) (distinct n r d.0) d.3 in
    (d.0, d.1, d.2, flat_down n (values_of n r) (values_permute n r d.0) z, d.4)

-- two lists of one permutation
pub call_same : (n : ℕ) (r s : Runs) (a b : List ℕ) → Legal n r → Legal n s → n ≤ max_places → values_of n r ≡ values_of n s
    → next_of n r a b ≡ next_of n s a b
unfolding later_of next_runs
call_same n r s a b c d few e =
    next_later n r a b (accepted n r c few)
    ∙ ap (λ (l : List ℕ). judge (size_test n ∷ short_test n (a ∷ b ∷ []) ∷ last_test l ∷ []) (maximal_runs n (value_at (successor l)))) e
    ∙ sym (next_later n s a b (accepted n s d few))

-- the list that is given is legal
call_legal : (n : ℕ) (r : Runs) (a b : List ℕ) (q : Runs) → next_of n r a b ≡ done q → Legal n q
call_legal n r a b q e =
    let d = call_next n r a b q e in
    rw d.4 (is_next n r d.0 (not_last n r d.0 d.3)).fewest_runs.legal

-- a call that answers a run count, on its tables
pub call_written : (n : ℕ) (r : Runs) (a b a' b' : List ℕ) (x : Result ℕ Refusal) → NextListed n r a b a' b' x → (k : ℕ) → says x ≡ done k
    → let q = runs (take k a') (take k b') in
    (next_of n r a b ≡ done q) × (count_of q ≡ k) × (k ≤ n) × (drop k a' ≡ drop k a) × (drop k b' ≡ drop k b)
call_written n r a b a' b' x c k e =
    let w = writes_list says (next_of n r a b) a b a' b' x c k e in
    let q = w.0 in
    let d = call_legal n r a b q w.1 in
    let i : length q.images ≡ k = d.paired ∙ w.2 in
    let s : take k a' ≡ q.starts = ap (take k) w.3 ∙ take_at q.starts (drop (length q.starts) a) k w.2 in
    let t : take k b' ≡ q.images = ap (take k) w.4 ∙ take_at q.images (drop (length q.images) b) k i in (
      w.1 ∙ (λ j. done (runs (sym s j) (sym t j))),
      ap length s ∙ w.2,
      omega (arith, legal_few n q d, w.2),
      ap (drop k) w.3 ∙ drop_at q.starts (drop (length q.starts) a) k w.2 ∙ ap (λ (m : ℕ). drop m a) w.2,
      ap (drop k) w.4 ∙ drop_at q.images (drop (length q.images) b) k i ∙ ap (λ (m : ℕ). drop m b) i,
    )
