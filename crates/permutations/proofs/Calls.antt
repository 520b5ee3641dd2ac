-- Calls one after the other, from the identity: each permutation's list in turn.
use Prim.Native.Nat.{ℕ, zero, suc, ◌-◌, ◌≤◌, ◌<◌}
use Rattle.outcomes.specs.Refusal.{says}
use mathlib.Core.Path.{◌≡◌, refl, sym, ap, ◌∙◌}
use mathlib.Core.Bool.{Bool, false}
use mathlib.Core.List.{List, [], ◌∷◌, map, Memᴰ}
use native.Mathlib.Omega.{arith}
use lib.ListN.{length, get_or}
use borrow.Author.Tests.{eq-eqb, ne_eqb}
use Rattle.order.specs.Lists.{All, up_to, up_from, down_to}
use Rattle.order.proofs.Laws.{at_all, length_up, get_d_up}
use Rattle.outcomes.specs.Outcome.{Outcome, done, refused, Long}
use Rattle.outcomes.specs.Search.{keep}
use Rattle.outcomes.proofs.Judging.{map_refused}
use Rattle.runs.specs.Runs.{Runs, runs, count_of}
use Rattle.folds.specs.Fold.{breaks, maximal_runs}
use Rattle.folds.proofs.Maximal.{maximal_alike}
use Rattle.folds.proofs.Keeping.{up_at, keep_first}
use Rattle.folds.proofs.Tracing.{breaks_first}
use Rattle.permutations.specs.Values.{value_at}
use Rattle.permutations.specs.Next.{max_places, ascent_of, successor, next_runs, next_of}
use Rattle.permutations.specs.Every.{identity, lists_from, factorial}
use Rattle.permutations.specs.Calls.{NextCall, left_by, handed_on, Calling, lists_by}
use Rattle.permutations.specs.Parts.{Permutes}
use Rattle.permutations.proofs.Successors.{Step}
use Rattle.permutations.proofs.Chain.{On, last_mem}
use Rattle.permutations.proofs.Members.{list_values, list_fewest}
use Rattle.permutations.proofs.Permutations.{later, all, all_on, all_number, all_permute, down_flat}
use Rattle.permutations.proofs.Outcomes.{room_alone}
use Rattle.permutations.proofs.OneCall.{list_of, call_given, call_ended, call_written}

-- the identity is one run
keep_none : (b : ℕ → Bool) (l : List ℕ) → All (λ p. b p ≡ false) l → keep b l ≡ []
keep_none b [] a = refl
keep_none b (p ∷ l) a = rw a.0 (keep_none b l a.1)

identity_follows : (p : ℕ) → 0 < p → breaks (λ x. x) p ≡ false
unfolding breaks
identity_follows p h = simp (ne_eqb p 0 (λ e. omega arith), eq-eqb p (suc (p - 1)) (omega arith))

identity_breaks : (m : ℕ) → keep (breaks (λ x. x)) (up_from 1 m) ≡ []
identity_breaks m = keep_none (breaks (λ x. x)) (up_from 1 m) (at_all (λ p. breaks (λ x. x) p ≡ false) (up_from 1 m)
    (λ k h. identity_follows (get_or (up_from 1 m) k 0) (omega (arith, get_d_up 1 m k (omega (arith, length_up 1 m))))))

identity_maximal : (n : ℕ) → 0 < n → maximal_runs n (λ x. x) ≡ identity
unfolding maximal_runs
identity_maximal zero some = absurd (omega arith)
identity_maximal (suc m) some =
    let e : keep (breaks (λ x. x)) (up_to (suc m)) ≡ 0 ∷ [] =
    keep_first (breaks (λ x. x)) 0 (up_from 1 m) (breaks_first (λ x. x)) ∙ ap (λ (l : List ℕ). 0 ∷ l) (identity_breaks m) in
    λ i. runs (e i) (map (λ x. x) (e i))

pub identity_list : (n : ℕ) → 0 < n → list_of n (up_to n) ≡ identity
identity_list n some = maximal_alike n (value_at (up_to n)) (λ x. x) (up_at n) ∙ identity_maximal n some

-- one call more, and the last
module _ (n : ℕ) (a b : List ℕ) where
  lists_on : (m : ℕ) (r q : Runs) → next_of n r a b ≡ done q → lists_from n a b (suc m) r ≡ r ∷ lists_from n a b m q
  unfolding lists_from
  lists_on m r q e = rw (e, lists_from)

  lists_end : (m k p : ℕ) (r : Runs) → next_of n r a b ≡ refused k p → lists_from n a b m r ≡ r ∷ []
  unfolding lists_from
  lists_end zero k p r e = refl
  lists_end (suc m) k p r e = rw (e, lists_from)

module _ (n : ℕ) (a b : List ℕ) (some : 0 < n) (few : n ≤ max_places) (long : Long n (a ∷ b ∷ [])) where
  call_on : (l : List ℕ) → Permutes n l → (k : List ℕ) → Step l k → next_of n (list_of n l) a b ≡ done (list_of n k)
  unfolding next_runs
  call_on l c k s =
      let v = list_values n l some c in
      call_given n (list_of n l) (list_fewest n l some c).legal few a b long
      (λ e. omega (arith, s.rises, ap ascent_of (sym v ∙ e), down_flat n))
      ∙ ap (λ (m : List ℕ). done (list_of n (successor m))) v ∙ ap (λ (m : List ℕ). done (list_of n m)) s.next

  call_last : next_of n (list_of n (down_to n)) a b ≡ refused 18 0
  call_last =
      let c = all_permute n (down_to n) (last_mem (up_to n) (later n) (down_to n) (all_on n)) in
      call_ended n (list_of n (down_to n)) (list_fewest n (down_to n) some c).legal few a b long (list_values n (down_to n) some c)

  calls_on : (m : ℕ) (l : List ℕ) (L : List (List ℕ)) → On l L (down_to n)
      → ((k : List ℕ) → Memᴰ k (l ∷ L) → Permutes n k) → length L ≤ m
      → lists_from n a b m (list_of n l) ≡ map (list_of n) (l ∷ L)
  calls_on m l [] o p h =
      lists_end n a b m 18 0 (list_of n l) (ap (λ (k : List ℕ). next_of n (list_of n k) a b) o ∙ call_last)
  calls_on zero l (k ∷ L) o p h = absurd (omega arith)
  calls_on (suc m) l (k ∷ L) o p h =
      lists_on n a b m (list_of n l) (list_of n k) (call_on l (p l (Memᴰ.head refl)) k o.0)
      ∙ ap (λ (K : List Runs). list_of n l ∷ K) (calls_on m k L o.1 (λ j i. p j (Memᴰ.tail i)) (omega arith))

  pub all_calls : (m : ℕ) → factorial n ≤ suc m → lists_from n a b m identity ≡ map (list_of n) (all n)
  all_calls m h =
      ap (lists_from n a b m) (sym (identity_list n some))
      ∙ calls_on m (up_to n) (later n) (all_on n) (all_permute n) (omega (arith, all_number n))

-- calls by the contract, each with tables of its own
pub by_contract : (n : ℕ) (r : Runs) (a b : List ℕ) → Long n (a ∷ b ∷ []) → (cs : List NextCall) → Calling n r cs
    → r ∷ lists_by cs ≡ lists_from n a b (length cs) r
unfolding lists_by handed_on lists_from
by_contract n r a b long [] c = refl
by_contract n r a b long (x ∷ cs) c = go (says x.answer) refl (λ q. by_contract n q a b long cs) c.2
  where
    same : next_of n r x.to_starts x.to_images ≡ next_of n r a b
    same = room_alone n r x.to_starts x.to_images a b c.0 long

    go : (o : Outcome ℕ) → says x.answer ≡ o
        → ((q : Runs) → Calling n q cs → q ∷ lists_by cs ≡ lists_from n a b (length cs) q)
        → Calling n (elim o as (λ _. Runs) [ done k ↦ left_by k x | refused k p ↦ r ]) cs
        → r ∷ elim o as (λ _. List Runs) [ done k ↦ left_by k x ∷ lists_by cs | refused k p ↦ [] ] ≡ lists_from n a b (suc (length cs)) r
    go (done k) e f d =
        let w = call_written n r x.to_starts x.to_images x.to_starts' x.to_images' x.answer c.1 k e in
        ap (λ (K : List Runs). r ∷ K) (f (left_by k x) d) ∙ sym (lists_on n a b (length cs) r (left_by k x) (sym same ∙ w.0))
    go (refused k p) e f d =
        sym (lists_end n a b (suc (length cs)) k p r
        (sym same ∙ map_refused count_of (next_of n r x.to_starts x.to_images) k p (sym c.1.says ∙ e)))
