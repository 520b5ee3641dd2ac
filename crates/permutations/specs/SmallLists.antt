-- All that is promised of small lists beside demand 1 (document 02, A.3). Proved in proofs/Every.
use Rattle.std.specs.Prelude.{ℕ, suc, ◌≤◌, ◌<◌, ◌≡◌, ◌⊎◌, ◌≢◌, List, [], ◌∷◌, length, take, drop, Result}
use Rattle.order.specs.Lists.{down_to}
use Rattle.outcomes.specs.Outcome.{done, refused, Long}
use Rattle.outcomes.specs.Refusal.{says}
use Rattle.outcomes.specs.declared.Refusal.{Refusal}
use Rattle.runs.specs.Runs.{Runs, runs, count_of}
use Rattle.runs.specs.Legal.{Legal}
use Rattle.permutations.specs.Values.{values_of, Before}
use Rattle.permutations.specs.Next.{max_places, successor, next_runs, next_of, NextListed}
use Rattle.permutations.specs.Every.{OfFewestRuns, IsNext, identity, lists_from, factorial, AllInOrder}
use Rattle.permutations.specs.Calls.{NextCall, Calling, lists_by}

pub record SmallLists : Type 0 where
  -- the order is a strict one, and total on lists of one length
  pub irreflexive : (a : List ℕ) → Before a a → ⊥
  pub transitive : (a b c : List ℕ) → Before a b → Before b c → Before a c
  pub total : (a b : List ℕ) → length a ≡ length b → Before a b ⊎ (a ≡ b) ⊎ Before b a
  -- "Handed a legal list, the operation gives the next one's run count": with tables long enough, of any list of up to 7 places but
  -- the last, and the last is refused with 18
  pub given : (n : ℕ) (r : Runs) (a b : List ℕ) → Legal n r → n ≤ max_places → Long n (a ∷ b ∷ [])
      → values_of n r ≢ down_to n → next_of n r a b ≡ done (next_runs n r)
  pub ended : (n : ℕ) (r : Runs) (a b : List ℕ) → Legal n r → n ≤ max_places → Long n (a ∷ b ∷ [])
      → values_of n r ≡ down_to n → next_of n r a b ≡ refused 18 0
  -- and the other way round, whatever is handed in
  pub next : (n : ℕ) (r : Runs) (a b : List ℕ) (q : Runs) → next_of n r a b ≡ done q
      → Legal n r × (n ≤ max_places) × Long n (a ∷ b ∷ []) × (values_of n r ≢ down_to n) × (q ≡ next_runs n r)
  pub last : (n : ℕ) (r : Runs) (a b : List ℕ) (p : ℕ) → next_of n r a b ≡ refused 18 p
      → Legal n r × (n ≤ max_places) × Long n (a ∷ b ∷ []) × (values_of n r ≡ down_to n) × (p ≡ 0)
  -- for every n: the next list has the values of the next permutation, and is the least above; above the last there is none
  pub values : (n : ℕ) (r : Runs) → Legal n r → values_of n r ≢ down_to n → values_of n (next_runs n r) ≡ successor (values_of n r)
  pub least : (n : ℕ) (r : Runs) → Legal n r → values_of n r ≢ down_to n → IsNext n r (next_runs n r)
  pub greatest : (n : ℕ) (r s : Runs) → Legal n r → Legal n s → values_of n r ≡ down_to n → Before (values_of n r) (values_of n s) → ⊥
  -- a permutation has one list of fewest runs
  pub only : (n : ℕ) (q s : Runs) → OfFewestRuns n q → OfFewestRuns n s → values_of n q ≡ values_of n s → q ≡ s
  -- what counts is the permutation, and not how its runs are cut (beyond 7 places one of two lists may have too many runs); and of
  -- the tables that they are long enough
  pub same : (n : ℕ) (r s : Runs) (a b : List ℕ) → Legal n r → Legal n s → n ≤ max_places → values_of n r ≡ values_of n s
      → next_of n r a b ≡ next_of n s a b
  pub room : (n : ℕ) (r : Runs) (a b c d : List ℕ) → Long n (a ∷ b ∷ []) → Long n (c ∷ d ∷ []) → next_of n r a b ≡ next_of n r c d
  -- "gives the next one's run count, writes it to two lent tables of at least n entries and keeps the entries beyond it"
  pub written : (n : ℕ) (r : Runs) (a b a' b' : List ℕ) (x : Result ℕ Refusal) → NextListed n r a b a' b' x → (k : ℕ) → says x ≡ done k
      → let q = runs (take k a') (take k b') in
      (next_of n r a b ≡ done q) × (count_of q ≡ k) × (k ≤ n) × (drop k a' ≡ drop k a) × (drop k b' ≡ drop k b)
  -- "From the identity each comes once, n! lists in all": n! - 1 calls do, and more make no difference
  pub every : (n : ℕ) (a b : List ℕ) (m : ℕ) → 0 < n → n ≤ max_places → Long n (a ∷ b ∷ []) → factorial n ≤ suc m
      → AllInOrder n (lists_from n a b m identity)
  -- the same of calls by the contract, whose lists are those of the definition
  pub calls : (n : ℕ) (r : Runs) (a b : List ℕ) → Long n (a ∷ b ∷ []) → (cs : List NextCall) → Calling n r cs
      → r ∷ lists_by cs ≡ lists_from n a b (length cs) r
  pub every_call : (n : ℕ) → 0 < n → n ≤ max_places → (cs : List NextCall) → Calling n identity cs → factorial n ≤ suc (length cs)
      → AllInOrder n (identity ∷ lists_by cs)
