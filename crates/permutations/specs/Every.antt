-- What a next list is, and what all lists of n places are, one after the other (document 02, A.3).
use Rattle.std.specs.Prelude.{ℕ, zero, suc, ◌*◌, ◌-◌, ◌≤◌, ◌<◌, ◌≡◌, ◌⊎◌, ◌≢◌, List, [], ◌∷◌, length, get_or}
use Rattle.order.specs.Lists.{All, Pairwise, down_to}
use Rattle.outcomes.specs.Outcome.{done, refused}
use Rattle.runs.specs.Runs.{Runs, runs, count_of, image_of, image_end, map_of}
use Rattle.runs.specs.Legal.{Legal}
use Rattle.permutations.specs.Values.{values_of, Before}
use Rattle.permutations.specs.Next.{next_of}

-- "lists of fewest runs": legal, and no legal list of the same permutation has fewer; so neighbours do not follow on
pub record OfFewestRuns (n : ℕ) (q : Runs) : Type 0 where
  pub legal : Legal n q
  pub fewest : (s : Runs) → Legal n s → values_of n s ≡ values_of n q → count_of q ≤ count_of s
  pub apart : (x : ℕ) → suc x < count_of q → image_of q (suc x) ≢ image_end n q x

-- q is the next list of r: its permutation is above r's, and every one above r's is that one or above it; so nothing lies between
pub record IsNext (n : ℕ) (r q : Runs) : Type 0 where
  pub fewest_runs : OfFewestRuns n q
  pub above : Before (values_of n r) (values_of n q)
  pub least : (s : Runs) → Legal n s → Before (values_of n r) (values_of n s)
      → (values_of n s ≡ values_of n q) ⊎ Before (values_of n q) (values_of n s)
  pub between : (s : Runs) → Legal n s → Before (values_of n r) (values_of n s) → Before (values_of n s) (values_of n q) → ⊥

-- the list that sends each place to itself, in one run
abbrev pub identity : Runs
identity = runs (0 ∷ []) (0 ∷ [])

-- the list r and those after it, a call for each until one is refused, and no more than m calls; a and b are the tables that are lent
unfoldable pub lists_from : ℕ → List ℕ → List ℕ → ℕ → Runs → List Runs
lists_from n a b zero r = r ∷ []
lists_from n a b (suc m) r = r ∷ elim (next_of n r a b) [ done q ↦ lists_from n a b m q | refused k p ↦ [] ]

unfoldable pub factorial : ℕ → ℕ
factorial zero = 1
factorial (suc n) = suc n * factorial n

-- list x of some; where there is none, one without runs, and so no legal one
abbrev pub list_at : List Runs → ℕ → Runs
list_at lists x = get_or lists x (runs [] [])

-- a list has the function f on the places below n
abbrev pub Has : ℕ → Runs → (ℕ → ℕ) → Type 0
Has n r f = (p : ℕ) → p < n → map_of n r p ≡ f p

-- these are the permutations of n places, in order
pub record AllInOrder (n : ℕ) (lists : List Runs) : Type 0 where
  -- "n! lists in all"
  pub number : length lists ≡ factorial n
  -- each stands before every later one
  pub order : Pairwise (λ r q. Before (values_of n r) (values_of n q)) lists
  -- "each comes once": every permutation f of n places is that of one of them, and of no other
  pub once : (f : ℕ → ℕ) → ((p : ℕ) → p < n → f p < n) → ((p q : ℕ) → p < n → q < n → f p ≡ f q → p ≡ q)
      → (x : ℕ) × (x < length lists) × Has n (list_at lists x) f
      × ((y : ℕ) → y < length lists → Has n (list_at lists y) f → y ≡ x)
  -- from the identity to the permutation that falls everywhere
  pub first : list_at lists 0 ≡ identity
  pub last : values_of n (list_at lists (factorial n - 1)) ≡ down_to n
  -- each but the first is the next of the one before it, and all are of fewest runs
  pub steps : (x : ℕ) → suc x < length lists → IsNext n (list_at lists x) (list_at lists (suc x))
  pub fewest_runs : All (OfFewestRuns n) lists
