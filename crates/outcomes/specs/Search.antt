-- Searches over indexes and lists that the definitions share. None recurses on a place.
use Rattle.std.specs.Prelude.{ℕ, zero, suc, Bool, true, false, Option, Some, None, List, [], ◌∷◌, ◌++◌, take, drop, ltb}
use Rattle.outcomes.specs.Outcome.{◌then◌else◌}

-- the lowest of x, x + 1, .. x + k - 1 that has the property, or x + k
abbrev pub first_from : (ℕ → Bool) → ℕ → ℕ → ℕ
first_from p zero x = x
first_from p (suc k) x = elim (p x) [ true ↦ x | false ↦ first_from p k (suc x) ]

-- the lowest index below k that has the property, or k
abbrev pub first_below : (ℕ → Bool) → ℕ → ℕ
first_below p k = first_from p k 0

-- whether an index below k has the property
abbrev pub any_below : (ℕ → Bool) → ℕ → Bool
any_below p k = ltb (first_below p k) k

-- the lowest index below k that has the property, if there is one
abbrev pub lowest_below : (ℕ → Bool) → ℕ → Option ℕ
lowest_below p k = any_below p k then Some (first_below p k) else None

-- the elements that have the property
abbrev pub keep : (ℕ → Bool) → List ℕ → List ℕ
keep p [] = []
keep p (s ∷ ss) = p s then s ∷ keep p ss else keep p ss

-- the list with v put in at index x
abbrev pub insert_at : ℕ → ℕ → List ℕ → List ℕ
insert_at x v l = take x l ++ (v ∷ drop x l)
