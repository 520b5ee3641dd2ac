-- A permutation in one-line notation, by its values, and the order of permutations (document 02, A.3).
use Rattle.std.specs.Prelude.{ℕ, ◌<◌, ◌≡◌, ◌⊎◌, List, [], ◌∷◌, map, get_or}
use Rattle.order.specs.Lists.{up_to}
use Rattle.runs.specs.Runs.{Runs, map_of}

-- where a list's function takes places 0, 1, .. n - 1
unfoldable pub values_of : ℕ → Runs → List ℕ
values_of n r = map (map_of n r) (up_to n)

-- the value at place p
abbrev pub value_at : List ℕ → ℕ → ℕ
value_at l p = get_or l p 0

-- The lexicographic order, "by the image of place 0, then of place 1, and so on", of lists of one length
abbrev pub Before : List ℕ → List ℕ → Type 0
Before [] b = ⊥
Before (x ∷ a) [] = ⊥
Before (x ∷ a) (y ∷ b) = (x < y) ⊎ ((x ≡ y) × Before a b)
