-- Calls of `next_list` one after the other, by its contract: what each left in its tables is handed to the next.
use Rattle.std.specs.Prelude.{ℕ, List, [], ◌∷◌, take, Result}
use Rattle.outcomes.specs.Outcome.{done, refused, Long}
use Rattle.outcomes.specs.Refusal.{says}
use Rattle.outcomes.specs.declared.Refusal.{Refusal}
use Rattle.runs.specs.Runs.{Runs, runs}
use Rattle.permutations.specs.Next.{NextListed}

-- A call of `next_list`: both tables that are lent, before it and after it, and its answer.
pub record NextCall : Type 0 where
  pub to_starts : List ℕ
  pub to_images : List ℕ
  pub to_starts' : List ℕ
  pub to_images' : List ℕ
  pub answer : Result ℕ Refusal

-- the list that a call which answers k has left in the first entries of its tables
abbrev pub left_by : ℕ → NextCall → Runs
left_by k c = runs (take k c.to_starts') (take k c.to_images')

-- the list to hand in after a call: what it left, or after a refusal the one before
unfoldable pub handed_on : Runs → NextCall → Runs
handed_on r c = elim (says c.answer) [ done k ↦ left_by k c | refused k p ↦ r ]

-- calls one after the other, the first of r: each keeps the contract, with tables of its own that are long enough
abbrev pub Calling : ℕ → Runs → List NextCall → Type 0
Calling n r [] = Unit {0}
Calling n r (c ∷ cs) =
    Long n (c.to_starts ∷ c.to_images ∷ []) × NextListed n r c.to_starts c.to_images c.to_starts' c.to_images' c.answer
    × Calling n (handed_on r c) cs

-- the lists that they leave, up to the first refusal
unfoldable pub lists_by : List NextCall → List Runs
lists_by [] = []
lists_by (c ∷ cs) = elim (says c.answer) [ done k ↦ left_by k c ∷ lists_by cs | refused k p ↦ [] ]
