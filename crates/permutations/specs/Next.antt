-- The next list (document 02, A.3): that of the permutation after a list's, in maximal runs.
use Rattle.std.specs.Prelude.{ℕ, zero, suc, ◌-◌, Bool, true, false, ◌&&◌, List, [], ◌∷◌, ◌++◌, reverse, length, take, drop, set, ltb, Result}
use Rattle.outcomes.specs.Outcome.{Outcome, Test, test, short_test, judge}
use Rattle.outcomes.specs.Refusal.{says}
use Rattle.outcomes.specs.declared.Refusal.{Refusal}
use Rattle.runs.specs.Runs.{Runs, count_of}
use Rattle.runs.specs.Check.{check_tests}
use Rattle.runs.specs.Written.{WritesList}
use Rattle.folds.specs.Fold.{maximal_runs}
use Rattle.permutations.specs.Values.{values_of, value_at}

-- the last place from 1 to m whose value is above the one before it, or 0
unfoldable pub last_ascent : List ℕ → ℕ → ℕ
last_ascent l zero = 0
last_ascent l (suc m) = elim (ltb (value_at l m) (value_at l (suc m))) [ true ↦ suc m | false ↦ last_ascent l m ]

-- the last place from 1 to m whose value is above v, or 0
unfoldable pub last_above : List ℕ → ℕ → ℕ → ℕ
last_above l v zero = 0
last_above l v (suc m) = elim (ltb v (value_at l (suc m))) [ true ↦ suc m | false ↦ last_above l v m ]

-- the last ascent, and the place that the value before it is exchanged with: the last one whose value is above that
abbrev pub ascent_of : List ℕ → ℕ
ascent_of l = last_ascent l (length l - 1)

abbrev pub exchange_of : List ℕ → ℕ → ℕ
exchange_of l ascent = last_above l (value_at l (ascent - 1)) (length l - 1)

-- The value before the ascent and the one at the other place are exchanged, and the values from the ascent on are reversed.
unfoldable pub changed : List ℕ → ℕ → ℕ → List ℕ
changed l ascent other =
    take (ascent - 1) l ++ (value_at l other ∷ reverse (set (drop ascent l) (other - ascent) (value_at l (ascent - 1))))

-- The values of the next permutation, by Narayana's method, which is Knuth's Algorithm L. That it is the least one above is a theorem
-- (specs/SmallLists).
unfoldable pub successor : List ℕ → List ℕ
successor l = changed l (ascent_of l) (exchange_of l (ascent_of l))

-- whether each value is below the one before it
unfoldable pub falls : List ℕ → Bool
falls [] = true
falls (v ∷ []) = true
falls (v ∷ w ∷ l) = ltb w v && falls (w ∷ l)

-- the most places of a list whose next one is given
abbrev pub max_places : ℕ
max_places = 7

-- 17: "n above 7, with n"
abbrev pub size_test : ℕ → Test
size_test n = test 17 (ltb max_places n) n

-- 18: "the permutation that falls everywhere, place 0"
abbrev pub last_test : List ℕ → Test
last_test l = test 18 (falls l) 0

-- after tests 1 to 6: 17, then 8 of both tables with n, then 18
abbrev pub later_tests : ℕ → Runs → List ℕ → List ℕ → List Test
later_tests n r to_starts to_images = size_test n ∷ short_test n (to_starts ∷ to_images ∷ []) ∷ last_test (values_of n r) ∷ []

abbrev pub next_tests : ℕ → Runs → List ℕ → List ℕ → List Test
next_tests n r to_starts to_images = check_tests n r ++ later_tests n r to_starts to_images

-- the next permutation in maximal runs
unfoldable pub next_runs : ℕ → Runs → Runs
next_runs n r = maximal_runs n (value_at (successor (values_of n r)))

unfoldable pub next_of : ℕ → Runs → List ℕ → List ℕ → Outcome Runs
next_of n r to_starts to_images = judge (next_tests n r to_starts to_images) (next_runs n r)

-- what `next_list` promises: it answers the next list's run count
abbrev pub NextListed : ℕ → Runs → List ℕ → List ℕ → List ℕ → List ℕ → Result ℕ Refusal → Type 0
NextListed n r to_starts to_images = WritesList says count_of (next_of n r to_starts to_images) to_starts to_images
