-- Find, move and repeated move as they were before there were lengths (document 02, A.7): through the first three columns, where an
-- interval ends where the next one starts. Wherever the lengths are right, the walks through four columns are these
-- (proofs/Linked), so that the permutation and the counts are those of the three.
use Rattle.std.specs.Prelude.{ℕ, zero, suc, Bool, ◌||◌, [], ◌∷◌, ltb, leb}
use Rattle.outcomes.specs.Outcome.{Outcome, Test, test, judge, map_done, and_then}
use Rattle.runs.specs.Runs.{start_of, end_of}
use Rattle.tables.specs.Tables.{Links, size_of, misshapen_by, index_test, broken_test}
use Rattle.walks.specs.Move.{found_at, unfindable, step_of, stay_at, counted_after}
use Rattle.walks.specs.declared.Step.{Step}

abbrev pub linked_shape : ℕ → Links → Test
linked_shape n k = test 9 (misshapen_by n (size_of k) (k.list.images ∷ k.holders ∷ [])) 0

-- 11 by the starts
unfoldable pub linked_outside : ℕ → Links → ℕ → ℕ → Bool
linked_outside n k x i = leb n i || (ltb i (start_of k.list x) || leb (end_of n k.list x) i)

unfoldable pub linked_find : ℕ → Links → ℕ → Outcome ℕ
linked_find n k i = judge (linked_shape n k ∷ test 11 (unfindable n k.list.starts i) i ∷ []) (found_at k i)

unfoldable pub linked_move : ℕ → Links → ℕ → ℕ → Outcome Step
linked_move n k x i =
    judge (linked_shape n k ∷ index_test k x ∷ test 11 (linked_outside n k x i) i ∷ broken_test n k x i ∷ []) (step_of k x i)

unfoldable pub linked_moves : ℕ → Links → ℕ → ℕ → ℕ → Outcome Step
linked_moves n k zero x i =
    judge (linked_shape n k ∷ index_test k x ∷ test 11 (linked_outside n k x i) i ∷ []) (stay_at k.list.starts x i)
linked_moves n k (suc m) x i =
    and_then (linked_moves n k m x i) (λ s. map_done (counted_after s.count) (linked_move n k s.interval s.place))
