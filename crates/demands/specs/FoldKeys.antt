-- The keys of folds that are proved about the definitions (document 02, A.8), beside those of specs/Keys.
use Rattle.std.specs.Prelude.{List, [], map, refl, ℕ, ◌++◌, ◌∷◌, ◌≡◌}
use Rattle.outcomes.specs.Outcome.{and_then, filled, judge, map_done}
use Rattle.runs.specs.Runs.{Runs, count_of, runs}
use Rattle.runs.specs.Check.{list_tests, out_of_range, overlap, overlaps, tests_up_to, unmatched, unordered}
use Rattle.folds.specs.Fold.{begins, folded, heads}
use Rattle.folds.specs.Lent.{fold_of}
use Rattle.demands.specs.Keys.{Key, computed, example, given, halves, listed_tables, nines, psi, row_from, ◌is◌}

-- the run count of the fold, and both lent tables after the call
abbrev pub fold_row : ℕ → Runs → List ℕ → List ℕ → List ℕ
fold_row n r a b =
    let o = fold_of n r a b in
    row_from (λ q. count_of q ∷ []) o ++ (filled (λ q. q.starts) o a ++ filled (λ q. q.images) o b)

abbrev pub fold_keys : List Key
fold_keys =
    -- the example, which is its own; its balanced list; the identity in four runs, and a table of 3 for it, though 1 would do;
    -- two chains; ψ, whose runs at 22 and 25 follow on; the most places; and 6 before 8
    (fold_row 16 example (nines 5) (nines 5) is 0 ∷ 5 ∷ (example.starts ++ example.images)) ∷
    (fold_row 16 listed_tables.links.list (nines 6) (nines 7) is 0 ∷ 5 ∷ (example.starts ++ (9 ∷ example.images) ++ (9 ∷ 9 ∷ []))) ∷
    (fold_row 4 (runs (0 ∷ 1 ∷ 2 ∷ 3 ∷ []) (0 ∷ 1 ∷ 2 ∷ 3 ∷ [])) (nines 4) (nines 4) is 0 ∷ 1 ∷ 0 ∷ 9 ∷ 9 ∷ 9 ∷ 0 ∷ 9 ∷ 9 ∷ 9 ∷ []) ∷
    (fold_row 4 (runs (0 ∷ 1 ∷ 2 ∷ 3 ∷ []) (0 ∷ 1 ∷ 2 ∷ 3 ∷ [])) (nines 4) (nines 3) is 8 ∷ 4 ∷ nines 7) ∷
    (fold_row 6 (runs (0 ∷ 1 ∷ 2 ∷ 3 ∷ 5 ∷ []) (4 ∷ 5 ∷ 0 ∷ 1 ∷ 3 ∷ [])) (nines 5) (nines 5) is
    0 ∷ 2 ∷ 0 ∷ 2 ∷ 9 ∷ 9 ∷ 9 ∷ 4 ∷ 0 ∷ 9 ∷ 9 ∷ 9 ∷ []) ∷
    (fold_row 45 psi (nines 13) (nines 13) is
    0 ∷ 12 ∷ 0 ∷ 1 ∷ 5 ∷ 6 ∷ 12 ∷ 17 ∷ 19 ∷ 22 ∷ 32 ∷ 34 ∷ 42 ∷ 43 ∷ 9 ∷
    11 ∷ 28 ∷ 2 ∷ 22 ∷ 32 ∷ 38 ∷ 42 ∷ 12 ∷ 0 ∷ 3 ∷ 37 ∷ 40 ∷ 9 ∷ []) ∷
    (fold_row 4294967295 (runs (0 ∷ 1 ∷ 4294967294 ∷ []) (1 ∷ 2 ∷ 0 ∷ [])) (nines 3) (nines 3) is
    0 ∷ 2 ∷ 0 ∷ 4294967294 ∷ 9 ∷ 1 ∷ 0 ∷ 9 ∷ []) ∷
    (fold_row 4 (halves (0 ∷ 1 ∷ [])) [] [] is 6 ∷ 0 ∷ []) ∷
    []

pub fold_keys_hold : map computed fold_keys ≡ map given fold_keys
unfolding judge map_done and_then unmatched unordered out_of_range overlap overlaps list_tests tests_up_to begins heads folded fold_of filled
fold_keys_hold = refl
