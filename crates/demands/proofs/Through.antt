-- Through the tables of a legal list t the walks give the function of any list r that has the same one: the walks on t's
-- own tables (walks/proofs/LegalTables), said as the plain walk says them.
use Prim.Native.Nat.{ℕ, zero, suc, ◌≤◌, ◌<◌}
use mathlib.Core.Path.{◌≡◌, refl, sym, ap, ◌∙◌}
use lib.ListN.{length}
use native.Mathlib.Omega.{arith}
use Rattle.outcomes.specs.Outcome.{done}
use Rattle.runs.specs.Runs.{Runs, count_of, run_at, map_of}
use Rattle.runs.specs.Legal.{Legal}
use Rattle.runs.proofs.Bijection.{map_below, map_injective, map_onto}
use Rattle.tables.specs.Tables.{tables_of, max_intervals}
use Rattle.tables.proofs.LegalShape.{legal_length}
use Rattle.walks.specs.Move.{move_of, counted_after}
use Rattle.preimages.specs.Inverse.{inverse_of}
use Rattle.walks.specs.declared.Step.{Step}
use Rattle.walks.proofs.LegalTables.{legal_find, legal_move, legal_moves}
use Rattle.preimages.proofs.LegalPreimages.{legal_inverse}
use Rattle.weights.proofs.LegalWeights.{legal_weight, legal_under}
use Rattle.questions.proofs.LegalQuestions.{legal_answers, legal_records}
use Rattle.bookmarks.specs.Bookmark.{fresh}
use Rattle.walks.specs.Plain.{plain_move, plain_moves}
use Rattle.walks.proofs.Moves.{move_count}
use Rattle.walks.proofs.PlainMoves.{move_same, moves_place, moves_below}
use Rattle.demands.specs.PlainWalk.{plain_trail}
use Rattle.demands.specs.Served.{served_trail}
use Rattle.demands.specs.Demands.{Through}
use Rattle.demands.proofs.Marking.{trail_end, mark_goes, fresh_trail, advancing_served}

module _ (n : ℕ) (r t : Runs) (c : Legal n t) (same : (p : ℕ) → p < n → map_of n t p ≡ map_of n r p) where
  steps_plain : (m p : ℕ) → p < n → plain_moves n t t m p ≡ plain_moves n r t m p
  unfolding plain_moves
  steps_plain zero p h = refl
  steps_plain (suc m) p h =
      let s = plain_moves n t t m p in
      ap (counted_after s.count) (move_same n r t s.place (same _ (moves_below n t t (map_below n t c) m p h)))
      ∙ ap (λ (u : Step). counted_after u.count (plain_move n r t u.place)) (steps_plain m p h)

pub through : (n : ℕ) (r t : Runs) → Legal n r → Legal n t → count_of t ≤ max_intervals → ((p : ℕ) → p < n → map_of n t p ≡ map_of n r p)
    → Through n r t
through n r t l c few same =
    let move_to : (p : ℕ) → p < n → move_of n (tables_of n t) (run_at n t p) p ≡ done (plain_move n r t p) =
    λ p h. legal_move n t c few p h ∙ ap done (move_same n r t p (same p h)) in
    let trail : (m p g : ℕ) → p < n → served_trail n (tables_of n t) m (fresh p (run_at n t p) g) ≡ plain_trail n r t m p 0 0 =
    fresh_trail n max_intervals r t (tables_of n t) move_to (map_below n r l)
    (λ p h. move_count n (tables_of n t) (run_at n t p) p (plain_move n r t p) (sym (move_to p h))) (omega arith) in
    record {
      lengths = legal_length n t c;
      find = legal_find n t c few;
      move = move_to;
      moves = λ m p h. (legal_moves n t c few m p h ∙ ap done (steps_plain n r t c same m p h), moves_place n r t m p);
      bookmark = mark_goes n r t (tables_of n t) move_to;
      trail = trail;
      advances = λ p g h ms a. advancing_served n (tables_of n t) ms _ a ∙ trail (length ms) p g h;
      trail_end = λ m p h. trail_end n r t p m h;
      inverse = λ p h. ap (inverse_of n (tables_of n t)) (sym (same p h)) ∙ legal_inverse n t c few p h;
      weighs = legal_weight n t c few;
      handed = legal_under n t c few;
      questions = legal_answers n t c few;
      records = legal_records n t c few r same;
      onto = map_onto n r l;
      inside = map_below n r l;
      one_to_one = map_injective n r l;
    }
