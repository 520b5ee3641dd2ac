-- A whole list of calls is served as the plain walk answers it, if each single call is (the section's hypotheses): by
-- induction over the calls, since each leaves the place and the interval that has it.
use Prim.Native.Nat.{ℕ, ◌≤◌, ◌<◌}
use Rattle.std.specs.Prelude.{Result}
use Rattle.outcomes.specs.Refusal.{says}
use Rattle.outcomes.specs.declared.Refusal.{Refusal}
use mathlib.Core.Path.{◌≡◌, refl, ap, ◌∙◌}
use mathlib.Core.Bool.{Bool, true, false}
use mathlib.Core.List.{List, [], ◌∷◌, map}
use lib.Dec.{ltb}
use borrow.Author.Tests.{ltb-true, ltb-false, lt-leb, le-leb}
use Rattle.outcomes.specs.Outcome.{Outcome, done, refused, judge}
use Rattle.runs.specs.Runs.{Runs, run_at, map_of}
use Rattle.tables.specs.Tables.{Tables}
use Rattle.walks.specs.Move.{find_of, move_of, moves_of}
use Rattle.walks.specs.declared.Step.{Step}
use Rattle.demands.specs.Calls.{Call, find, move, moves, Reply, found, moved}
use Rattle.walks.specs.Plain.{plain_move, plain_moves}
use Rattle.walks.proofs.PlainMoves.{moves_interval, moves_below}
use Rattle.demands.specs.PlainWalk.{plain_find, plain_walk}
use Rattle.demands.specs.Served.{served, place_after, interval_after, place_found, interval_found, Made, find_made, move_made, moves_made, call_of, reply_of, InTurn}

pub find_below : (n : ℕ) (r t : Runs) (i : ℕ) → i < n → plain_find n r t i ≡ done (run_at n t i)
unfolding plain_find judge
find_below n r t i h = simp (lt-leb _ _ h)

pub find_beyond : (n : ℕ) (r t : Runs) (i : ℕ) → n ≤ i → plain_find n r t i ≡ refused 11 i
unfolding plain_find judge
find_beyond n r t i h = simp (le-leb _ _ h)

module _ (n : ℕ) (r t : Runs) (τ : Tables)
    (found_at : (i : ℕ) → i < n → find_of n τ i ≡ done (run_at n t i))
    (not_found : (i : ℕ) → n ≤ i → find_of n τ i ≡ refused 11 i)
    (move_to : (p : ℕ) → p < n → move_of n τ (run_at n t p) p ≡ done (plain_move n r t p))
    (moves_to : (m p : ℕ) → p < n → moves_of n τ m (run_at n t p) p ≡ done (plain_moves n r t m p))
    (below : (p : ℕ) → p < n → map_of n r p < n) where
  one_more : (cs : List Call) (p : ℕ) → p < n → ((q : ℕ) → q < n → served n τ q (run_at n t q) cs ≡ plain_walk n r t q cs)
      → served n τ (plain_move n r t p).place (plain_move n r t p).interval cs ≡ plain_walk n r t (plain_move n r t p).place cs
  unfolding plain_move
  one_more cs p h rest = rest (map_of n r p) (below p h)

  pub same_replies : (cs : List Call) (p : ℕ) → p < n → served n τ p (run_at n t p) cs ≡ plain_walk n r t p cs
  unfolding served plain_walk
  same_replies [] p h = refl
  same_replies (find i ∷ cs) p h = go (ltb i n) refl (same_replies cs)
    where
      go : (d : Bool) → ltb i n ≡ d → ((q : ℕ) → q < n → served n τ q (run_at n t q) cs ≡ plain_walk n r t q cs)
          → served n τ p (run_at n t p) (find i ∷ cs) ≡ plain_walk n r t p (find i ∷ cs)
      go true e rest =
          let l = ltb-true i n e in
          rw (found_at i l, find_below n r t i l, e) (ap (λ (rs : List Reply). found (done (run_at n t i)) ∷ rs) (rest i l))
      go false e rest =
          let l = ltb-false i n e in
          rw (not_found i l, find_beyond n r t i l, e) (ap (λ (rs : List Reply). found (refused 11 i) ∷ rs) (rest p h))
  same_replies (move ∷ cs) p h =
      rw (move_to p h) (ap (λ (rs : List Reply). moved (done (plain_move n r t p)) ∷ rs) (one_more cs p h (same_replies cs)))
  same_replies (moves m ∷ cs) p h =
      rw (moves_to m p h)
      (ap (λ (rs : List Reply). moved (done (plain_moves n r t m p)) ∷ rs)
      (rw (moves_interval n r t m p) (same_replies cs (plain_moves n r t m p).place (moves_below n r t below m p h))))

-- a move, or a repeated one, with the calls after it
moved_next : (n : ℕ) (t : Tables) (p x : ℕ) (a : Result Step Refusal) (ms : List Made)
    → map reply_of ms ≡ served n t (place_after (says a) p) (interval_after (says a) x) (map call_of ms)
    → {o : Outcome Step} → says a ≡ o
    → moved (says a) ∷ map reply_of ms ≡ moved o ∷ served n t (place_after o p) (interval_after o x) (map call_of ms)
moved_next n t p x a ms rest e =
    ap (λ (l : List Reply). moved (says a) ∷ l) rest
    ∙ ap (λ (o : Outcome Step). moved o ∷ served n t (place_after o p) (interval_after o x) (map call_of ms)) e

-- calls that meet their contracts are the calls served
pub turns_served : (n : ℕ) (t : Tables) (ms : List Made) (p x : ℕ) → InTurn n t p x ms
    → map reply_of ms ≡ served n t p x (map call_of ms)
unfolding served
turns_served n t [] p x c = refl
turns_served n t (find_made i a ∷ ms) p x c =
    ap (λ (l : List Reply). found (says a) ∷ l) (turns_served n t ms _ _ c.1)
    ∙ ap (λ (o : Outcome ℕ). found o ∷ served n t (place_found o i p) (interval_found o x) (map call_of ms)) c.0
turns_served n t (move_made a ∷ ms) p x c = moved_next n t p x a ms (turns_served n t ms _ _ c.1) c.0
turns_served n t (moves_made m a ∷ ms) p x c = moved_next n t p x a ms (turns_served n t ms _ _ c.1) c.0
