-- One pass finds all intervals and counts as many starts as the answer says, on any tables: where places do not fall, what was
-- passed for one place is passed for the next, so the pass goes on (walks/proofs/Finding, `found_on`) and never comes past a
-- start twice.
use Prim.Native.Nat.{ℕ, suc, ◌+◌, ◌≤◌, ◌<◌, suc-le-suc}
use mathlib.Core.Path.{◌≡◌, refl, sym, ap, ◌∙◌}
use mathlib.Core.Bool.{false}
use mathlib.Core.List.{List, [], ◌∷◌, map}
use native.Mathlib.Omega.{arith}
use lib.ListN.{length}
use Rattle.std.specs.Prelude.{Result}
use Rattle.outcomes.specs.Outcome.{Outcome, done}
use Rattle.outcomes.specs.Search.{any_below}
use Rattle.outcomes.proofs.Judging.{judge_done}
use Rattle.tables.specs.Tables.{Links, Tables}
use Rattle.walks.specs.Move.{found_at}
use Rattle.walks.proofs.Finding.{found_on, found_first}
use Rattle.questions.specs.Questions.{answered_says, places_of, place_at, falls_at, question_tests, found_last, answers_of, filled_in, records_after, Answers}
use Rattle.questions.specs.Agree.{stops, passed_over, last_interval, OnePass}
use Rattle.questions.specs.declared.Question.{Question}
use Rattle.questions.specs.declared.Unanswered.{Unanswered}
use Rattle.questions.proofs.Clearing.{in_order, clear}

module _ (k : Links) where
  -- from the interval found for a place, and the places after it
  goes_on : (p : ℕ) (ps : List ℕ) → ((i : ℕ) → suc i < length (p ∷ ps) → place_at (p ∷ ps) i ≤ place_at (p ∷ ps) (suc i))
      → found_at k p + passed_over k.list.starts (found_at k p) ps ≡ found_last k (p ∷ ps) (length (p ∷ ps))
  unfolding passed_over
  goes_on p [] h = omega arith
  goes_on p (q ∷ ps) h =
      let e = found_on k p q (h 0 (omega arith)) in
      let f = ap (λ (x : ℕ). x + passed_over k.list.starts x ps) e in
      omega (arith, f, goes_on q ps (λ i l. h (suc i) (suc-le-suc l)))

  pub one_pass : (ps : List ℕ) → any_below (falls_at ps) (length ps) ≡ false
      → passed_over k.list.starts 0 ps ≡ found_last k ps (length ps)
  unfolding passed_over
  one_pass [] e = refl
  one_pass (p ∷ ps) e =
      let f = ap (λ (x : ℕ). x + passed_over k.list.starts x ps) (found_first k p) in
      omega (arith, f, goes_on p ps (in_order (p ∷ ps) e))

  -- where it comes to for each place is the interval found for it
  stops_on : (p : ℕ) (ps : List ℕ) → ((i : ℕ) → suc i < length (p ∷ ps) → place_at (p ∷ ps) i ≤ place_at (p ∷ ps) (suc i))
      → stops k.list.starts (found_at k p) ps ≡ map (found_at k) ps
  unfolding stops
  stops_on p [] h = refl
  stops_on p (q ∷ ps) h =
      let e = found_on k p q (h 0 (omega arith)) in
      rw e (ap (λ (l : List ℕ). found_at k q ∷ l) (stops_on q ps (λ i l. h (suc i) (suc-le-suc l))))

  pub pass_stops : (ps : List ℕ) → any_below (falls_at ps) (length ps) ≡ false
      → stops k.list.starts 0 ps ≡ map (found_at k) ps
  unfolding stops
  pass_stops [] e = refl
  pass_stops (p ∷ ps) e =
      rw (found_first k p) (ap (λ (l : List ℕ). found_at k p ∷ l) (stops_on p ps (in_order (p ∷ ps) e)))

  -- the records that are filled in have these intervals
  intervals_are : (qs : List Question) → map (λ q. q.interval) (map (filled_in k) qs) ≡ map (found_at k) (places_of qs)
  unfolding filled_in
  intervals_are [] = refl
  intervals_are (q ∷ qs) = ap (λ (l : List ℕ). found_at k q.place ∷ l) (intervals_are qs)

  last_is : (q : Question) (qs : List Question)
      → last_interval (found_at k q.place) (map (filled_in k) qs) ≡ found_last k (places_of (q ∷ qs)) (length (places_of (q ∷ qs)))
  unfolding last_interval filled_in
  last_is q [] = refl
  last_is q (r ∷ qs) = last_is r qs

  last_found : (qs : List Question) → last_interval 0 (map (filled_in k) qs) ≡ found_last k (places_of qs) (length (places_of qs))
  unfolding last_interval filled_in
  last_found [] = refl
  last_found (q ∷ qs) = last_is q qs

-- so it is for a call that is done
pub passes_once : (n : ℕ) (t : Tables) (qs : List Question) (a : Result ℕ Unanswered) (left : List Question) → Answers n t qs a left
    → (c : ℕ) → answered_says a ≡ done c → OnePass t.links (places_of qs) left c
unfolding answers_of records_after
passes_once n t qs a left w c e =
    let ps = places_of qs in
    let k = t.links in
    let f : done c ≡ answers_of n t ps = sym e ∙ w.says in
    let o = (clear n t ps c f).order in
    let g = judge_done (question_tests n t ps) (found_last k ps (length ps)) c (sym f) in
    let l : left ≡ map (filled_in k) qs = w.records ∙ ap (λ (o : Outcome ℕ). records_after (filled_in k) o qs) (sym f) in
    record {
      intervals = ap (map (λ q. q.interval)) l ∙ intervals_are k qs ∙ sym (pass_stops k ps o);
      counted = one_pass k ps o ∙ g;
      last = ap (last_interval 0) l ∙ last_found k qs ∙ g;
    }
