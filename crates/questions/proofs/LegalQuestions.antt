-- Through the tables of a legal list t, questions together give the function of any list r that has the same one. Its first
-- start is 0, so find's 11 is a place not below n, all lengths are right, and no interval is broken.
use Prim.Native.Nat.{ℕ, zero, suc, ◌≤◌, ◌<◌}
use mathlib.Core.Path.{◌≡◌, refl, sym, ap, ◌∙◌}
use mathlib.Core.Bool.{false, false≢true}
use mathlib.Core.Logic.{◌⊎◌, inl, inr}
use mathlib.Core.List.{List, [], ◌∷◌, map}
use native.Mathlib.Omega.{arith}
use lib.ListN.{length}
use lib.Dec.{leb}
use borrow.Author.Tests.{lt-leb, le-leb, leb-false}
use Rattle.order.specs.Lists.{All}
use Rattle.order.proofs.Laws.{lt_or_le}
use Rattle.outcomes.specs.Outcome.{Outcome, done, refused, judge}
use Rattle.outcomes.specs.Search.{any_below}
use Rattle.outcomes.proofs.Judging.{judge_first, judge_less}
use Rattle.outcomes.proofs.Searches.{any_false, any_none}
use Rattle.runs.specs.Runs.{Runs, count_of, run_at, map_of}
use Rattle.runs.specs.Legal.{Legal}
use Rattle.tables.specs.Tables.{links_of, tables_of, max_intervals}
use Rattle.tables.proofs.LegalShape.{shape, legal_lengths}
use Rattle.walks.specs.Move.{unfindable}
use Rattle.walks.specs.Plain.{plain_move}
use Rattle.walks.proofs.Steps.{far, findable}
use Rattle.walks.proofs.LegalTables.{legal_found, legal_step, legal_whole}
use Rattle.walks.proofs.PlainMoves.{move_same}
use Rattle.questions.specs.declared.Question.{Question}
use Rattle.questions.specs.Questions.{order_test, move_test, places_of, place_at, unfindable_at, broken_at, found_last, answers_of, question, filled_in, records_after}
use Rattle.questions.specs.Plain.{beyond, plain_last, range_test, plain_answers, plain_question}
use Rattle.questions.proofs.Agreeing.{each_place, each_made}

-- where the plain answer is no refusal, all places are below n
pub plain_below : (n : ℕ) (t : Runs) (ps : List ℕ) (c : ℕ) → done c ≡ plain_answers n t ps
    → (j : ℕ) → j < length ps → place_at ps j < n
unfolding plain_answers beyond
plain_below n t ps c e j h =
    let f = judge_first (order_test ps) _ _ c e in
    let g = judge_first (range_test n ps) _ _ c f.1 in
    leb-false _ _ (any_false (beyond n ps) (length ps) j g.0 h)

-- the records made by functions that agree at each of them
made_same : (P : Question → Type 0) (f g : Question → Question) → ((q : Question) → P q → f q ≡ g q)
    → (qs : List Question) → All P qs → map f qs ≡ map g qs
made_same P f g h [] a = refl
made_same P f g h (q ∷ qs) a = let e = h q a.0 in let r = made_same P f g h qs a.1 in λ i. e i ∷ r i

module _ (n : ℕ) (t : Runs) (c : Legal n t) (few : count_of t ≤ max_intervals) where
  unfindable_is : (ps : List ℕ) (i : ℕ) → unfindable_at n (links_of n t) ps i ≡ beyond n ps i
  unfolding unfindable_at beyond
  unfindable_is ps i = go (lt_or_le (place_at ps i) n)
    where
      go : (place_at ps i < n) ⊎ (n ≤ place_at ps i) → unfindable n t.starts (place_at ps i) ≡ leb n (place_at ps i)
      go (inl h) = findable n t.starts (place_at ps i) h (omega (arith, c.first)) ∙ sym (lt-leb _ _ h)
      go (inr h) = far n t.starts (place_at ps i) h ∙ sym (le-leb _ _ h)

  -- where all places are below n, no record is refused with 12, and the last one is found in the interval that has it
  module _ (ps : List ℕ) (below : (j : ℕ) → j < length ps → place_at ps j < n) where
    none_broken : any_below (broken_at n (links_of n t) ps) (length ps) ≡ false
    unfolding broken_at
    none_broken =
        any_none (broken_at n (links_of n t) ps) (length ps) (λ j h e.
        let p = place_at ps j in
        let w = rw (← legal_found n t c few p (below j h)) at (legal_whole n t c few p (below j h)) in
        false≢true (sym w ∙ e))

    last_is : (k : ℕ) → k ≡ length ps → found_last (links_of n t) ps k ≡ plain_last n t ps k
    last_is zero e = refl
    last_is (suc k) e = legal_found n t c few (place_at ps k) (below k (omega arith))

  move_passes : (ps : List ℕ) (b : ℕ) → plain_answers n t ps ≡ done b
      → judge (move_test n (links_of n t) ps ∷ []) (found_last (links_of n t) ps (length ps)) ≡ done (plain_last n t ps (length ps))
  unfolding judge
  move_passes ps b e =
      let l = plain_below n t ps b (sym e) in
      rw (none_broken ps l) (ap done (last_is ps l (length ps) refl))

  pub legal_answers : (ps : List ℕ) → answers_of n (tables_of n t) ps ≡ plain_answers n t ps
  unfolding answers_of plain_answers judge
  legal_answers ps =
      let s : unfindable_at n (links_of n t) ps ≡ beyond n ps = λ i j. unfindable_is ps j i in
      rw ((shape n t c few).fits, legal_lengths n t c, s)
      (judge_less (order_test ps ∷ range_test n ps ∷ []) (move_test n (links_of n t) ps ∷ []) _ _ (move_passes ps))

  module _ (r : Runs) (same : (p : ℕ) → p < n → map_of n t p ≡ map_of n r p) where
    filled_is : (q : Question) → q.place < n → filled_in (links_of n t) q ≡ plain_question n r t q
    unfolding filled_in plain_question
    filled_is q h =
        let p = q.place in
        rw (legal_found n t c few p h) (ap (question p (run_at n t p)) (legal_step n t c few p h ∙ move_same n r t p (same p h)))

    pub legal_records : (qs : List Question)
        → records_after (filled_in (links_of n t)) (answers_of n (tables_of n t) (places_of qs)) qs
        ≡ records_after (plain_question n r t) (plain_answers n t (places_of qs)) qs
    unfolding records_after
    legal_records qs =
        rw (legal_answers (places_of qs)) (go (plain_answers n t (places_of qs)) refl)
      where
        go : (o : Outcome ℕ) → o ≡ plain_answers n t (places_of qs)
            → records_after (filled_in (links_of n t)) o qs ≡ records_after (plain_question n r t) o qs
        go (done b) e =
            made_same (λ q. q.place < n) (filled_in (links_of n t)) (plain_question n r t) filled_is qs
            (each_place (λ p. p < n) qs (plain_below n t (places_of qs) b e))
        go (refused k p) e = refl

-- where the plain answer is no refusal, the count of each record is at most b if that of every plain move is
pub plain_counts : (n : ℕ) (r t : Runs) (b : ℕ) → ((p : ℕ) → p < n → (plain_move n r t p).count ≤ b)
    → (qs : List Question) (c : ℕ) → done c ≡ plain_answers n t (places_of qs)
    → All (λ q. q.count ≤ b) (map (plain_question n r t) qs)
unfolding plain_question
plain_counts n r t b most qs c e =
    each_made (λ q. q.place < n) (λ q. q.count ≤ b) (plain_question n r t) (λ q h. most q.place h) qs
    (each_place (λ p. p < n) qs (plain_below n t (places_of qs) c e))
