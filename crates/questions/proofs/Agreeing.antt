-- Where the call is done, each record agrees with find and move done alone, on any tables. Of a move's tests only 12 of the holder
-- is left to be made: all lengths are right, and 10, and 11 by the interval, cannot arise where find gave the interval
-- (walks/proofs/Finding, `found_located`).
use Prim.Native.Nat.{ℕ, suc, ◌<◌, suc-le-suc}
use mathlib.Core.Path.{◌≡◌, refl, sym, ◌∙◌}
use mathlib.Core.Bool.{Bool, true, false}
use mathlib.Core.Logic.{◌⊎◌, inl, inr}
use mathlib.Core.List.{List, [], ◌∷◌, map}
use native.Mathlib.Omega.{arith}
use lib.ListN.{length}
use Rattle.std.specs.Prelude.{Result}
use Rattle.order.specs.Lists.{All}
use Rattle.order.proofs.Laws.{all_map}
use Rattle.outcomes.specs.Outcome.{done, refused, Test, judge, ◌then◌else◌}
use Rattle.outcomes.specs.Search.{first_below}
use Rattle.outcomes.proofs.Judging.{done_refused, judge_past, judge_met}
use Rattle.outcomes.proofs.Searches.{first_true, any_false}
use borrow.Author.Tests.{ltb-true}
use Rattle.tables.specs.Tables.{Links, Tables, shape_test, all_lengths}
use Rattle.tables.specs.Parts.{Shaped, Measured}
use Rattle.tables.proofs.Passing.{shaped}
use Rattle.walks.specs.Move.{found_at, find_of, step_of, move_of, ReadsTo, LiesIn}
use Rattle.walks.proofs.Steps.{find_length, find_out, find_at}
use Rattle.walks.proofs.Finding.{move_broken, move_on}
use Rattle.walks.proofs.Moves.{move_reads}
use Rattle.walks.proofs.Distances.{move_lies}
use Rattle.questions.specs.declared.Question.{Question}
use Rattle.questions.specs.declared.Unanswered.{Unanswered}
use Rattle.questions.specs.Questions.{answered_says, places_of, place_at, unfindable_at, broken_at, order_test, find_test, move_test, found_last, answers_of, filled_in, records_after, Answers}
use Rattle.questions.specs.Agree.{Agrees}
use Rattle.questions.proofs.Clearing.{clear}

-- find and move, done alone for the place at index j
module _ (n : ℕ) (t : Tables) (ps : List ℕ) (c : ℕ) (e : done c ≡ answers_of n t ps) (j : ℕ) (h : j < length ps) where
  abbrev p : ℕ
  p = place_at ps j

  abbrev y : ℕ
  y = found_at t.links p

  pub finds : find_of n t p ≡ done y
  finds = let o = clear n t ps c e in sym (find_at n t p o.shape o.right (o.found j h) y refl)

  pub moves : move_of n t y p ≡ done (step_of t.links y p)
  moves = let o = clear n t ps c e in sym (move_on n t p o.shape o.right (o.found j h) (o.whole j h))

-- Where a call is refused with 11, so is find alone for the place given, which is a record's. Where it is refused with 12, so is find
-- alone for any place, because a length is wrong; or else a move alone from a record's place and the interval given, which find
-- gives for it.
module _ (n : ℕ) (t : Tables) (ps : List ℕ) where
  abbrev k : Links
  k = t.links

  abbrev last : ℕ
  last = found_last k ps (length ps)

  -- the tests after those of the tables alone
  abbrev record_tests : List Test
  record_tests = order_test ps ∷ find_test n k ps ∷ move_test n k ps ∷ []

  past_shape : (i p : ℕ) → (9 ≡ i → ⊥) → answers_of n t ps ≡ refused i p
      → Shaped n t × (judge (all_lengths n t ∷ record_tests) last ≡ refused i p)
  unfolding answers_of
  past_shape i p h e = let a = judge_past (shape_test n t) _ last i p h e in (shaped n t _ refl a.0, a.1)

  none_after : (i p : ℕ) → judge [] last ≡ refused i p → ⊥
  unfolding judge
  none_after i p e = done_refused last i p e

  not_moved : (p : ℕ) → judge (move_test n k ps ∷ []) last ≡ refused 11 p → ⊥
  not_moved p e = none_after 11 p (judge_past (move_test n k ps) [] last 11 p (λ q. omega arith) e).1

  pub unfound : (p : ℕ) → answers_of n t ps ≡ refused 11 p
      → (j : ℕ) × (j < length ps) × (place_at ps j ≡ p) × (find_of n t p ≡ refused 11 p)
  unfolding unfindable_at
  unfound p e =
      let s = past_shape 11 p (λ q. omega arith) e in
      let r = judge_past (all_lengths n t) _ last 11 p (λ q. omega arith) s.1 in
      let o = judge_past (order_test ps) _ last 11 p (λ q. omega arith) r.1 in
      let m = judge_met (find_test n k ps) _ last 11 p (not_moved p) o.1 in
      let j = first_below (unfindable_at n k ps) (length ps) in
      let l = ltb-true j (length ps) m.0 in
      let u = first_true (unfindable_at n k ps) (length ps) l in
      (j, l, m.1, rw (← m.1) (sym (find_out n t (place_at ps j) s.0 r.0 u)))

  -- x is the interval found for a record's place, and a move from there is refused
  abbrev MoveRefused : ℕ → Type 0
  MoveRefused x =
      (j : ℕ) × (j < length ps) × (find_of n t (place_at ps j) ≡ done x) × (move_of n t x (place_at ps j) ≡ refused 12 x)

  move_refused : Shaped n t → Measured n t → (x : ℕ) → judge record_tests last ≡ refused 12 x → MoveRefused x
  unfolding unfindable_at broken_at
  move_refused s r x e =
      let o = judge_past (order_test ps) _ last 12 x (λ q. omega arith) e in
      let a = judge_past (find_test n k ps) _ last 12 x (λ q. omega arith) o.1 in
      let m = judge_met (move_test n k ps) [] last 12 x (none_after 12 x) a.1 in
      let j = first_below (broken_at n k ps) (length ps) in
      let l = ltb-true j (length ps) m.0 in
      let p = place_at ps j in
      let u = any_false (unfindable_at n k ps) (length ps) j a.0 l in
      let b = first_true (broken_at n k ps) (length ps) l in
      (j, l, sym (find_at n t p s r u x (sym m.1)), rw (← m.1) (sym (move_broken n t p s r u b)))

  pub unmoved : (x : ℕ) → answers_of n t ps ≡ refused 12 x → ((p : ℕ) → find_of n t p ≡ refused 12 x) ⊎ MoveRefused x
  unfolding judge
  unmoved x e = go (all_lengths n t).applies refl s.1
    where
      s : Shaped n t × (judge (all_lengths n t ∷ record_tests) last ≡ refused 12 x)
      s = past_shape 12 x (λ q. omega arith) e

      go : (b : Bool) → (all_lengths n t).applies ≡ b
          → (b then refused 12 (all_lengths n t).place else judge record_tests last) ≡ refused 12 x
          → ((p : ℕ) → find_of n t p ≡ refused 12 x) ⊎ MoveRefused x
      go true m f =
          let q : x ≡ (all_lengths n t).place = cc in
          inl (λ p. sym (find_length n t p s.0 x q (rw q (ltb-true _ _ m))))
      go false m f = inr (move_refused s.0 m x f)

-- what holds of the place at each index holds of each record's place
pub each_place : (P : ℕ → Type 0) (qs : List Question) → ((j : ℕ) → j < length (places_of qs) → P (place_at (places_of qs) j))
    → All (λ q. P q.place) qs
each_place P [] h = tt
each_place P (q ∷ qs) h = (h 0 (omega arith), each_place P qs (λ j l. h (suc j) (suc-le-suc l)))

-- and of the records made of them
pub each_made : (P Q : Question → Type 0) (f : Question → Question) → ((q : Question) → P q → Q (f q))
    → (qs : List Question) → All P qs → All Q (map f qs)
each_made P Q f h [] a = tt
each_made P Q f h (q ∷ qs) a = (h q a.0, each_made P Q f h qs a.1)

module _ (n : ℕ) (t : Tables) where
  -- both, for a place: they give what its record is filled in with
  abbrev DoneAlone : ℕ → Type 0
  DoneAlone p =
      let x = found_at t.links p in (find_of n t p ≡ done x) × (move_of n t x p ≡ done (step_of t.links x p))

  filled_agrees : (q : Question) → DoneAlone q.place → Agrees n t (filled_in t.links q)
  unfolding filled_in
  filled_agrees q d = record { found = d.0; moved = d.1 }

  pub records_agree : (qs : List Question) (a : Result ℕ Unanswered) (left : List Question) → Answers n t qs a left
      → (c : ℕ) → answered_says a ≡ done c → All (Agrees n t) left
  unfolding records_after
  records_agree qs a left w c e =
      let ps = places_of qs in
      let f : done c ≡ answers_of n t ps = sym e ∙ w.says in
      let d = each_place DoneAlone qs (λ j h. (finds n t ps c f j h, moves n t ps c f j h)) in
      rw (w.records, ← f) (each_made (λ q. DoneAlone q.place) (Agrees n t) (filled_in t.links) filled_agrees qs d)

  -- so a record has the distance and the count of a move alone
  pub records_lie : (qs : List Question) (a : Result ℕ Unanswered) (left : List Question) → Answers n t qs a left
      → (c : ℕ) → answered_says a ≡ done c → All (λ q. LiesIn n t.links q.to_interval q.to_place q.distance) left
  records_lie qs a left w c e =
      all_map (Agrees n t) _ left (λ q g. move_lies n t q.interval q.place _ g.moved) (records_agree qs a left w c e)

  pub records_read : (qs : List Question) (a : Result ℕ Unanswered) (left : List Question) → Answers n t qs a left
      → (c : ℕ) → answered_says a ≡ done c → All (λ q. ReadsTo t.links q.interval q.to_interval q.count) left
  records_read qs a left w c e =
      all_map (Agrees n t) _ left (λ q g. move_reads n t q.interval q.place _ g.moved) (records_agree qs a left w c e)
