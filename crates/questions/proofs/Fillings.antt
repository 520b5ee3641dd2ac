-- The loop that fills in. After j turns the first j records are filled in, and the pass can go on from the interval of the
-- last of them; so both loops together come to what is promised.
use Prim.Native.Nat.{ℕ, zero, suc, ◌^◌, ◌<◌}
use mathlib.Core.Path.{◌≡◌, refl, ap, ◌∙◌}
use mathlib.Core.List.{List, [], ◌∷◌, map}
use native.Mathlib.Nat.{not-suc-le-zero, le_of_suc-le-suc}
use lib.ListN.{length, get_or, set}
use Rattle.std.specs.Prelude.{Ok, Err}
use Rattle.outcomes.specs.Outcome.{done}
use Rattle.tables.specs.Tables.{Links, Tables}
use Rattle.tables.specs.Parts.{ShapedLinks}
use Rattle.walks.specs.Move.{found_at}
use Rattle.walks.specs.Parts.{Movable}
use Rattle.walks.proofs.Steps.{movable}
use Rattle.walks.proofs.Finding.{found_on, found_first, found_below, found_located}
use Rattle.questions.specs.declared.Question.{Question}
use Rattle.questions.specs.declared.Unanswered.{Unanswered}
use Rattle.questions.specs.declared.Unanswered.TheVariants.{PlaceOrder, Refused}
use Rattle.questions.specs.Questions.{unanswered_says, answered_says, places_of, place_at, answers_of, filled_in, records_after, Answers}
use Rattle.questions.specs.Turns.{Placed}
use Rattle.questions.proofs.Standings.{blank, place_at_lem, length_places, verdict_says, verdict_at}
use Rattle.questions.proofs.Clearing.{in_order, Clear, clear}

-- the first j records by f
module _ (f : Question → Question) where
  unfoldable pub up_to : ℕ → List Question → List Question
  up_to zero qs = qs
  up_to (suc j) [] = []
  up_to (suc j) (q ∷ qs) = f q ∷ up_to j qs

  pub up_none : (qs : List Question) → up_to 0 qs ≡ qs
  unfolding up_to
  up_none qs = refl

  pub length_up : (j : ℕ) (qs : List Question) → length (up_to j qs) ≡ length qs
  unfolding up_to
  length_up zero qs = refl
  length_up (suc j) [] = refl
  length_up (suc j) (q ∷ qs) = ap suc (length_up j qs)

  -- record j is as it was
  pub at_up : (j : ℕ) (qs : List Question) → get_or (up_to j qs) j blank ≡ get_or qs j blank
  unfolding up_to
  at_up zero qs = refl
  at_up (suc j) [] = refl
  at_up (suc j) (q ∷ qs) = at_up j qs

  -- a turn
  pub set_up : (j : ℕ) (qs : List Question) → j < length qs → set (up_to j qs) j (f (get_or qs j blank)) ≡ up_to (suc j) qs
  unfolding up_to
  set_up zero [] h = absurd (not-suc-le-zero h)
  set_up zero (q ∷ qs) h = refl
  set_up (suc j) [] h = absurd (not-suc-le-zero h)
  set_up (suc j) (q ∷ qs) h = ap (λ (l : List Question). f q ∷ l) (set_up j qs (le_of_suc-le-suc h))

  up_all : (qs : List Question) → up_to (length qs) qs ≡ map f qs
  unfolding up_to
  up_all [] = refl
  up_all (q ∷ qs) = ap (λ (l : List Question). f q ∷ l) (up_all qs)

-- the interval that the pass goes on from after j turns
abbrev pub from_at : Links → List Question → ℕ → ℕ
from_at k qs zero = 0
from_at k qs (suc j) = (filled_in k (get_or qs j blank)).interval

-- where the call is done, each record can be filled in, from the interval of the one before on
module _ (n : ℕ) (t : Tables) (qs : List Question) (c : ℕ) (e : done c ≡ answers_of n t (places_of qs)) (m : n < 2 ^ 32) where
  abbrev ps : List ℕ
  ps = places_of qs

  abbrev k : Links
  k = t.links

  o : Clear n t ps
  o = clear n t ps c e

  l : ShapedLinks k
  l = o.shape.linked

  moves_at : (j : ℕ) → j < length ps → Movable k (found_at k (place_at ps j)) (place_at ps j)
  moves_at j h =
      let p = place_at ps j in
      movable n k (found_at k p) p m (found_located n k p l (o.found j h)) (o.whole j h)

  placed : (j : ℕ) → j < length ps → Placed k (from_at k qs j) (place_at ps j)
  unfolding filled_in
  placed zero h =
      record { pass = record { index = l.some; on = found_first k (place_at ps 0) }; move = moves_at 0 h }
  placed (suc j) h = rw (place_at_lem qs j) (record {
    pass = record {
      index = found_below n k (place_at ps j) l;
      on = found_on k (place_at ps j) (place_at ps (suc j)) (in_order ps o.order j h);
    };
    move = moves_at (suc j) h;
  })

  pub placed_at : (j : ℕ) → j < length qs → Placed k (from_at k qs j) (get_or qs j blank).place
  placed_at j h = rw (place_at_lem qs j) (placed j (rw (← length_places qs) at h))

-- what the call comes to is what is promised
module _ (n : ℕ) (t : Tables) (qs : List Question) where
  pub passed_says : (c : ℕ) → Ok c ≡ verdict_at n t qs (length qs) → done c ≡ answers_of n t (places_of qs)
  passed_says c e = ap answered_says e ∙ verdict_says n t qs

  pub answers_filled : (c : ℕ) → Ok c ≡ verdict_at n t qs (length qs) → Answers n t qs (Ok c) (up_to (filled_in t.links) (length qs) qs)
  unfolding records_after
  answers_filled c e =
      let f = passed_says c e in
      record { says = f; records = rw (← f) (up_all (filled_in t.links) qs) }

  pub answers_kept : (u : Unanswered) → Err u ≡ verdict_at n t qs (length qs) → Answers n t qs (Err u) qs
  unfolding records_after
  answers_kept u e =
      let f : unanswered_says u ≡ answers_of n t (places_of qs) = ap answered_says e ∙ verdict_says n t qs in
      record { says = f; records = rw (← f) (kept u) }
    where
      kept : (u : Unanswered) → qs ≡ records_after (filled_in t.links) (unanswered_says u) qs
      kept (PlaceOrder i) = refl
      kept (Refused r) = refl
