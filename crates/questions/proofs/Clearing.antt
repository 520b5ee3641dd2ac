-- What a call that is done shows of its tables and of its records: none of them meets a test.
use Prim.Native.Nat.{ℕ, suc, ◌-◌, ◌≤◌, ◌<◌}
use mathlib.Core.Path.{◌≡◌, refl}
use mathlib.Core.Bool.{false}
use mathlib.Core.List.{List}
use native.Mathlib.Omega.{arith}
use lib.ListN.{length}
use lib.Dec.{ltb}
use borrow.Author.Tests.{ltb-false}
use Rattle.outcomes.specs.Outcome.{done}
use Rattle.outcomes.specs.Search.{any_below}
use Rattle.outcomes.proofs.Judging.{judge_first}
use Rattle.outcomes.proofs.Searches.{any_false}
use Rattle.tables.specs.Tables.{Tables, shape_test, all_lengths, broken}
use Rattle.tables.specs.Parts.{Shaped, Measured}
use Rattle.tables.proofs.Passing.{shaped}
use Rattle.walks.specs.Move.{found_at, unfindable}
use Rattle.questions.specs.Questions.{place_at, falls_at, unfindable_at, broken_at, order_test, find_test, move_test, answers_of}

-- places none of which falls, by index
pub in_order : (ps : List ℕ) → any_below (falls_at ps) (length ps) ≡ false
    → (j : ℕ) → suc j < length ps → place_at ps j ≤ place_at ps (suc j)
unfolding falls_at
in_order ps e j h =
    let z : suc j - 1 ≡ j = omega arith in
    let f : ltb (place_at ps (suc j)) (place_at ps (suc j - 1)) ≡ false = any_false (falls_at ps) (length ps) (suc j) e h in
    ltb-false _ _ (rw z at f)

pub record Clear (n : ℕ) (t : Tables) (ps : List ℕ) : Type 0 where
  pub shape : Shaped n t
  pub right : Measured n t
  pub order : any_below (falls_at ps) (length ps) ≡ false
  pub found : (j : ℕ) → j < length ps → unfindable n t.links.list.starts (place_at ps j) ≡ false
  pub whole : (j : ℕ) → j < length ps → broken n t.links (found_at t.links (place_at ps j)) (place_at ps j) ≡ false

pub clear : (n : ℕ) (t : Tables) (ps : List ℕ) (c : ℕ) → done c ≡ answers_of n t ps → Clear n t ps
unfolding answers_of unfindable_at broken_at
clear n t ps c e =
    let k = length ps in
    let a = judge_first (shape_test n t) _ _ c e in
    let l = judge_first (all_lengths n t) _ _ c a.1 in
    let f = judge_first (order_test ps) _ _ c l.1 in
    let g = judge_first (find_test n t.links ps) _ _ c f.1 in
    let b = judge_first (move_test n t.links ps) _ _ c g.1 in
    record {
      shape = shaped n t _ refl a.0;
      right = l.0;
      order = f.0;
      found = λ j h. any_false (unfindable_at n t.links ps) k j g.0 h;
      whole = λ j h. any_false (broken_at n t.links ps) k j b.0 h;
    }
