-- What tests 1 to 8 and 19 come to, and what they say of a list that passes them.
use Prim.Native.Nat.{ℕ, ◌≤◌, ◌<◌}
use mathlib.Core.Path.{◌≡◌, refl, sym, ap, ◌∙◌}
use mathlib.Core.Bool.{Bool, true, false}
use mathlib.Core.List.{[], ◌∷◌}
use native.Mathlib.Omega.{arith}
use lib.Dec.{ltb}
use borrow.Author.Tests.{le-ltb, lt-ltb, ltb-true, ltb-false}
use Rattle.outcomes.specs.Outcome.{Outcome, done, refused, test, judge, and_then}
use Rattle.outcomes.proofs.Judging.{done_refused, judge_append, judge_number}
use Rattle.outcomes.specs.Degree.{no_degree, degree_test}
use Rattle.outcomes.proofs.Degrees.{degree_in, degree_passes}
use Rattle.runs.specs.Runs.{Runs, count_of}
use Rattle.runs.specs.Check.{max_runs, list_tests, tests_up_to, check_tests, check_of}
use Rattle.runs.specs.Legal.{Legal}
use Rattle.runs.proofs.Accepted.{accepted_legal}
use Rattle.plans.specs.Fitting.{least_from}
use Rattle.plans.specs.Working.{working_size, working_test, plan_tests, planned_of}
use Rattle.plans.specs.Plan.{fitting_test, sought_of}
use Rattle.plans.specs.Parts.{sized_of}

-- tests 7 and 8
module _ (d k room : ℕ) where
  pub sized_degree : no_degree d ≡ true → sized_of d k room ≡ refused 7 d
  unfolding sized_of judge
  sized_degree e = rw e

  pub sized_done : no_degree d ≡ false → working_size d k ≤ room → sized_of d k room ≡ done tt
  unfolding sized_of judge
  sized_done e f = rw (e, le-ltb room (working_size d k) f)

  pub sized_passed : sized_of d k room ≡ done tt → (2 ≤ d) × (d ≤ 64) × (working_size d k ≤ room)
  unfolding sized_of judge
  sized_passed e = let i = go (no_degree d) (ltb room (working_size d k)) e in
      ((degree_in d i.0).0, (degree_in d i.0).1, ltb-false room (working_size d k) i.1)
    where
      go : (a b : Bool) → judge (test 7 a d ∷ test 8 b (working_size d k) ∷ []) (tt {0}) ≡ done tt → (a ≡ false) × (b ≡ false)
      go true b e = absurd (done_refused tt 7 d (sym e))
      go false true e = absurd (done_refused tt 8 (working_size d k) (sym e))
      go false false e = (refl, refl)

-- what follows on an outcome that is known
module _ (o u : Outcome (Unit {0})) where
  then_passed : and_then o (λ _. u) ≡ done tt → (o ≡ done tt) × (u ≡ done tt)
  unfolding and_then
  then_passed = go o
    where
      go : (q : Outcome (Unit {0})) → and_then q (λ _. u) ≡ done tt → (q ≡ done tt) × (u ≡ done tt)
      go (done _) e = (refl, e)
      go (refused k p) e = absurd (done_refused tt k p (sym e))

-- tests 1 to 8
module _ (n : ℕ) (r : Runs) (d room : ℕ) where
  planned_is : planned_of n r d room ≡ and_then (check_of n r) (λ _. sized_of d (count_of r) room)
  unfolding planned_of sized_of
  planned_is = judge_append (check_tests n r) (degree_test d ∷ working_test d (count_of r) room ∷ []) tt tt

  pub planned_refused : (k p : ℕ) → refused k p ≡ check_of n r → refused k p ≡ planned_of n r d room
  unfolding and_then
  planned_refused k p e = sym (planned_is ∙ rw (← e))

  pub planned_accepted : check_of n r ≡ done tt → planned_of n r d room ≡ sized_of d (count_of r) room
  unfolding and_then
  planned_accepted a = planned_is ∙ rw a

  pub planned_passed : planned_of n r d room ≡ done tt → (check_of n r ≡ done tt) × (sized_of d (count_of r) room ≡ done tt)
  planned_passed e = then_passed (check_of n r) (sized_of d (count_of r) room) (sym planned_is ∙ e)

  pub planned_done : check_of n r ≡ done tt → 2 ≤ d → d ≤ 64 → working_size d (count_of r) ≤ room → planned_of n r d room ≡ done tt
  planned_done a low high h = planned_accepted a ∙ sized_done d (count_of r) room (degree_passes d low high) h

  -- their numbers
  pub planned_number : (k p : ℕ) → planned_of n r d room ≡ refused k p → k ≤ 8
  unfolding planned_of tests_up_to list_tests
  planned_number k p = judge_number (λ t. t ≤ 8) (plan_tests n r d room) tt k p
      (omega arith, (omega arith, (omega arith, (omega arith, (omega arith, (omega arith, (omega arith, (omega arith, tt))))))))

  -- a list that passes them
  module _ (e : planned_of n r d room ≡ done tt) where
    pub planned_list : Legal n r × (count_of r ≤ max_runs)
    planned_list = let l = accepted_legal n r (planned_passed e).0 in (l.0, l.1)

    pub planned_sizes : (2 ≤ d) × (d ≤ 64) × (working_size d (count_of r) ≤ room)
    planned_sizes = sized_passed d (count_of r) room (planned_passed e).1

    -- a working table of as many entries can be cleared
    pub clearable : (size : ℕ) → size ≡ room → (2 ≤ d) × (d ≤ 64) × (count_of r ≤ max_runs) × (working_size d (count_of r) ≤ size)
    clearable size s = (planned_sizes.0, planned_sizes.1, planned_list.1, omega (arith, planned_sizes.2))

-- and 19
module _ (n : ℕ) (r : Runs) (entries low room : ℕ) where
  abbrev fitted : Outcome (Unit {0})
  fitted = judge (fitting_test n r entries low ∷ []) tt

  sought_is : sought_of n r entries low room ≡ and_then (planned_of n r low room) (λ _. fitted)
  unfolding sought_of planned_of
  sought_is = judge_append (plan_tests n r low room) (fitting_test n r entries low ∷ []) tt tt

  -- all of them in a row
  pub sought_tested : sought_of n r entries low room ≡ and_then (check_of n r)
      (λ _. judge (degree_test low ∷ working_test low (count_of r) room ∷ fitting_test n r entries low ∷ []) tt)
  unfolding and_then sized_of
  sought_tested = sought_is ∙ ap (λ (o : Outcome (Unit {0})). and_then o (λ _. fitted)) (planned_is n r low room) ∙ go (check_of n r)
    where
      go : (o : Outcome (Unit {0})) → and_then (and_then o (λ _. sized_of low (count_of r) room)) (λ _. fitted)
          ≡ and_then o (λ _. judge (degree_test low ∷ working_test low (count_of r) room ∷ fitting_test n r entries low ∷ []) tt)
      go (done _) = sym (judge_append (degree_test low ∷ working_test low (count_of r) room ∷ []) (fitting_test n r entries low ∷ []) tt tt)
      go (refused k p) = refl

  pub sought_refused : (k p : ℕ) → planned_of n r low room ≡ refused k p → sought_of n r entries low room ≡ refused k p
  unfolding and_then
  sought_refused k p e = sought_is ∙ rw e

  pub sought_none : planned_of n r low room ≡ done tt → 64 < least_from n r entries low
      → sought_of n r entries low room ≡ refused 19 entries
  unfolding and_then judge
  sought_none e h = sought_is ∙ rw (e, lt-ltb 64 (least_from n r entries low) h)

  pub sought_done : planned_of n r low room ≡ done tt → least_from n r entries low ≤ 64 → sought_of n r entries low room ≡ done tt
  unfolding and_then judge
  sought_done e h = sought_is ∙ rw (e, le-ltb 64 (least_from n r entries low) h)

  pub sought_passed : sought_of n r entries low room ≡ done tt
      → (planned_of n r low room ≡ done tt) × (least_from n r entries low ≤ 64)
  unfolding judge
  sought_passed e =
      let i = then_passed (planned_of n r low room) fitted (sym sought_is ∙ e) in
      (i.0, ltb-false 64 (least_from n r entries low) (go (ltb 64 (least_from n r entries low)) i.1))
    where
      go : (b : Bool) → judge (test 19 b entries ∷ []) (tt {0}) ≡ done tt → b ≡ false
      go true e = absurd (done_refused tt 19 entries (sym e))
      go false e = refl

  -- a refusal behind the plan's tests is that
  pub fitting_refused : (k p : ℕ) → planned_of n r low room ≡ done tt → sought_of n r entries low room ≡ refused k p
      → (k ≡ 19) × (p ≡ entries) × (64 < least_from n r entries low)
  unfolding and_then judge
  fitting_refused k p a e = go (ltb 64 (least_from n r entries low)) refl
      (sym (ap (λ (o : Outcome (Unit {0})). and_then o (λ _. fitted)) a) ∙ sym sought_is ∙ e)
    where
      go : (b : Bool) → ltb 64 (least_from n r entries low) ≡ b → judge (test 19 b entries ∷ []) (tt {0}) ≡ refused k p
          → (k ≡ 19) × (p ≡ entries) × (64 < least_from n r entries low)
      go true f e = (cc, cc, ltb-true 64 (least_from n r entries low) f)
      go false f e = absurd (done_refused tt k p e)
