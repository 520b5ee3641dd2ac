-- What `plan` promises: the tests of a call up to 19, and the cuts at the least degree that fits.
use Rattle.std.specs.Prelude.{ℕ, ◌≡◌, List, [], ◌∷◌, ◌++◌, length, drop, ltb, Result, Ok, Err}
use Rattle.outcomes.specs.Outcome.{Outcome, done, Test, test, judge}
use Rattle.outcomes.specs.Refusal.{refusal_says}
use Rattle.runs.specs.Runs.{Runs, count_of}
use Rattle.cuts.specs.Cuts.{CutsStand}
use Rattle.plans.specs.Fitting.{least_from}
use Rattle.plans.specs.Working.{plan_tests, cleared_by}
use Rattle.plans.specs.declared.CutsAt.{CutsAt}
use Rattle.outcomes.specs.declared.Refusal.{Refusal}

-- more entries than any list has intervals: with so many stated, the first degree fits
abbrev pub no_limit : ℕ
no_limit = 4294967295

-- 19: at no degree from `low` to 64 are there at most `entries` intervals
abbrev pub fitting_test : ℕ → Runs → ℕ → ℕ → Test
fitting_test n r entries low = test 19 (ltb 64 (least_from n r entries low)) entries

-- 1 to 8 at the degree `low`, and 19
unfoldable pub sought_of : ℕ → Runs → ℕ → ℕ → ℕ → Outcome (Unit {0})
sought_of n r entries low room = judge (plan_tests n r low room ++ (fitting_test n r entries low ∷ [])) tt

-- The cuts at the least degree that fits stand in the working table, and its entries from k on are as they were. Between them any
-- numbers may stand: degrees that do not fit have been tried before.
pub record CutsFound (n : ℕ) (r : Runs) (entries low : ℕ) (entry exit : List ℕ) (plan : CutsAt) : Type 0 where
  pub passed : sought_of n r entries low (length entry) ≡ done tt
  pub degree_is : plan.degree ≡ least_from n r entries low
  pub cuts : CutsStand plan.degree n r exit plan.cuts
  pub rest : drop (count_of r) exit ≡ drop (count_of r) entry

-- these, or the refusal and the working table as it is to be left
abbrev pub Plans : ℕ → Runs → ℕ → ℕ → List ℕ → List ℕ → Result CutsAt Refusal → Type 0
Plans n r entries low entry exit (Ok plan) = CutsFound n r entries low entry exit plan
Plans n r entries low entry exit (Err x) =
    (sought_of n r entries low (length entry) ≡ refusal_says x) × (exit ≡ cleared_by n r low entry)
