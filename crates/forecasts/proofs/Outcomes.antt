-- What a forecast and a search for a degree come to, by their plans, and what they leave.
use Prim.Native.Nat.{ℕ, ◌+◌, ◌-◌, ◌<◌}
use mathlib.Core.Path.{◌≡◌, refl, sym, ap, ◌∙◌}
use mathlib.Core.Bool.{Bool, true, false}
use mathlib.Core.List.{List, [], ◌∷◌}
use native.Mathlib.Omega.{arith}
use lib.ListN.{length, replicate}
use lib.Dec.{ltb}
use Rattle.outcomes.specs.Outcome.{Outcome, done, refused, test, judge, and_then, map_done, over}
use Rattle.outcomes.specs.Refusal.{refusal_says}
use Rattle.outcomes.specs.declared.Refusal.{Refusal}
use Rattle.outcomes.specs.Degree.{degree_test}
use Rattle.outcomes.proofs.Judging.{judge_append, judge_map}
use Rattle.runs.specs.Runs.{Runs, count_of}
use Rattle.runs.specs.Check.{check_tests, check_of}
use Rattle.cuts.specs.Balance.{size_at}
use Rattle.plans.specs.Fitting.{least_from}
use Rattle.plans.specs.Working.{working_size, working_test, plan_tests, planned_of, cleared_by}
use Rattle.plans.specs.Plan.{no_limit, fitting_test, sought_of, CutsFound}
use Rattle.plans.specs.declared.CutsAt.{CutsAt}
use Rattle.plans.proofs.Outcomes.{planned_list, planned_sizes, sought_passed, sought_tested}
use Rattle.plans.proofs.Clearing.{swept_cleared}
use Rattle.plans.proofs.Fitted.{size_few, sought_unlimited, found_planned, found_cuts, found_from}
use Rattle.forecasts.specs.Sizing.{forecast_at, forecast_of, Forecasts}
use Rattle.forecasts.specs.Seeking.{least_at, least_degree_of, Seeks}
use Rattle.forecasts.specs.declared.BalancedSize.{BalancedSize}
use Rattle.std.specs.Prelude.{Ok, Err}
use Rattle.forecasts.specs.declared.LeastDegree.{LeastDegree}

-- the forecast
module _ (n : ℕ) (r : Runs) (d : ℕ) (entry : List ℕ) where
  pub forecast_planned : (room : ℕ) → forecast_of n r d room ≡ map_done (λ _. forecast_at n r d) (planned_of n r d room)
  unfolding forecast_of planned_of
  forecast_planned room = judge_map (plan_tests n r d room) tt (forecast_at n r d)

  pub forecast_refused : (x : Refusal) (exit : List ℕ) → sought_of n r no_limit d (length entry) ≡ refusal_says x
      → exit ≡ cleared_by n r d entry → Forecasts n r d entry exit (Err x)
  unfolding map_done
  forecast_refused x exit e w =
      let p = sym (sought_unlimited n r d (length entry)) ∙ e in
      record { says = sym (forecast_planned (length entry) ∙ rw p); working = w }

  module _ (swept : List ℕ) (plan : CutsAt) (f : CutsFound n r no_limit d entry swept plan) where
    -- K fits in 32 bits
    pub forecast_few : count_of r + plan.cuts < 4294967296
    forecast_few =
        let p = found_planned n r d entry swept plan f in
        let h = planned_list n r d (length entry) p in
        let t = planned_sizes n r d (length entry) p in
        omega (arith, (found_cuts n r d entry swept plan f).counted, size_few n r d (length entry) h.0 h.1 t.0)

    pub forecast_sized : (exit : List ℕ) → exit ≡ over (replicate (working_size d (count_of r)) 0) swept
        → Forecasts n r d entry exit (Ok (record { intervals = count_of r + plan.cuts; cuts = plan.cuts }))
    unfolding map_done
    forecast_sized exit w =
        let p = found_planned n r d entry swept plan f in
        let c = (found_cuts n r d entry swept plan f).counted in
        let s : count_of r + plan.cuts ≡ size_at n r d = omega arith in
        let m : plan.cuts ≡ size_at n r d - count_of r = omega arith in
        let e : ◌≡◌ {A = BalancedSize} (record { intervals = count_of r + plan.cuts; cuts = plan.cuts }) (forecast_at n r d) =
        λ j. record { intervals = s j; cuts = m j } in
        record {
          says = ap done e ∙ sym (forecast_planned (length entry) ∙ rw p);
          working = w ∙ swept_cleared n r d entry p swept f.rest;
        }

-- the search for a degree
module _ (n : ℕ) (r : Runs) (entries : ℕ) (entry : List ℕ) where
  pub degree_sought : (room : ℕ) → least_degree_of n r entries room ≡ map_done (λ _. least_at n r entries) (sought_of n r entries 2 room)
  unfolding least_degree_of and_then map_done judge
  degree_sought room =
      judge_append (check_tests n r) (working_test 2 (count_of r) room ∷ fitting_test n r entries 2 ∷ []) tt (least_at n r entries)
      ∙ go (check_of n r) ∙ sym (ap (map_done (λ _. least_at n r entries)) (sought_tested n r entries 2 room))
    where
      b : ℕ
      b = working_size 2 (count_of r)

      told : (s t : Bool) → judge (test 8 s b ∷ test 19 t entries ∷ []) (least_at n r entries)
          ≡ map_done (λ _. least_at n r entries) (judge (test 8 s b ∷ test 19 t entries ∷ []) (tt {0}))
      told true t = refl
      told false true = refl
      told false false = refl

      go : (o : Outcome (Unit {0}))
          → and_then o (λ _. judge (working_test 2 (count_of r) room ∷ fitting_test n r entries 2 ∷ []) (least_at n r entries))
          ≡ map_done (λ _. least_at n r entries)
          (and_then o (λ _. judge (degree_test 2 ∷ working_test 2 (count_of r) room ∷ fitting_test n r entries 2 ∷ []) (tt {0})))
      go (done _) = told (ltb room b) (ltb 64 (least_from n r entries 2))
      go (refused k p) = refl

  pub seek_refused : (x : Refusal) (exit : List ℕ) → sought_of n r entries 2 (length entry) ≡ refusal_says x
      → exit ≡ cleared_by n r 2 entry → Seeks n r entries entry exit (Err x)
  unfolding map_done
  seek_refused x exit e w = record { says = sym (degree_sought (length entry) ∙ rw e); working = w }

  module _ (swept : List ℕ) (plan : CutsAt) (f : CutsFound n r entries 2 entry swept plan) where
    pub seek_planned : planned_of n r 2 (length entry) ≡ done tt
    seek_planned = (sought_passed n r entries 2 (length entry) f.passed).0

    pub seek_few : count_of r + plan.cuts < 4294967296
    seek_few =
        let h = planned_list n r 2 (length entry) seek_planned in
        omega (arith, f.cuts.counted, size_few n r plan.degree 0 h.0 h.1 (found_from n r entries 2 entry swept plan f))

    pub seek_found : (exit : List ℕ) → exit ≡ over (replicate (working_size 2 (count_of r)) 0) swept
        → Seeks n r entries entry exit (Ok (record { degree = plan.degree; intervals = count_of r + plan.cuts }))
    unfolding map_done
    seek_found exit w =
        let s : count_of r + plan.cuts ≡ size_at n r (least_from n r entries 2) =
        omega (arith, f.cuts.counted, ap (size_at n r) f.degree_is) in
        let e : ◌≡◌ {A = LeastDegree} (record { degree = plan.degree; intervals = count_of r + plan.cuts }) (least_at n r entries) =
        λ j. record { degree = f.degree_is j; intervals = s j } in
        record {
          says = ap done e ∙ sym (degree_sought (length entry) ∙ rw f.passed);
          working = w ∙ swept_cleared n r 2 entry seek_planned swept f.rest;
        }
