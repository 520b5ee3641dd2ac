-- The search for a degree: those below the one in hand leave too many intervals.
use Prim.Native.Nat.{ℕ, ◌+◌, ◌-◌, ◌≤◌, ◌<◌}
use mathlib.Core.Path.{◌≡◌, refl, sym, ◌∙◌, subst}
use mathlib.Core.Logic.{◌⊎◌, inl, inr}
use mathlib.Core.List.{List}
use native.Mathlib.Omega.{arith}
use lib.ListN.{length, drop}
use borrow.Author.Tests.{le-leb, lt-leb}
use Rattle.order.proofs.Laws.{lt_or_le}
use Rattle.outcomes.specs.Outcome.{Outcome, done, refused}
use Rattle.outcomes.proofs.Searches.{from_le, from_only, from_none}
use Rattle.runs.specs.Runs.{Runs, count_of}
use Rattle.runs.specs.Check.{max_runs}
use Rattle.runs.specs.Legal.{Legal}
use Rattle.cuts.specs.Cuts.{Cuttable, CutsStand, BalancingCuts}
use Rattle.cuts.proofs.Balancing.{balanced_cuts, cuts_bound}
use Rattle.cuts.proofs.Progress.{uncut_stand}
use Rattle.bounds.specs.Bound.{Boundable, RuledOut, Opens}
use Rattle.bounds.specs.declared.First.{First}
use Rattle.cuts.specs.Balance.{balanced, size_at}
use Rattle.plans.specs.Fitting.{fits, least_from}
use Rattle.plans.specs.Working.{planned_of}
use Rattle.plans.specs.Plan.{no_limit, sought_of, CutsFound}
use Rattle.plans.specs.Parts.{Seekable}
use Rattle.plans.specs.declared.CutsAt.{CutsAt}
use Rattle.plans.proofs.Outcomes.{planned_list, planned_sizes, sought_refused, sought_done, sought_none}
use Rattle.plans.proofs.Clearing.{drop_on}

-- the search has come to degree d, with this left in the working table
pub record Seeking (n : ℕ) (r : Runs) (entries low : ℕ) (entry working : List ℕ) (d : ℕ) : Type 0 where
  pub ruled : RuledOut n r low entries d
  pub rest : drop (count_of r) working ≡ drop (count_of r) entry
  pub sized : length working ≡ length entry

module _ (n : ℕ) (r : Runs) (entries low : ℕ) (order spare entry : List ℕ) (s : Seekable n r low order spare entry) where
  pub seeking_boundable : Boundable n r order spare low
  seeking_boundable =
      let t = planned_sizes n r low (length entry) s.passed in
      let h = planned_list n r low (length entry) s.passed in
      record { legal = h.0; ordered = s.ordered; few = h.1; in_room = s.wide; from = t.0; high = t.1 }

  -- a degree that fits, and below which all are ruled out, is the least
  least_is : (d : ℕ) → RuledOut n r low entries d → d ≤ 64 → size_at n r d ≤ entries → least_from n r entries low ≡ d
  least_is d o high fit = from_only (fits n r entries) (65 - low) low d o.from (omega (arith, o.from))
      (le-leb (size_at n r d) entries fit) (λ z a b. lt-leb (size_at n r z) entries (o.none z a b))

  module _ (working : List ℕ) (d : ℕ) (i : Seeking n r entries low entry working d) where
    pub seeking_cuttable : (ranked : List ℕ) → length ranked ≡ length spare → d ≤ 64 → Cuttable n r order ranked d working
    seeking_cuttable ranked e h =
        let t = planned_sizes n r low (length entry) s.passed in
        record {
          legal = (planned_list n r low (length entry) s.passed).0;
          ordered = s.ordered;
          in_order = s.in_order;
          in_ranked = omega (arith, s.in_spare);
          low = omega (arith, i.ruled.from);
          high = h;
          in_working = omega (arith, i.sized, cuts_bound low (count_of r) 0 t.0 (omega arith));
        }

    module _ (high : d ≤ 64) (swept : List ℕ) (c : ℕ) (g : BalancingCuts d n r working swept c) where
      -- at most k entries of the working table are changed
      swept_rest : drop (count_of r) swept ≡ drop (count_of r) entry
      swept_rest =
          let t = planned_sizes n r low (length entry) s.passed in
          let m = balanced_cuts d n (omega (arith, i.ruled.from)) r (planned_list n r low (length entry) s.passed).0 in
          drop_on c (count_of r) swept working (omega (arith, g.stand.counted, m.counted, m.fuelled)) g.rest ∙ i.rest

      pub seeking_next : length swept ≡ length working → entries < count_of r + c → Seeking n r entries low entry swept (d + 1)
      seeking_next e h = record {
        ruled = record {
          from = omega (arith, i.ruled.from);
          most = omega arith;
          none = λ x a b. go x a b (lt_or_le x d);
        };
        rest = swept_rest;
        sized = e ∙ i.sized;
      }
        where
          go : (x : ℕ) → low ≤ x → x < d + 1 → (x < d) ⊎ (d ≤ x) → entries < size_at n r x
          go x a b (inl l) = i.ruled.none x a l
          go x a b (inr l) = let q : x ≡ d = omega arith in rw q (omega (arith, g.stand.counted))

      pub seeking_found : count_of r + c ≤ entries → CutsFound n r entries low entry swept (record { degree = d; cuts = c })
      seeking_found h =
          let t = planned_sizes n r low (length entry) s.passed in
          let e : least_from n r entries low ≡ d = least_is d i.ruled high (omega (arith, g.stand.counted)) in
          record {
            passed = sought_done n r entries low (length entry) s.passed (omega arith);
            degree_is = rw e;
            cuts = g.stand;
            rest = swept_rest;
          }

    -- the first degree at which no cut is made
    pub seeking_whole : (first : First) → Opens n r low entries first → d ≤ first.whole → first.whole ≤ d → d ≤ 64
        → CutsFound n r entries low entry working (record { degree = d; cuts = 0 })
    seeking_whole first o up down high =
        let e : first.whole ≡ d = omega arith in
        let w = o.whole (omega arith) in
        let h = planned_list n r low (length entry) s.passed in
        let c : CutsStand d n r working 0 =
        uncut_stand d n r h.0 (subst (λ (x : ℕ). balanced x n r ≡ r) e w.0) working in
        let l : least_from n r entries low ≡ d = least_is d i.ruled high (omega (arith, c.counted, w.1)) in
        record {
          passed = sought_done n r entries low (length entry) s.passed (omega arith);
          degree_is = rw l;
          cuts = c;
          rest = i.rest;
        }

    pub seeking_none : 64 < d → sought_of n r entries low (length entry) ≡ refused 19 entries
    seeking_none h =
        let t = planned_sizes n r low (length entry) s.passed in
        let e : least_from n r entries low ≡ low + (65 - low) = from_none (fits n r entries) (65 - low) low
        (λ z a b. lt-leb (size_at n r z) entries (i.ruled.none z a (omega (arith, i.ruled.most)))) in
        sought_none n r entries low (length entry) s.passed (omega arith)

-- a call that sets no limit is answered at its own degree
module _ (n : ℕ) (r : Runs) (d room : ℕ) where
  pub size_few : Legal n r → count_of r ≤ max_runs → 2 ≤ d → size_at n r d ≤ 32768
  size_few l k many = let m = balanced_cuts d n many r l in omega (arith, m.counted, m.fuelled)

  unlimited : planned_of n r d room ≡ done tt → least_from n r no_limit d ≡ d
  unlimited e =
      let l = planned_list n r d room e in
      let t = planned_sizes n r d room e in
      from_only (fits n r no_limit) (65 - d) d d (omega arith) (omega arith)
      (le-leb (size_at n r d) no_limit (omega (arith, size_few l.0 l.1 t.0))) (λ z a b. absurd (omega arith))

  pub sought_unlimited : sought_of n r no_limit d room ≡ planned_of n r d room
  sought_unlimited = go (planned_of n r d room) refl
    where
      go : (o : Outcome (Unit {0})) → planned_of n r d room ≡ o → sought_of n r no_limit d room ≡ o
      go (done _) e = sought_done n r no_limit d room e (omega (arith, unlimited e, planned_sizes n r d room e))
      go (refused k p) e = sought_refused n r no_limit d room k p e

module _ (n : ℕ) (r : Runs) (d : ℕ) (entry exit : List ℕ) (plan : CutsAt) (f : CutsFound n r no_limit d entry exit plan)
  where
    pub found_planned : planned_of n r d (length entry) ≡ done tt
    found_planned = sym (sought_unlimited n r d (length entry)) ∙ f.passed

    pub found_cuts : CutsStand d n r exit plan.cuts
    found_cuts = subst (λ (e : ℕ). CutsStand e n r exit plan.cuts)
        (f.degree_is ∙ unlimited n r d (length entry) found_planned) f.cuts

-- the degree that is found is among those asked for
pub found_from : (n : ℕ) (r : Runs) (entries low : ℕ) (entry exit : List ℕ) (plan : CutsAt)
    → CutsFound n r entries low entry exit plan → low ≤ plan.degree
found_from n r entries low entry exit plan f = omega (arith, f.degree_is, from_le (fits n r entries) (65 - low) low)
