-- The forecast and the search for a degree are right: their definitions and that of balancing speak of one K.
use Prim.Native.Nat.{ℕ, ◌+◌, ◌≤◌, ◌<◌}
use Rattle.std.specs.Prelude.{Result}
use Rattle.outcomes.specs.Refusal.{says}
use Rattle.outcomes.specs.declared.Refusal.{Refusal}
use mathlib.Core.Path.{◌≡◌, refl, sym, ap, ◌∙◌}
use mathlib.Core.Bool.{true}
use mathlib.Core.Logic.{◌⊎◌, inl, inr}
use mathlib.Core.List.{[], map}
use native.Mathlib.Omega.{arith}
use lib.ListN.{length}
use borrow.Author.Tests.{leb-true, le-leb, lt-leb}
use Rattle.order.proofs.Laws.{lt_or_le}
use Rattle.outcomes.specs.Outcome.{Outcome, done, refused, Long, any_short, map_done}
use Rattle.outcomes.proofs.Judging.{map_refused, map_done_lem, below_none}
use Rattle.outcomes.proofs.Searches.{from_le, from_true, from_least, from_none}
use Rattle.runs.specs.Runs.{Runs, count_of}
use Rattle.runs.specs.Check.{check_of}
use Rattle.tables.specs.Tables.{tables_of, all_columns}
use Rattle.cuts.proofs.Balancing.{balanced_cuts}
use Rattle.cuts.specs.Balance.{balanced, size_at}
use Rattle.plans.specs.Fitting.{fits, least_from}
use Rattle.plans.specs.Working.{working_size, planned_of}
use Rattle.plans.specs.Plan.{sought_of}
use Rattle.plans.proofs.Outcomes.{planned_passed, planned_list, planned_sizes, planned_done, planned_number, sought_refused, sought_passed, sought_done, sought_none, fitting_refused}
use Rattle.balance.specs.Lent.{Lent, interval_count, Balances}
use Rattle.balance.specs.Parts.{fill_of}
use Rattle.balance.proofs.Outcomes.{balance_passed, fill_short, fill_done}
use Rattle.forecasts.specs.Sizing.{forecast_at, forecast_of}
use Rattle.forecasts.specs.Seeking.{least_at, least_degree_of}
use Rattle.forecasts.specs.declared.BalancedSize.{BalancedSize}
use Rattle.forecasts.specs.declared.LeastDegree.{LeastDegree}
use Rattle.forecasts.proofs.Outcomes.{forecast_planned, degree_sought}
use Rattle.demands.specs.Demands.{Foretold}

-- a forecast that is given
module _ (n : ℕ) (r : Runs) (d room : ℕ) (f : BalancedSize) (e : forecast_of n r d room ≡ done f) where
  told : (planned_of n r d room ≡ done tt) × (forecast_at n r d ≡ f)
  told = map_done_lem (λ _. forecast_at n r d) (planned_of n r d room) f (sym (forecast_planned n r d [] room) ∙ e)

  -- the same list passes the tests with any working table that is long enough
  planned : (size : ℕ) → working_size d (count_of r) ≤ size → planned_of n r d size ≡ done tt
  planned size h = let t = planned_sizes n r d room told.0 in
      planned_done n r d size (planned_passed n r d room told.0).0 t.0 t.1 h

  told_cuts : f.intervals ≡ count_of r + f.cuts
  told_cuts =
      let m = balanced_cuts d n (planned_sizes n r d room told.0).0 r (planned_list n r d room told.0).0 in
      rw (← told.1) (omega (arith, m.counted))

  module _ (entry exit : Lent) (answer : Result ℕ Refusal) (b : Balances n r d entry exit answer)
      (h : working_size d (count_of r) ≤ length entry.working) where
    -- whether tables are short for K is whether they are for what was forecast
    short_is : any_short (size_at n r d) (all_columns entry.tables) ≡ any_short f.intervals (all_columns entry.tables)
    short_is = ap (λ (g : BalancedSize). any_short g.intervals (all_columns entry.tables)) told.1

    answer_is : says answer ≡ map_done interval_count (fill_of (size_at n r d) (tables_of n (balanced d n r)) entry.tables)
    answer_is = b.says ∙ ap (map_done interval_count) (balance_passed n r d entry (planned (length entry.working) h))

    told_balancing : (Long f.intervals (all_columns entry.tables) → says answer ≡ done f.intervals)
        × (any_short f.intervals (all_columns entry.tables) ≡ true → says answer ≡ refused 8 f.intervals)
    unfolding map_done
    told_balancing = (
      λ l. answer_is
          ∙ rw (fill_done _ (tables_of n (balanced d n r)) entry.tables
          (short_is ∙ below_none f.intervals (map length (all_columns entry.tables)) l))
          (ap (λ (g : BalancedSize). done g.intervals) told.1),
      λ z. answer_is ∙ rw (fill_short _ (tables_of n (balanced d n r)) entry.tables (short_is ∙ z))
          (ap (λ (g : BalancedSize). refused 8 g.intervals) told.1),
    )

-- a degree below the least one leaves too many intervals
below_least : (n : ℕ) (r : Runs) (entries x : ℕ) → 2 ≤ x → x < least_from n r entries 2 → entries < size_at n r x
below_least n r entries x l u = go (lt_or_le entries (size_at n r x))
  where
    go : (entries < size_at n r x) ⊎ (size_at n r x ≤ entries) → entries < size_at n r x
    go (inl k) = k
    go (inr k) = let i = from_le (fits n r entries) 63 2 in
        absurd (omega (arith, from_least (fits n r entries) 63 2 x l (omega arith) (le-leb (size_at n r x) entries k)))

-- a degree that is given
module _ (n : ℕ) (r : Runs) (entries room : ℕ) (a : LeastDegree) (e : least_degree_of n r entries room ≡ done a) where
  least_is : (2 ≤ a.degree) × (a.degree ≤ 64) × (a.intervals ≡ size_at n r a.degree) × (a.intervals ≤ entries)
      × ((x : ℕ) → 2 ≤ x → x < a.degree → entries < size_at n r x)
  least_is =
      let m = map_done_lem (λ _. least_at n r entries) (sought_of n r entries 2 room) a (sym (degree_sought n r entries [] room) ∙ e) in
      let h = (sought_passed n r entries 2 room m.0).1 in
      let i = from_le (fits n r entries) 63 2 in
      rw (← m.1) (
        i.0,
        h,
        refl,
        leb-true (size_at n r (least_from n r entries 2)) entries (from_true (fits n r entries) 63 2 (omega arith)),
        below_least n r entries,
      )

-- one is given wherever one fits
degree_given : (n : ℕ) (r : Runs) (entries room e : ℕ) → check_of n r ≡ done tt → working_size 2 (count_of r) ≤ room
    → 2 ≤ e → e ≤ 64 → size_at n r e ≤ entries → least_degree_of n r entries room ≡ done (least_at n r entries)
unfolding map_done
degree_given n r entries room e a h low high k =
    let l = from_least (fits n r entries) 63 2 e low (omega arith) (le-leb (size_at n r e) entries k) in
    degree_sought n r entries [] room
    ∙ rw (sought_done n r entries 2 room (planned_done n r 2 room a (omega arith) (omega arith) h) (omega arith))

-- 19: no degree fits
module _ (n : ℕ) (r : Runs) (entries room p : ℕ) where
  none_fits : least_degree_of n r entries room ≡ refused 19 p
      → (check_of n r ≡ done tt) × (working_size 2 (count_of r) ≤ room) × (p ≡ entries)
      × ((x : ℕ) → 2 ≤ x → x ≤ 64 → entries < size_at n r x)
  none_fits e = go (planned_of n r 2 room) refl
    where
      q : sought_of n r entries 2 room ≡ refused 19 p
      q = map_refused _ _ 19 p (sym (degree_sought n r entries [] room) ∙ e)

      go : (o : Outcome (Unit {0})) → planned_of n r 2 room ≡ o
          → (check_of n r ≡ done tt) × (working_size 2 (count_of r) ≤ room) × (p ≡ entries)
          × ((x : ℕ) → 2 ≤ x → x ≤ 64 → entries < size_at n r x)
      go (refused k p') f =
          absurd (omega (arith, planned_number n r 2 room 19 p (f ∙ sym (sought_refused n r entries 2 room k p' f) ∙ q)))
      go (done _) f =
          let s = fitting_refused n r entries 2 room 19 p f q in
          let i = planned_passed n r 2 room f in (
            i.0,
            (planned_sizes n r 2 room f).2,
            s.1,
            λ x l u. below_least n r entries x l (omega (arith, s.2)),
          )

  none_given : (check_of n r ≡ done tt) × (working_size 2 (count_of r) ≤ room) × (p ≡ entries)
      × ((x : ℕ) → 2 ≤ x → x ≤ 64 → entries < size_at n r x) → least_degree_of n r entries room ≡ refused 19 p
  unfolding map_done
  none_given h =
      let l : least_from n r entries 2 ≡ 65 = from_none (fits n r entries) 63 2
      (λ z a b. lt-leb (size_at n r z) entries (h.3 z a (omega arith))) in
      degree_sought n r entries [] room
      ∙ rw (sought_none n r entries 2 room (planned_done n r 2 room h.0 (omega arith) (omega arith) h.1) (omega arith), h.2)

pub foretold : Foretold
unfolding map_done
foretold = record {
  forecast = λ n r d room a low high h. forecast_planned n r d [] room ∙ rw (planned_done n r d room a low high h);
  cuts = told_cuts;
  balancing = told_balancing;
  least = least_is;
  answered = degree_given;
  none = λ n r entries room p. (none_fits n r entries room p, none_given n r entries room p);
}
