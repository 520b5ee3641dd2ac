-- What the tests of `balance` come to, and what it leaves for each plan.
use Prim.Native.Nat.{ℕ, ◌+◌, ◌≤◌}
use mathlib.Core.Path.{◌≡◌, refl, sym, ap, ◌∙◌}
use mathlib.Core.Bool.{Bool, true, false}
use mathlib.Core.List.{List, [], ◌∷◌, map}
use native.Mathlib.Omega.{arith}
use lib.ListN.{length, take, replicate}
use lib.Seq.{length-take-le}
use Rattle.order.proofs.Laws.{all_split}
use Rattle.outcomes.specs.Outcome.{Outcome, done, refused, Long, test, short_test, any_short, judge, and_then, map_done, over}
use Rattle.outcomes.specs.Refusal.{refusal_says}
use Rattle.outcomes.specs.declared.Refusal.{Refusal}
use Rattle.outcomes.specs.declared.Refusal.TheVariants.{ShortTable}
use Rattle.outcomes.proofs.Judging.{done_refused, judge_append, judge_first, none_below, below_none, long_less}
use Rattle.runs.specs.Runs.{Runs, count_of}
use Rattle.runs.specs.Check.{check_of}
use Rattle.runs.specs.Legal.{Legal}
use Rattle.tables.specs.Tables.{Tables, tables_of, all_columns}
use Rattle.cuts.specs.Balance.{balanced, bound_of, size_at}
use Rattle.cuts.specs.Cuts.{with_cuts, CutsStand}
use Rattle.cuts.proofs.Balancing.{balanced_count}
use Rattle.plans.specs.Working.{working_size, plan_tests, planned_of, cleared_by}
use Rattle.plans.specs.Plan.{no_limit, CutsFound, sought_of}
use Rattle.plans.specs.declared.CutsAt.{CutsAt}
use Rattle.plans.proofs.Outcomes.{planned_passed, planned_list, planned_sizes, planned_done}
use Rattle.plans.proofs.Clearing.{swept_cleared}
use Rattle.plans.proofs.Fitted.{size_few, sought_unlimited, found_planned, found_cuts}
use Rattle.balance.specs.Lent.{Lent, lent_columns, Room, balance_of, interval_count, filled_tables, Balances}
use Rattle.balance.specs.Parts.{TablesWritten, Fillable, fill_of, Fills}
use Rattle.std.specs.Prelude.{Result, Ok, Err}

-- 8 for the four tables
module _ (size : ℕ) (t entry : Tables) where
  pub fill_short : any_short size (all_columns entry) ≡ true → fill_of size t entry ≡ refused 8 size
  unfolding fill_of judge
  fill_short e = rw e

  -- a refusal is that
  pub fill_refused : (k p : ℕ) → fill_of size t entry ≡ refused k p → (k ≡ 8) × (p ≡ size)
  unfolding fill_of judge
  fill_refused k p = go (any_short size (all_columns entry))
    where
      go : (b : Bool) → judge (test 8 b size ∷ []) t ≡ refused k p → (k ≡ 8) × (p ≡ size)
      go true e = (cc, cc)
      go false e = absurd (done_refused t k p e)

  pub fills_short : any_short size (all_columns entry) ≡ true → Fills size t entry entry (Err (ShortTable size))
  unfolding map_done filled_tables
  fills_short e = let f = fill_short e in record { says = rw f; written = rw f }

  pub fill_done : any_short size (all_columns entry) ≡ false → fill_of size t entry ≡ done t
  unfolding fill_of judge
  fill_done e = rw e

  pub fills_done : any_short size (all_columns entry) ≡ false → (exit : Tables) → TablesWritten t entry exit → size ≡ interval_count t
      → Fills size t entry exit (Ok size)
  unfolding map_done filled_tables
  fills_done e exit w k = let f = fill_done e in record { says = rw f (ap done k); written = rw f w }

module _ (n : ℕ) (r : Runs) (d : ℕ) (l : Lent) where
  -- the tests of the plan, then those of the tables
  pub balance_planned : balance_of n r d l
      ≡ and_then (planned_of n r d (length l.working)) (λ _. fill_of (size_at n r d) (tables_of n (balanced d n r)) l.tables)
  unfolding balance_of planned_of fill_of
  balance_planned = judge_append (plan_tests n r d (length l.working))
      (short_test (size_at n r d) (all_columns l.tables) ∷ []) tt (tables_of n (balanced d n r))

  pub balance_passed : planned_of n r d (length l.working) ≡ done tt
      → balance_of n r d l ≡ fill_of (size_at n r d) (tables_of n (balanced d n r)) l.tables
  unfolding and_then
  balance_passed e = balance_planned ∙ rw e

  pub balance_refused : (k p : ℕ) → planned_of n r d (length l.working) ≡ refused k p → balance_of n r d l ≡ refused k p
  unfolding and_then
  balance_refused k p e = balance_planned ∙ rw e

  -- balancing an accepted list into what has room is not refused
  pub balance_done : check_of n r ≡ done tt → 2 ≤ d → d ≤ 64 → Room n r d l → balance_of n r d l ≡ done (tables_of n (balanced d n r))
  balance_done a low high m =
      balance_passed (planned_done n r d (length l.working) a low high m.working)
      ∙ fill_done (size_at n r d) (tables_of n (balanced d n r)) l.tables
      (below_none (size_at n r d) (map length (all_columns l.tables)) m.tables)

  -- and no other call of it is done
  pub balance_room : (t : Tables) → balance_of n r d l ≡ done t → (check_of n r ≡ done tt) × (2 ≤ d) × (d ≤ 64) × Room n r d l
  unfolding fill_of
  balance_room t e =
      let p = go (planned_of n r d (length l.working)) refl in
      let z = planned_sizes n r d (length l.working) p in
      let short : any_short (size_at n r d) (all_columns l.tables) ≡ false =
      (judge_first (short_test (size_at n r d) (all_columns l.tables)) [] (tables_of n (balanced d n r)) t (sym e ∙ balance_passed p)).0 in
      let tables = none_below (size_at n r d) (map length (all_columns l.tables)) short in
      ((planned_passed n r d (length l.working) p).0, z.0, z.1, record { tables = tables; working = z.2 })
    where
      go : (o : Outcome (Unit {0})) → planned_of n r d (length l.working) ≡ o → planned_of n r d (length l.working) ≡ done tt
      go (done u) f = f
      go (refused k p) f = absurd (done_refused t k p (sym e ∙ balance_refused k p f))

  -- B entries in all that is lent are room for it
  pub room_in_bound : Legal n r → 2 ≤ d → Long (bound_of d (count_of r)) (lent_columns l) → Room n r d l
  room_in_bound c low m =
      let s = all_split (λ b. bound_of d (count_of r) ≤ b) (map length (all_columns l.tables)) (length l.working ∷ []) m in
      record {
        tables = long_less (size_at n r d) (bound_of d (count_of r)) (all_columns l.tables) (balanced_count d n low r c) s.0;
        working = s.1.0;
      }

-- what `balance` leaves after a refusal by the plan
module _ (n : ℕ) (r : Runs) (d : ℕ) (l : Lent) where
  pub plan_refused : (x : Refusal) (working : List ℕ) → sought_of n r no_limit d (length l.working) ≡ refusal_says x
      → working ≡ cleared_by n r d l.working
      → Balances n r d l (record { tables = l.tables; working = working }) (Err x)
  unfolding map_done filled_tables
  plan_refused x working p w =
      let e : balance_of n r d l ≡ refusal_says x =
      balance_refused n r d l _ _ (sym (sought_unlimited n r d (length l.working)) ∙ p) in
      record { says = rw e; written = rw e; working = w }

-- and with the cuts that were found
module _ (n : ℕ) (r : Runs) (d : ℕ) (l : Lent) (swept : List ℕ) (plan : CutsAt)
    (f : CutsFound n r no_limit d l.working swept plan) where
  planned : planned_of n r d (length l.working) ≡ done tt
  planned = found_planned n r d l.working swept plan f

  g : CutsStand d n r swept plan.cuts
  g = found_cuts n r d l.working swept plan f

  taken : length (take plan.cuts swept) ≡ plan.cuts
  taken = length-take-le plan.cuts swept g.fits

  pub plan_fillable : Fillable n r (take plan.cuts swept)
  plan_fillable =
      let h = planned_list n r d (length l.working) planned in
      let t = planned_sizes n r d (length l.working) planned in
      record {
        legal = h.0;
        starts = g.starts;
        few = omega (arith, taken, g.counted, size_few n r d (length l.working) h.0 h.1 t.0);
      }

  pub plan_filled : (t : Tables) (working : List ℕ) (answer : Result ℕ Refusal)
      → Fills (count_of r + length (take plan.cuts swept)) (tables_of n (with_cuts n r (take plan.cuts swept))) l.tables t answer
      → working ≡ over (replicate (working_size d (count_of r)) 0) swept
      → Balances n r d l (record { tables = t; working = working }) answer
  plan_filled t working answer w c =
      let size : count_of r + length (take plan.cuts swept) ≡ size_at n r d = omega (arith, taken, g.counted) in
      let o : fill_of (count_of r + length (take plan.cuts swept)) (tables_of n (with_cuts n r (take plan.cuts swept))) l.tables
      ≡ balance_of n r d l =
      ap (λ (m : ℕ). fill_of m (tables_of n (with_cuts n r (take plan.cuts swept))) l.tables) size
      ∙ ap (λ (q : Runs). fill_of (size_at n r d) (tables_of n q) l.tables) g.list_is
      ∙ sym (balance_passed n r d l planned) in
      record {
        says = w.says ∙ ap (map_done interval_count) o;
        written = w.written ∙ ap (λ (q : Outcome Tables). filled_tables q l.tables) o;
        working = c ∙ swept_cleared n r d l.working planned swept f.rest;
      }
