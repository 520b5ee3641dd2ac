-- What stands at the head of the lent tables after balancing: the tables of the balanced list.
use Prim.Native.Nat.{ℕ, zero, suc, ◌≤◌}
use mathlib.Core.Path.{◌≡◌, refl, ap, ◌∙◌}
use mathlib.Core.List.{List, [], ◌∷◌}
use native.Mathlib.Omega.{arith}
use lib.ListN.{length, take, drop, length-map}
use lib.Seq.{take_at}
use Rattle.outcomes.specs.Outcome.{Outcome, done, refused, map_done, over, Long}
use Rattle.runs.specs.Runs.{Runs, count_of, run_at}
use Rattle.tables.specs.Tables.{Tables, tables, links_of, lengths_of, tables_of, all_columns, each_column, each_pair}
use Rattle.tables.specs.Parts.{Full}
use Rattle.tables.proofs.Lengths.{lengths_long}
use Rattle.cuts.specs.Balance.{balanced}
use Rattle.balance.specs.Lent.{Lent, first_of, balance_of, interval_count, filled_tables, Balances}
use Rattle.std.specs.Prelude.{Result}
use Rattle.outcomes.specs.declared.Refusal.{Refusal}
use Rattle.outcomes.specs.Refusal.{says as Refusal·says}

-- a head of full length is within its list
take_full : (k : ℕ) (l : List ℕ) → length (take k l) ≡ k → k ≤ length l
take_full zero l e = omega arith
take_full (suc k) [] e = omega arith
take_full (suc k) (x ∷ l) e = omega (arith, take_full k l (omega arith))

-- what is written over a table is its head
over_head : (k : ℕ) (l table : List ℕ) → length l ≡ k → take k (over l table) ≡ l
over_head k l table = take_at l (drop (length l) table) k

-- tables t whose columns are full: written over others they are the head of these, and what has them as its head has room
module _ (t : Tables) (full : Full t.links) (measured : length t.lengths ≡ interval_count t) (other : Tables) where
  over_first : each_column (take (interval_count t)) (each_pair over t other) ≡ t
  over_first = λ j. tables
      (over_head (interval_count t) t.links.list.starts other.links.list.starts refl j)
      (over_head (interval_count t) t.links.list.images other.links.list.images full.imaged j)
      (over_head (interval_count t) t.links.holders other.links.holders full.held j)
      (over_head (interval_count t) t.lengths other.lengths measured j)

  first_long : each_column (take (interval_count t)) other ≡ t → Long (interval_count t) (all_columns other)
  first_long e =
      let s = take_full _ other.links.list.starts (ap (λ (u : Tables). length u.links.list.starts) e) in
      let i = take_full _ other.links.list.images (ap (λ (u : Tables). length u.links.list.images) e ∙ full.imaged) in
      let h = take_full _ other.links.holders (ap (λ (u : Tables). length u.links.holders) e ∙ full.held) in
      let l = take_full _ other.lengths (ap (λ (u : Tables). length u.lengths) e ∙ measured) in
      (s, (i, (h, (l, tt))))

-- a refusal leaves the lent tables
pub tables_kept : (o : Outcome Tables) (k p : ℕ) (entry : Tables) → o ≡ refused k p → filled_tables o entry ≡ entry
unfolding filled_tables
tables_kept o k p entry e = rw e

-- the head of the lent tables after balancing
module _ (n : ℕ) (r : Runs) (d : ℕ) (entry exit : Lent) (answer : Result ℕ Refusal) (b : Balances n r d entry exit answer)
    (e : balance_of n r d entry ≡ done (tables_of n (balanced d n r)))
    (paired : length (balanced d n r).images ≡ count_of (balanced d n r)) where
  pub answer_is : Refusal·says answer ≡ done (count_of (balanced d n r))
  unfolding map_done
  answer_is = b.says ∙ rw e

  full : Full (links_of n (balanced d n r))
  full = record {
    imaged = paired;
    held = length-map (balanced d n r).images (run_at n (balanced d n r)) ∙ paired;
  }

  measured : length (lengths_of n (balanced d n r).starts) ≡ count_of (balanced d n r)
  measured = lengths_long n (balanced d n r).starts

  pub head_is : first_of (count_of (balanced d n r)) exit ≡ tables_of n (balanced d n r)
  unfolding filled_tables
  head_is = rw (b.written, e) (over_first (tables_of n (balanced d n r)) full measured entry.tables)

  -- so the lent tables have room for it
  pub head_room : Long (count_of (balanced d n r)) (all_columns exit.tables)
  head_room = first_long (tables_of n (balanced d n r)) full measured exit.tables head_is
