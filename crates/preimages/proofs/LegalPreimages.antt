-- Through the tables of a legal list inverse gives the place that comes to j, and the run that has it: the images share
-- no place, so that run is the lowest one that qualifies.
use Prim.Native.Nat.{ℕ, ◌≤◌, ◌<◌}
use mathlib.Core.Path.{◌≡◌, sym, ap, ◌∙◌}
use mathlib.Core.Bool.{true}
use native.Mathlib.Omega.{arith}
use borrow.Author.Tests.{le-leb, lt-ltb}
use Rattle.outcomes.specs.Outcome.{done}
use Rattle.outcomes.proofs.Searches.{first_only}
use Rattle.runs.specs.Runs.{Runs, count_of, end_of, run_at, map_of, carry_back}
use Rattle.runs.specs.Legal.{Legal}
use Rattle.runs.proofs.Legality.{own}
use Rattle.runs.proofs.Bijection.{map_onto}
use Rattle.runs.proofs.Walks.{map_in}
use Rattle.tables.specs.Tables.{lengths_of, tables_of, max_intervals, end_at}
use Rattle.tables.proofs.Lengths.{right_at}
use Rattle.tables.proofs.LegalShape.{shape, legal_lengths}
use Rattle.preimages.specs.Inverse.{sends, source_of, inverse_of}
use Rattle.preimages.proofs.Sources.{sends_is, inverse_from}

module _ (n : ℕ) (r : Runs) (c : Legal n r) (few : count_of r ≤ max_intervals) where
  -- an interval ends where its run does
  ends : (x : ℕ) → x < count_of r → end_at (tables_of n r) x ≡ end_of n r x
  ends x h = (right_at n r.starts (lengths_of n r.starts) (legal_lengths n r c) x h).1

  sends_own : (p : ℕ) → p < n → sends (tables_of n r) (map_of n r p) (run_at n r p) ≡ true
  unfolding sends
  sends_own p h =
      let x = own n r c p h in
      let l : carry_back r (run_at n r p) (map_of n r p) < end_at (tables_of n r) (run_at n r p) = omega (arith, ends _ x.0) in
      simp (le-leb _ _ (map_in n r c p h).0, lt-ltb _ _ l)

  source_own : (p : ℕ) → p < n → run_at n r p ≡ source_of (tables_of n r) (map_of n r p)
  unfolding source_of
  source_own p h =
      let x = own n r c p h in
      let i = map_in n r c p h in
      let one : (y : ℕ) → y < count_of r → sends (tables_of n r) (map_of n r p) y ≡ true → y ≡ run_at n r p = λ y l e. (
      let j = sends_is (tables_of n r) (map_of n r p) y e in
      c.apart y (run_at n r p) (map_of n r p) l x.0 j.0 (omega (arith, ends y l)) i.0 i.1) in
      sym (first_only (sends (tables_of n r) (map_of n r p)) (count_of r) (run_at n r p) x.0 (sends_own p h) one)

  pub legal_inverse : (p : ℕ) → p < n
      → inverse_of n (tables_of n r) (map_of n r p) ≡ done (record { place = p; interval = run_at n r p })
  legal_inverse p h =
      let x = own n r c p h in
      let z : carry_back r (run_at n r p) (map_of n r p) ≡ p = omega arith in
      let l = (map_in n r c p h).2 in
      sym (inverse_from n (tables_of n r) (map_of n r p) (shape n r c few) (legal_lengths n r c) l (run_at n r p) (source_own p h) x.0)
      ∙ ap (λ (q : ℕ). done (record { place = q; interval = run_at n r p })) z

  pub legal_preimage : (j : ℕ) → j < n
      → (p : ℕ) × (p < n) × (map_of n r p ≡ j)
      × (inverse_of n (tables_of n r) j ≡ done (record { place = p; interval = run_at n r p }))
  legal_preimage j h =
      let q = map_onto n r c j h in
      (q.0, q.1, q.2, rw q.2 at (legal_inverse q.0 q.1))
