-- A list is legal if and only if it splits a permutation (source document 001), and that permutation is the list's function. One way
-- a legal list has a start wherever its function breaks. The other way the values between two starts go up by one, since none of
-- these places breaks.
use Prim.Native.Nat.{ℕ, zero, suc, ◌+◌, ◌-◌, ◌≤◌, ◌<◌}
use mathlib.Core.Path.{◌≡◌, ap}
use mathlib.Core.Bool.{true}
use mathlib.Core.Logic.{◌≢◌}
use native.Mathlib.Decide.{ℕ_discrete}
use native.Mathlib.Omega.{arith}
use borrow.Author.Tests.{ne_eqb}
use Rattle.outcomes.specs.Outcome.{done}
use Rattle.runs.specs.Runs.{Runs, count_of, start_of, end_of, carry, map_of}
use Rattle.runs.specs.Legal.{Legal, SplitPermutation}
use Rattle.runs.specs.Check.{max_runs, check_of}
use Rattle.runs.proofs.Legality.{Parted, parted, homes, home_one, map_at}
use Rattle.runs.proofs.Bijection.{map_below, map_injective}
use Rattle.runs.proofs.Accepted.{accepted_legal, legal_accepted}
use Rattle.folds.specs.Fold.{breaks}
use Rattle.folds.proofs.Tracing.{Traces, legal_traces, break_start, traced_map, traced_legal}

breaks_there : (f : ℕ → ℕ) (p : ℕ) → f (suc p) ≢ suc (f p) → breaks f (suc p) ≡ true
unfolding breaks
breaks_there f p e =
    let z : suc p - 1 ≡ p = omega arith in
    simp (ne_eqb (suc p) 0 (omega arith), z, ne_eqb (f (suc p)) (suc (f p)) e)

pub legal_split : (n : ℕ) (r : Runs) → Legal n r → SplitPermutation n (map_of n r) r
legal_split n r c = record {
  inside = map_below n r c;
  one_to_one = map_injective n r c;
  rising = c.rising;
  below = c.below;
  first = (0, c.some, c.first);
  breaks = λ p h e. break_start n (map_of n r) r (legal_traces n r c) (suc p) h (breaks_there (map_of n r) p e);
  paired = c.paired;
  values = λ x h. omega (arith, map_at n r (homes n r c) x (start_of r x) h (omega arith) ((homes n r c).lasting x h));
}

module _ (n : ℕ) (π : ℕ → ℕ) (r : Runs) (c : SplitPermutation n π r) where
  some : 0 < count_of r
  some = omega (arith, c.first.1)

  -- the lowest start is 0
  from_zero : start_of r 0 ≡ 0
  from_zero = go c.first
    where
      go : (x : ℕ) × (x < count_of r) × (start_of r x ≡ 0) → start_of r 0 ≡ 0
      go (zero, h, e) = e
      go (suc x, h, e) = absurd (omega (arith, c.rising x h, e))

  parts : Parted n r
  parts = parted n r some from_zero c.rising c.below

  -- a place that is no start follows on
  follows : (x p : ℕ) → x < count_of r → start_of r x ≤ p → suc p < end_of n r x → π (suc p) ≡ suc (π p)
  follows x p h l m = go (ℕ_discrete (π (suc p)) (suc (π p)))
    where
      go : Dec (π (suc p) ≡ suc (π p)) → π (suc p) ≡ suc (π p)
      go (yes e) = e
      go (no e) =
          let y = c.breaks p (omega (arith, parts.ending x h)) e in
          let same = home_one n r parts x y.0 (suc p) h y.1 (omega arith) m (omega (arith, y.2)) (omega (arith, y.2, parts.lasting y.0 y.1)) in
          absurd (omega (arith, ap (start_of r) same, y.2))

  traced_from : (x d p : ℕ) → x < count_of r → p ≡ start_of r x + d → p < end_of n r x → π p ≡ carry r x p
  traced_from x zero p h e m = let s : p ≡ start_of r x = omega arith in omega (arith, ap π s, c.values x h)
  traced_from x (suc d) p h e m =
      let q = start_of r x + d in
      let s : p ≡ suc q = omega arith in
      omega (arith, ap π s, follows x q h (omega arith) (omega arith), traced_from x d q h (omega arith) (omega arith))

  traces : Traces n π r
  traces = record {
    some = some;
    paired = c.paired;
    first = from_zero;
    below = c.below;
    rising = c.rising;
    traced = λ x p h l m. traced_from x (p - start_of r x) p h (omega arith) m;
  }

  pub split_legal : Legal n r
  split_legal = traced_legal n π r traces c.inside c.one_to_one

  -- the permutation that is split is the list's function
  pub split_map : (p : ℕ) → p < n → map_of n r p ≡ π p
  split_map = traced_map n π r traces

-- check accepts exactly the lists of at most 16,384 runs that split a permutation
pub accepted_split : (n : ℕ) (r : Runs) → check_of n r ≡ done tt → (count_of r ≤ max_runs) × SplitPermutation n (map_of n r) r
accepted_split n r e = let a = accepted_legal n r e in (a.1, legal_split n r a.0)

pub split_accepted : (n : ℕ) (π : ℕ → ℕ) (r : Runs) → count_of r ≤ max_runs → SplitPermutation n π r → check_of n r ≡ done tt
split_accepted n π r f c = legal_accepted n r (split_legal n π r c) f
