-- A degree whose total is above what is left after the runs is ruled out: the balanced list has an interval for each run and
-- each certain cut. At one whose total is 0 the list is not cut.
use Prim.Native.Nat.{ℕ, zero, suc, ◌+◌, ◌-◌, ◌≤◌, ◌<◌}
use mathlib.Core.Path.{◌≡◌, refl, ap, ◌∙◌}
use mathlib.Core.Logic.{◌⊎◌, inl, inr}
use mathlib.Core.List.{List}
use native.Mathlib.Omega.{arith}
use lib.ListN.{length, get_or}
use Rattle.order.specs.Lists.{sum_of, up_from, up_to}
use Rattle.order.specs.Order.{key_of, order_of}
use Rattle.order.proofs.Laws.{lt_or_le, order_sum}
use Rattle.runs.specs.Legal.{Legal}
use Rattle.runs.specs.Runs.{Runs, count_of}
use Rattle.runs.specs.Weight.{weight}
use Rattle.runs.proofs.Sums.{sum_to}
use Rattle.cuts.specs.Balance.{balanced}
use Rattle.cuts.specs.Certain.{certain_cuts}
use Rattle.cuts.proofs.Certain.{balanced_least, balanced_uncut}
use Rattle.bounds.specs.Bound.{RuledOut, Opens}
use Rattle.bounds.specs.Parts.{PerDegree, certain_of, Above, FirstWithin}

-- a sum over the indexes below k, as a list and as a count
sum_shift : (g : ℕ → ℕ) (a k : ℕ) → sum_of g (up_from (suc a) k) ≡ sum_of (λ x. g (suc x)) (up_from a k)
sum_shift g a zero = refl
sum_shift g a (suc k) = omega (arith, sum_shift g (suc a) k)

sum_up : (k : ℕ) (g : ℕ → ℕ) → sum_of g (up_to k) ≡ sum_to k g
sum_up zero g = refl
sum_up (suc k) g = omega (arith, sum_shift g 0 k, sum_up k (λ x. g (suc x)))

module _ (n : ℕ) (r : Runs) (c : Legal n r) where
  -- in any order the runs have the same certain cuts
  certain_all : (d : ℕ) → certain_of n r (order_of r.images) d ≡ sum_to (count_of r) (λ x. certain_cuts d (weight n r x))
  certain_all d =
      let g : ℕ → ℕ = λ x. certain_cuts d (weight n r x) in
      order_sum (key_of r.images) (length r.images) g ∙ ap (λ (k : ℕ). sum_of g (up_to k)) c.paired ∙ sum_up (count_of r) g

  -- a degree without a certain cut
  uncut : (totals : List ℕ) (d : ℕ) → 2 ≤ d → d ≤ 64 → PerDegree (certain_of n r (order_of r.images)) totals
      → get_or totals (d - 2) 0 ≡ 0 → balanced d n r ≡ r
  uncut totals d many h p z =
      let e : d - 2 + 2 ≡ d = omega arith in
      balanced_uncut d n many r
      (omega (arith, p (d - 2) (omega arith) ∙ ap (certain_of n r (order_of r.images)) e, certain_all d))

module _ (n : ℕ) (r : Runs) (c : Legal n r) (low entries : ℕ) where
  ruled_above : (totals : List ℕ) (to : ℕ) → 2 ≤ low → count_of r ≤ entries
      → PerDegree (certain_of n r (order_of r.images)) totals → Above totals low (entries - count_of r) to
      → RuledOut n r low entries to
  ruled_above totals to many room p a = record { from = a.from; most = a.most; none = none }
    where
      none : (d : ℕ) → low ≤ d → d < to → entries < count_of (balanced d n r)
      none d l h =
          let e : d - 2 + 2 ≡ d = omega arith in
          omega (
            arith,
            a.above d l h,
            p (d - 2) (omega (arith, a.most)) ∙ ap (certain_of n r (order_of r.images)) e,
            certain_all n r c d,
            balanced_least d n (omega arith) r c,
          )

  -- too few entries for the runs themselves
  pub ruled_all : 2 ≤ low → low ≤ 64 → entries < count_of r → RuledOut n r low entries 65
  ruled_all many h few = record {
    from = omega arith;
    most = omega arith;
    none = λ d l m. omega (arith, balanced_least d n (omega arith) r c);
  }

  -- the first degree whose total is within what is left, and the first whose total is 0
  pub opens : (totals : List ℕ) (to whole : ℕ) → 2 ≤ low → count_of r ≤ entries
      → PerDegree (certain_of n r (order_of r.images)) totals → FirstWithin totals low (entries - count_of r) to
      → FirstWithin totals low 0 whole → Opens n r low entries (record { degree = to; whole = whole })
  opens totals to whole many room p a b = record {
    ruled = ruled_above totals to many room p a.passed;
    up = up (lt_or_le whole to);
    most = b.passed.most;
    whole = λ h. (uncut n r c totals whole (omega (arith, b.passed.from)) h p (omega (arith, b.within h)), room);
  }
    where
      -- a total of 0 is within what is left
      up : (whole < to) ⊎ (to ≤ whole) → to ≤ whole
      up (inl l) = absurd (omega (
        arith,
        a.passed.above whole b.passed.from l,
        b.within (omega (arith, a.passed.most)),
      ))
      up (inr l) = l
