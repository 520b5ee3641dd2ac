-- A list is legal if and only if it is an interval sequence in Nishimoto and Tabei's sense. One way the order is that by
-- image. The other way the images of the order follow on each other from 0, so that they share no place and cover all
-- that lie before the last one's end; as many places as the lengths add up to, and these add up to n.
use Prim.Native.Nat.{ℕ, zero, suc, ◌-◌, ◌≤◌, ◌<◌}
use mathlib.Core.Path.{◌≡◌, ap}
use mathlib.Core.Logic.{◌⊎◌, inl, inr}
use native.Mathlib.Omega.{arith}
use Rattle.order.specs.Lists.{bit}
use Rattle.order.proofs.Laws.{lt_or_le}
use Rattle.outcomes.specs.Outcome.{done}
use Rattle.runs.specs.Runs.{Runs, count_of, image_of, image_end}
use Rattle.runs.specs.Legal.{Legal, IntervalSequence}
use Rattle.runs.specs.Parts.{ranked}
use Rattle.runs.specs.Check.{max_runs, check_of}
use Rattle.runs.proofs.Sums.{inside_true, sum_mono, sum_one, sum_zero, sum_less, tally}
use Rattle.runs.proofs.Legality.{Parted, parted, lands, lands_total}
use Rattle.runs.proofs.Ranking.{ranked_below, ranked_occurs, ranked_one}
use Rattle.runs.proofs.Tiling.{legal_tiled}
use Rattle.runs.proofs.Accepted.{accepted_legal, legal_accepted}

pub legal_sequence : (n : ℕ) (r : Runs) → Legal n r → IntervalSequence n r
legal_sequence n r c = record {
  some = c.some;
  paired = c.paired;
  first = c.first;
  rising = c.rising;
  below = c.below;
  order = ranked r;
  runs_only = ranked_below r c.paired;
  each = ranked_occurs r c.paired;
  once = ranked_one r c.paired;
  from = (legal_tiled n r c).from;
  next = (legal_tiled n r c).next;
}

module _ (n : ℕ) (r : Runs) (c : IntervalSequence n r) where
  homes : Parted n r
  homes = parted n r c.some c.first c.rising c.below

  -- the image of the run at j, from and to
  abbrev from : ℕ → ℕ
  from j = image_of r (c.order j)

  abbrev to : ℕ → ℕ
  to j = image_end n r (c.order j)

  some_places : (j : ℕ) → j < count_of r → from j < to j
  some_places j h = omega (arith, homes.lasting (c.order j) (c.runs_only j h))

  before : (i j : ℕ) → i < j → j < count_of r → to i ≤ from j
  before i zero l h = absurd (omega arith)
  before i (suc j) l h = go (lt_or_le i j) (before i j)
    where
      go : (i < j) ⊎ (j ≤ i) → (i < j → j < count_of r → to i ≤ from j) → to i ≤ from (suc j)
      go (inl m) rest = omega (arith, rest m (omega arith), some_places j (omega arith), c.next j h)
      go (inr m) rest = let e : i ≡ j = omega arith in omega (arith, ap to e, c.next j h)

  -- every place before the end of the image at j lies in an image
  covered : (j p : ℕ) → j < count_of r → p < to j → (x : ℕ) × (x < count_of r) × (image_of r x ≤ p) × (p < image_end n r x)
  covered zero p h l = (c.order 0, c.runs_only 0 h, omega (arith, c.from), l)
  covered (suc j) p h l = go (lt_or_le p (from (suc j))) (covered j p (omega arith))
    where
      go : (p < from (suc j)) ⊎ (from (suc j) ≤ p)
          → (p < to j → (x : ℕ) × (x < count_of r) × (image_of r x ≤ p) × (p < image_end n r x))
          → (x : ℕ) × (x < count_of r) × (image_of r x ≤ p) × (p < image_end n r x)
      go (inl m) rest = rest (omega (arith, c.next j h))
      go (inr m) rest = (c.order (suc j), c.runs_only (suc j) h, m, l)

  -- where the last image ends
  abbrev last : ℕ
  last = to (count_of r - 1)

  up_to_last : (x : ℕ) → x < count_of r → image_end n r x ≤ last
  up_to_last x h = go (c.each x h)
    where
      go : (j : ℕ) × (j < count_of r) × (c.order j ≡ x) → image_end n r x ≤ last
      go (j, l, e) = at (lt_or_le j (count_of r - 1))
        where
          at : (j < count_of r - 1) ⊎ (count_of r - 1 ≤ j) → image_end n r x ≤ last
          at (inl m) =
              omega (
                arith,
                ap (image_end n r) e,
                before j (count_of r - 1) m (omega arith),
                some_places (count_of r - 1) (omega arith),
              )
          at (inr m) = let z : j ≡ count_of r - 1 = omega arith in omega (arith, ap (image_end n r) e, ap to z)

  counted : (p : ℕ) → p < last → 1 ≤ tally (count_of r) (lands n r p)
  counted p h = go (covered (count_of r - 1) p (omega (arith, c.some)) h)
    where
      go : (x : ℕ) × (x < count_of r) × (image_of r x ≤ p) × (p < image_end n r x) → 1 ≤ tally (count_of r) (lands n r p)
      go (x, l, a, b) =
          let e = ap bit (inside_true (image_of r x) (image_end n r x) p a b) in
          omega (
            arith,
            sum_less x (count_of r) (λ y. 0) (λ y. bit (lands n r p y)) l (omega arith) (λ y m. omega arith),
            sum_zero (count_of r),
          )

  last_within : last ≤ n
  last_within =
      omega (
        arith,
        lands_total n r homes last up_to_last,
        sum_mono last (λ p. 1) (λ p. tally (count_of r) (lands n r p)) counted,
        sum_one last,
      )

  pub sequence_legal : Legal n r
  sequence_legal = record {
    some = c.some;
    paired = c.paired;
    first = c.first;
    below = c.below;
    rising = c.rising;
    within = λ x h. omega (arith, up_to_last x h, last_within);
    apart = λ x y p h l a b d e. go x y p a b d e (c.each x h) (c.each y l);
  }
    where
      go : (x y p : ℕ) → image_of r x ≤ p → p < image_end n r x → image_of r y ≤ p → p < image_end n r y
          → (i : ℕ) × (i < count_of r) × (c.order i ≡ x) → (j : ℕ) × (j < count_of r) × (c.order j ≡ y) → x ≡ y
      go x y p a b d e (i, h, u) (j, l, v) = at (lt_or_le i j) (lt_or_le j i)
        where
          at : (i < j) ⊎ (j ≤ i) → (j < i) ⊎ (i ≤ j) → x ≡ y
          at (inl m) o = absurd (omega (arith, before i j m l, ap (image_end n r) u, ap (image_of r) v))
          at (inr m) (inl o) = absurd (omega (arith, before j i o h, ap (image_end n r) v, ap (image_of r) u))
          at (inr m) (inr o) = let z : i ≡ j = omega arith in omega (arith, u, v, ap c.order z)

-- check accepts exactly the interval sequences of at most 16,384 runs
pub accepted_sequence : (n : ℕ) (r : Runs) → check_of n r ≡ done tt → (count_of r ≤ max_runs) × IntervalSequence n r
accepted_sequence n r e = let a = accepted_legal n r e in (a.1, legal_sequence n r a.0)

pub sequence_accepted : (n : ℕ) (r : Runs) → count_of r ≤ max_runs → IntervalSequence n r → check_of n r ≡ done tt
sequence_accepted n r f c = legal_accepted n r (sequence_legal n r c) f
