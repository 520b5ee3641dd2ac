-- A list is legal if and only if it is a disjoint interval sequence in the sense of source 002, so `check_of` accepts
-- exactly those of at most 16,384 runs.
use Prim.Native.Nat.{ℕ, zero, suc, ◌+◌, ◌-◌, ◌≤◌, ◌<◌}
use mathlib.Core.Path.{◌≡◌, sym, ap, ◌∙◌}
use mathlib.Core.Logic.{◌⊎◌, inl, inr, ◌≢◌}
use mathlib.Core.List.{List, map}
use native.Mathlib.Omega.{arith}
use lib.ListN.{length, get_or}
use Rattle.order.specs.Lists.{up_to}
use Rattle.order.proofs.Laws.{lt_or_le, length_up, get_d_up, get_d_map}
use Rattle.outcomes.specs.Outcome.{done}
use Rattle.runs.specs.Runs.{Runs, count_of, start_of, image_of, end_of, length_of, image_end}
use Rattle.runs.specs.Legal.{Legal, DisjointIntervals}
use Rattle.runs.specs.Check.{max_runs, check_of}
use Rattle.runs.proofs.Legality.{Parted, homes, end_next, end_last}
use Rattle.runs.proofs.Accepted.{same, legal_unshared, accepted_legal, legal_accepted}

module _ (n : ℕ) (r : Runs) (c : Legal n r) where
  lengths : List ℕ
  lengths = map (length_of n r) (up_to (count_of r))

  length_at : (x : ℕ) → x < count_of r → get_or lengths x 0 ≡ length_of n r x
  unfolding lengths
  length_at x h =
      let l : x < length (up_to (count_of r)) = omega (arith, length_up 0 (count_of r)) in
      let e : get_or (up_to (count_of r)) x 0 ≡ x = omega (arith, get_d_up 0 (count_of r) x h) in
      get_d_map (length_of n r) (up_to (count_of r)) x 0 l ∙ ap (length_of n r) e

  -- two images of a legal list stand one before the other
  pub legal_disjoint : (x y : ℕ) → x < count_of r → y < count_of r → x ≢ y
      → (image_end n r x ≤ image_of r y) ⊎ (image_end n r y ≤ image_of r x)
  legal_disjoint x y h l d = go (lt_or_le (image_of r y) (image_end n r x)) (lt_or_le (image_of r x) (image_end n r y))
    where
      go : (image_of r y < image_end n r x) ⊎ (image_end n r x ≤ image_of r y)
          → (image_of r x < image_end n r y) ⊎ (image_end n r y ≤ image_of r x)
          → (image_end n r x ≤ image_of r y) ⊎ (image_end n r y ≤ image_of r x)
      go (inl a) (inl b) = absurd (legal_unshared n r c x y h l record { other = d; left = b; right = a })
      go (inl a) (inr b) = inr b
      go (inr a) b = inl a

  pub legal_intervals : DisjointIntervals n r
  legal_intervals = record {
    lengths = lengths;
    some = c.some;
    paired = c.paired;
    first = c.first;
    positive = λ x h. omega (arith, length_at x h, p.lasting x h);
    next = λ x h. omega (arith, length_at x (omega arith), p.lasting x (omega arith), end_next n r x h);
    last = λ x h. omega (arith, length_at x (omega arith), p.lasting x (omega arith), end_last n r x (omega arith));
    inside = λ x h. omega (arith, length_at x h, c.within x h);
    disjoint = λ x y h l d. side x y (length_at x h) (length_at y l) (legal_disjoint x y h l d);
  }
    where
      p : Parted n r
      p = homes n r c

      side : (x y : ℕ) → get_or lengths x 0 ≡ length_of n r x → get_or lengths y 0 ≡ length_of n r y
          → (image_end n r x ≤ image_of r y) ⊎ (image_end n r y ≤ image_of r x)
          → (image_of r x + get_or lengths x 0 ≤ image_of r y) ⊎ (image_of r y + get_or lengths y 0 ≤ image_of r x)
      side x y e f (inl a) = inl (omega arith)
      side x y e f (inr a) = inr (omega arith)

module _ (n : ℕ) (r : Runs) (c : DisjointIntervals n r) where
  -- the lengths are those that the starts give
  end_is : (x : ℕ) → x < count_of r → end_of n r x ≡ start_of r x + get_or c.lengths x 0
  end_is x h = go (lt_or_le (suc x) (count_of r))
    where
      go : (suc x < count_of r) ⊎ (count_of r ≤ suc x) → end_of n r x ≡ start_of r x + get_or c.lengths x 0
      go (inl l) = end_next n r x l ∙ c.next x l
      go (inr l) = end_last n r x l ∙ sym (c.last x (omega arith))

  -- d runs before the last
  below_by : (d x : ℕ) → suc (d + x) ≡ count_of r → start_of r x < n
  below_by zero x e = omega (arith, c.positive x (omega arith), c.last x (omega arith))
  below_by (suc d) x e = omega (arith, below_by d (suc x) (omega arith), c.next x (omega arith))

  pub intervals_legal : Legal n r
  intervals_legal = record {
    some = c.some;
    paired = c.paired;
    first = c.first;
    below = λ x h. below_by (count_of r - suc x) x (omega arith);
    rising = λ x h. omega (arith, c.next x h, c.positive x (omega arith));
    within = λ x h. omega (arith, end_is x h, c.inside x h);
    apart = λ x y p h l a b d e. same x y (λ z. go x y p a b d e (end_is x h) (end_is y l) (c.disjoint x y h l z));
  }
    where
      go : (x y p : ℕ) → image_of r x ≤ p → p < image_end n r x → image_of r y ≤ p → p < image_end n r y
          → end_of n r x ≡ start_of r x + get_or c.lengths x 0 → end_of n r y ≡ start_of r y + get_or c.lengths y 0
          → (image_of r x + get_or c.lengths x 0 ≤ image_of r y) ⊎ (image_of r y + get_or c.lengths y 0 ≤ image_of r x)
          → ⊥
      go x y p a b d e f g (inl h) = omega arith
      go x y p a b d e f g (inr h) = omega arith

-- check accepts exactly the disjoint interval sequences of at most 16,384 runs
pub accepted_intervals : (n : ℕ) (r : Runs) → check_of n r ≡ done tt → (count_of r ≤ max_runs) × DisjointIntervals n r
accepted_intervals n r e = let a = accepted_legal n r e in (a.1, legal_intervals n r a.0)

pub intervals_accepted : (n : ℕ) (r : Runs) → count_of r ≤ max_runs → DisjointIntervals n r → check_of n r ≡ done tt
intervals_accepted n r f c = legal_accepted n r (intervals_legal n r c) f
