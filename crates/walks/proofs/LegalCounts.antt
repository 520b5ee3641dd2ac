-- What a move of a legal list counts: the starts above the image and not above the place reached are passed, and one above that
-- place, if there is one, ends the walk. So the plain walk counts what a walk from the holder does; and the count is bounded where no
-- interval is heavy.
use Prim.Native.Nat.{ℕ, suc, ◌+◌, ◌*◌, ◌≤◌, ◌<◌}
use mathlib.Core.Path.{◌≡◌, sym, ap, ◌∙◌}
use mathlib.Core.Bool.{◌&&◌}
use mathlib.Core.Logic.{◌⊎◌, inl, inr}
use native.Mathlib.Omega.{arith}
use lib.ListN.{length}
use lib.Dec.{ltb, leb}
use borrow.Author.Tests.{lt-ltb, le-ltb, ltb-true}
use Rattle.order.specs.Lists.{bit}
use Rattle.order.proofs.Laws.{lt_or_le, strict_sorted, sorted_at, bit_le}
use Rattle.outcomes.specs.Search.{keep}
use Rattle.outcomes.proofs.Searches.{any_true, any_none}
use Rattle.runs.specs.Runs.{Runs, count_of, start_of, image_of, end_of, run_at, carry, map_of}
use Rattle.runs.specs.Legal.{Legal}
use Rattle.runs.specs.Weight.{weight}
use Rattle.runs.proofs.Legality.{homes, home, run_at_lem, own, end_next}
use Rattle.runs.proofs.Walks.{walk_passed, walk_count_lem, walk_bound, above_to, map_in}
use Rattle.walks.specs.Move.{passed, walk_count}
use Rattle.walks.specs.Plain.{start_above, plain_count, max_count, plain_move}
use Rattle.walks.proofs.StartsRead.{count_is}

module _ (n : ℕ) (r : Runs) (c : Legal n r) where
  -- a start lies above a place exactly where the run that has it is not the last
  start_above_lem : (q : ℕ) → q < n → start_above r q ≡ ltb (suc (run_at n r q)) (count_of r)
  start_above_lem q h = go (lt_or_le (suc (run_at n r q)) (count_of r))
    where
      o : (run_at n r q < count_of r) × (start_of r (run_at n r q) ≤ q) × (q < end_of n r (run_at n r q))
      o = own n r c q h

      go : (suc (run_at n r q) < count_of r) ⊎ (count_of r ≤ suc (run_at n r q)) → start_above r q ≡ ltb (suc (run_at n r q)) (count_of r)
      go (inl l) =
          any_true _ (count_of r) (suc (run_at n r q)) l
          (lt-ltb q (start_of r (suc (run_at n r q))) (omega (arith, o.2, end_next n r (run_at n r q) l)))
          ∙ sym (lt-ltb _ _ l)
      go (inr l) =
          any_none _ (count_of r)
          (λ x k e. omega (arith, o.1, ltb-true q (start_of r x) e, sorted_at r.starts (strict_sorted r.starts (homes n r c).up) x (run_at n r q) (omega arith) o.0))
          ∙ sym (le-ltb _ _ l)

  module _ (p : ℕ) (h : p < n) where
    pub legal_interval : run_at n r (image_of r (run_at n r p)) + passed r.starts (run_at n r (image_of r (run_at n r p))) (map_of n r p)
        ≡ run_at n r (map_of n r p)
    unfolding passed
    legal_interval =
        let i = image_of r (run_at n r p) in
        let j = map_in n r c p h in
        omega (arith, walk_passed n r (homes n r c) i (map_of n r p) j.0 j.2)

    legal_passed : passed r.starts (run_at n r (image_of r (run_at n r p))) (map_of n r p)
        ≡ length (keep (λ s. ltb (image_of r (run_at n r p)) s && leb s (map_of n r p)) r.starts)
    legal_passed =
        let i = image_of r (run_at n r p) in
        let j = map_in n r c p h in
        let w = walk_count_lem n r (homes n r c) i (map_of n r p) j.0 j.2 in
        omega (arith, legal_interval, above_to i (map_of n r p) r.starts)

    pub legal_count : walk_count r.starts (run_at n r (image_of r (run_at n r p))) (map_of n r p) ≡ plain_count n r p (map_of n r p)
    legal_count =
        let i = image_of r (run_at n r p) in
        let j = map_in n r c p h in
        let e : ltb (suc (run_at n r i + passed r.starts (run_at n r i) (map_of n r p))) (count_of r) ≡ start_above r (map_of n r p) =
        ap (λ (x : ℕ). ltb (suc x) (count_of r)) legal_interval ∙ sym (start_above_lem (map_of n r p) j.2) in
        count_is r.starts (run_at n r i) (map_of n r p) (own n r c i (omega (arith, j.0, j.2))).0
        ∙ (λ k. legal_passed k + bit (e k))

-- a move counts no more than max_count d where every weight is below 2d
pub count_most : (n d : ℕ) (r t : Runs) → Legal n t → ((p : ℕ) → p < n → map_of n t p ≡ map_of n r p)
    → ((x : ℕ) → x < count_of t → weight n t x < 2 * d) → (p : ℕ) → p < n → (plain_move n r t p).count ≤ max_count d
unfolding plain_move
count_most n d r t c same light p h = go (home n t (homes n t c) p h)
  where
    go : (x : ℕ) × (x < count_of t) × (start_of t x ≤ p) × (p < end_of n t x) → (plain_move n r t p).count ≤ max_count d
    go (x, hx, a, b) =
        rw (← same p h, run_at_lem n t (homes n t c) x p hx a b)
        (omega (arith, above_to (image_of t x) (carry t x p) t.starts, walk_bound n t c x p hx a b, light x hx, bit_le (start_above t (carry t x p))))
