-- Find goes on: for a place that is not below, it passes what it passed before. And a move from the interval found is
-- refused with 12 alone: 10, and 11 by the interval, can't arise.
use Prim.Native.Nat.{ℕ, suc, ◌+◌, ◌-◌, ◌≤◌, ◌<◌}
use mathlib.Core.Path.{◌≡◌, refl, subst}
use mathlib.Core.Bool.{Bool, true, false}
use mathlib.Core.List.{List, [], ◌∷◌}
use native.Mathlib.Numerals.{add-one}
use native.Mathlib.Omega.{arith}
use lib.ListN.{drop}
use lib.Dec.{leb}
use borrow.Author.Tests.{le-leb, leb-true}
use Rattle.order.specs.Lists.{Strict, count_below, leading}
use Rattle.order.proofs.Laws.{strict_sorted, count_gt}
use Rattle.order.proofs.Leading.{leading_more}
use Rattle.outcomes.specs.Outcome.{done, refused}
use Rattle.outcomes.proofs.Searches.{any_false}
use Rattle.runs.specs.Runs.{start_of, end_of}
use Rattle.runs.proofs.Walks.{up_to, leading_drop}
use Rattle.tables.specs.Tables.{Links, Tables, size_of, wrong_at, broken}
use Rattle.tables.specs.Parts.{ShapedLinks, Shaped, Measured, Located}
use Rattle.walks.specs.Move.{passed, found_at, unfindable, step_of, move_of}
use Rattle.walks.specs.Parts.{Starting}
use Rattle.walks.proofs.Steps.{findable_is, move_located, advance_broken, advance_on}
use Rattle.walks.proofs.Reached.{reached_index, reached_low, reached_high}

-- the leading elements at most i, and those at most j after them, are the leading elements at most j
leading_on : (l : List ℕ) (i j : ℕ) → i ≤ j
    → leading (λ s. leb s i) l + leading (λ s. leb s j) (drop (leading (λ s. leb s i) l) l) ≡ leading (λ s. leb s j) l
leading_on [] i j h = refl
leading_on (s ∷ ss) i j h = go (leb s i) refl (leading_on ss i j h)
  where
    go : (t : Bool) → leb s i ≡ t
        → leading (λ s. leb s i) ss + leading (λ s. leb s j) (drop (leading (λ s. leb s i) ss) ss) ≡ leading (λ s. leb s j) ss
        → (elim t as (λ b. ℕ) [ true ↦ suc (leading (λ s. leb s i) ss) | false ↦ 0 ])
        + leading (λ s. leb s j) (drop (elim t as (λ b. ℕ) [ true ↦ suc (leading (λ s. leb s i) ss) | false ↦ 0 ]) (s ∷ ss)) ≡ leading (λ s. leb s j) (s ∷ ss)
    go true e r =
        let k : leading (λ s. leb s j) (s ∷ ss) ≡ suc (leading (λ s. leb s j) ss) = leading_more (λ s. leb s j) (s ∷ ss) 0 (omega arith) (le-leb s j (omega (arith, leb-true s i e))) in
        omega (arith, k)
    go false e r = omega arith

passed_on : (l : List ℕ) (i j : ℕ) → i ≤ j → passed l 0 i + passed l (passed l 0 i) j ≡ passed l 0 j
unfolding passed
passed_on [] i j h = refl
passed_on (s ∷ ss) i j h = leading_on ss i j h

-- on any tables the walk for j goes on from the interval found for a place i that is not above
pub found_on : (k : Links) (i j : ℕ) → i ≤ j → found_at k i + passed k.list.starts (found_at k i) j ≡ found_at k j
unfolding found_at
found_on k i j h = passed_on k.list.starts i j h

pub found_first : (k : Links) (j : ℕ) → 0 + passed k.list.starts 0 j ≡ found_at k j
unfolding found_at
found_first k j = omega arith

-- where the starts rise and the first one is not above i, as many of them are not above i as the walk passes, and the first one
pub found_counted : (k : Links) (i c : ℕ) → Strict k.list.starts → 0 < size_of k → start_of k.list 0 ≤ i
    → c ≡ count_below (i + 1) k.list.starts → (0 < c) × (c - 1 ≡ found_at k i)
unfolding found_at passed
found_counted k i c up some low e =
    let l = k.list.starts in
    let h = count_gt (suc i) l (strict_sorted l up) 0 some (omega arith) in
    let d = rw add-one at e in
    rw (up_to i) (omega (arith, h, leading_drop l (suc i) 1 up h, d))

module _ (n : ℕ) (k : Links) (i : ℕ) (s : ShapedLinks k) where
  pub found_below : found_at k i < size_of k
  found_below = subst (λ (y : ℕ). y < size_of k) (found_first k i) (reached_index k.list.starts 0 i s.some)

  pub found_located : unfindable n k.list.starts i ≡ false → Located n k (found_at k i) i
  found_located f =
      let p = findable_is n k.list.starts i f in
      let e = found_first k i in
      record {
        entered = record { index = found_below; full = s.full };
        few = s.few;
        place = p.0;
        low = subst (λ (y : ℕ). start_of k.list y ≤ i) e (reached_low k.list.starts 0 i s.some p.1);
        high = subst (λ (y : ℕ). i < end_of n k.list y) e (reached_high k.list.starts 0 i s.some n p.0);
      }

-- so a move from the interval found begins there where all lengths are right
module _ (n : ℕ) (t : Tables) (i : ℕ) (s : Shaped n t) (right : Measured n t)
    (f : unfindable n t.links.list.starts i ≡ false) where
  found_starting : Starting n t (found_at t.links i) i
  found_starting =
      record {
        stands = record { shape = s; at = found_located n t.links i s.linked f };
        right = any_false (wrong_at n t) (size_of t.links) (found_at t.links i) right (found_below n t.links i s.linked);
      }

  pub move_broken : broken n t.links (found_at t.links i) i ≡ true
      → refused 12 (found_at t.links i) ≡ move_of n t (found_at t.links i) i
  move_broken b =
      let x = found_at t.links i in
      rw (move_located n t x i found_starting) (advance_broken n t.links x i b)

  pub move_on : broken n t.links (found_at t.links i) i ≡ false
      → done (step_of t.links (found_at t.links i) i) ≡ move_of n t (found_at t.links i) i
  move_on b =
      let x = found_at t.links i in
      rw (move_located n t x i found_starting) (advance_on n t.links x i b)
