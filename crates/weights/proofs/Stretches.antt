-- What a weight comes to, by the facts that its tests show, and the stretch of starts that has it.
use Prim.Native.Nat.{ℕ, ◌+◌, ◌-◌, ◌≤◌, ◌<◌}
use mathlib.Core.Path.{◌≡◌, refl, sym, ap, ◌∙◌}
use mathlib.Core.Bool.{Bool, true, false}
use mathlib.Core.List.{[]}
use native.Mathlib.Omega.{arith}
use lib.ListN.{length, take, drop, length-take, length-drop}
use lib.Dec.{ltb, leb, eqb}
use borrow.Author.Tests.{lt-ltb, le-ltb, le-leb, lt-leb, leb-false}
use Rattle.order.proofs.Laws.{or_false}
use Rattle.outcomes.specs.Outcome.{Outcome, done, refused, test, judge, map_done, ◌then◌else◌}
use Rattle.order.specs.Lists.{leading}
use Rattle.runs.specs.Runs.{start_of, image_of}
use Rattle.runs.proofs.Walks.{up_to_end}
use Rattle.outcomes.proofs.Judging.{judge_map, judge_first, judge_done}
use Rattle.tables.specs.Tables.{Links, Tables, size_of, max_intervals, holder_of, misshapen, unheld, wrong_at}
use Rattle.tables.specs.Tables.{shape_test, index_test, length_test}
use Rattle.weights.specs.Under.{image_end_at, unplaced, under_first, under_count, under_tests}
use Rattle.weights.specs.Under.{weight_of, under_at, under_of, stretch, starts_under_of}
use Rattle.weights.specs.declared.Stretch.{Stretch}
use Rattle.tables.specs.Parts.{Shaped, Indexed, Entered}
use Rattle.weights.specs.Parts.{size_under}
use Rattle.order.proofs.Leading.{leading_within}
use Rattle.tables.proofs.Passing.{shaped, held_is}

module _ (k : Links) (x : ℕ) where
  -- where the stretch begins
  pub first_is : (u : ℕ) → u ≡ (eqb (start_of k.list (holder_of k x)) (image_of k.list x) then 0 else 1)
      → holder_of k x + u ≡ under_first k x
  unfolding under_first
  first_is u e = rw e

  first_near : under_first k x ≤ holder_of k x + 1
  unfolding under_first
  first_near = go (eqb (start_of k.list (holder_of k x)) (image_of k.list x))
    where
      go : (b : Bool) → holder_of k x + (b then 0 else 1) ≤ holder_of k x + 1
      go true = omega arith
      go false = omega arith

  pub first_within : (f : ℕ) → f ≡ under_first k x → unheld k x ≡ false → f ≤ size_of k
  first_within f e h = omega (arith, e, first_near, held_is k x h)

-- 12 but for the length
module _ (n : ℕ) (t : Tables) (x : ℕ) where
  pub unplaced_unheld : unheld t.links x ≡ true → unplaced n t x ≡ true
  unfolding unplaced
  unplaced_unheld h = simp h

  module _ (h : unheld t.links x ≡ false) where
    pub unplaced_far : n < image_end_at t x → unplaced n t x ≡ true
    unfolding unplaced
    unplaced_far l = simp (h, lt-ltb _ _ l)

    pub placed : image_end_at t x ≤ n → unplaced n t x ≡ false
    unfolding unplaced
    placed l = simp (h, le-ltb _ _ l)

module _ (n : ℕ) (t : Tables) (x : ℕ) where
  -- 12 and the size
  pub size_mismatch : wrong_at n t x ≡ true → refused 12 x ≡ size_under n t x
  unfolding size_under judge
  size_mismatch w = simp w

  module _ (w : wrong_at n t x ≡ false) where
    pub size_broken : unplaced n t x ≡ true → refused 12 x ≡ size_under n t x
    unfolding size_under judge
    size_broken b = simp (w, b)

    pub size_done : unplaced n t x ≡ false → done (under_count t x) ≡ size_under n t x
    unfolding size_under judge
    size_done b = simp (w, b)

    pub size_to : unplaced n t x ≡ false
        → (f e o : ℕ) → f ≡ under_first t.links x → e ≡ image_end_at t x → 0 < e
        → o ≡ leading (λ s. leb s (e - 1)) (drop f t.links.list.starts)
        → done o ≡ size_under n t x
    unfolding under_count
    size_to b f e o p q h r =
        let u = ap (λ (g : ℕ → Bool). leading g (drop f t.links.list.starts)) (up_to_end e h) in
        let z : o ≡ under_count t x = r ∙ u ∙ simp (q, p) in
        ap done z ∙ size_done b

  -- 9 and 10, and what is left of a weight
  pub weight_shape : (b : Bool) → b ≡ misshapen n t → b ≡ true → refused 9 0 ≡ weight_of n t x
  unfolding weight_of judge
  weight_shape b q e = simp (sym q ∙ e)

  pub weight_index : Shaped n t → size_of t.links ≤ x → refused 10 x ≡ weight_of n t x
  unfolding weight_of judge
  weight_index s h = simp (s.fits, le-leb _ _ h)

  pub weight_indexed : Indexed n t x → weight_of n t x ≡ size_under n t x
  unfolding weight_of size_under judge
  weight_indexed i = simp (i.shape.fits, lt-leb _ _ i.index)

  -- a weight that was given
  module _ (w : ℕ) (e : done w ≡ weight_of n t x) where
    passes : (Indexed n t x) × (unplaced n t x ≡ false) × (w ≡ under_count t x)
    unfolding weight_of
    passes =
        let f = judge_first (shape_test n t) _ _ w e in
        let g = judge_first (index_test t.links x) _ _ w f.1 in
        let l = judge_first (length_test n t x) _ _ w g.1 in
        let h = judge_first (test 12 (unplaced n t x) x) [] (under_count t x) w l.1 in
        let i : Indexed n t x = record { shape = shaped n t _ refl f.0; index = leb-false _ _ g.0 } in
        (i, h.0, sym (judge_done [] _ w (sym h.1)))

    pub weight_held : unheld t.links x ≡ false
    unfolding unplaced
    weight_held = (or_false (unheld t.links x) _ passes.1).0

    pub weight_entered : Entered t.links x
    weight_entered =
        let i = passes.0 in record { index = i.index; full = i.shape.linked.full }

    pub stretch_within : (f : ℕ) → f ≡ under_first t.links x → f + w ≤ size_of t.links
    unfolding under_count
    stretch_within f p =
        let h = first_within t.links x (under_first t.links x) refl weight_held in
        let l = leading_within (λ s. ltb s (image_end_at t x)) t.links.list.starts (under_first t.links x) h in
        omega (arith, p, passes.2)

    pub first_fits : (f : ℕ) → f ≡ under_first t.links x → f ≤ max_intervals
    first_fits f p = omega (arith, stretch_within f p, passes.0.shape.linked.few)

  -- the tests of the stretch are a weight's, and the weight is its count
  under_by_weight : under_of n t x ≡ map_done (λ _. under_at t x) (weight_of n t x)
  unfolding under_of weight_of
  under_by_weight = judge_map (under_tests n t x) (under_count t x) (under_at t x)

  pub weight_counts : weight_of n t x ≡ map_done (λ s. s.count) (under_of n t x)
  unfolding under_of weight_of map_done
  weight_counts = judge_map (under_tests n t x) (under_at t x) (under_count t x) ∙ go (under_of n t x) refl
    where
      go : (o : Outcome Stretch) → under_of n t x ≡ o → map_done (λ _. under_count t x) o ≡ map_done (λ s. s.count) o
      go (done s) e = ap (λ (a : Stretch). done a.count) (judge_done (under_tests n t x) (under_at t x) s e)
      go (refused k p) e = refl

  pub under_done : (w : ℕ) (e : done w ≡ weight_of n t x) (f : ℕ) → f ≡ under_first t.links x
      → done (record { first = f; count = w }) ≡ under_of n t x
  unfolding map_done
  under_done w e f p = rw (under_by_weight, ← e, p, (passes w e).2)

  pub under_unweighed : (k p : ℕ) → refused k p ≡ weight_of n t x → refused k p ≡ under_of n t x
  unfolding map_done
  under_unweighed k p e = rw (under_by_weight, ← e)

  -- a stretch that was given
  module _ (s : Stretch) (e : done s ≡ under_of n t x) where
    first_told : s.first ≡ under_first t.links x
    unfolding under_of
    first_told = ap (λ (a : Stretch). a.first) (sym (judge_done (under_tests n t x) (under_at t x) s (sym e)))

    pub under_within : s.first + s.count ≤ size_of t.links
    unfolding map_done
    under_within = stretch_within s.count (rw (weight_counts, ← e)) s.first first_told

    -- the part handed back, named by its two ends
    pub under_part : take (s.first + s.count - s.first) (drop s.first t.links.list.starts) ≡ starts_under_of n t x
    unfolding starts_under_of stretch
    under_part = let z : s.first + s.count - s.first ≡ s.count = omega arith in rw (z, ← e)

  -- it has as many starts as the weight says
  pub under_length : (w : ℕ) (e : done w ≡ weight_of n t x) → length (starts_under_of n t x) ≡ w
  unfolding starts_under_of stretch
  under_length w e =
      let f = under_first t.links x in
      rw (← under_done w e f refl)
      (omega (
        arith,
        length-take w (drop f t.links.list.starts),
        length-drop f t.links.list.starts,
        stretch_within w e f refl,
      ))

  -- a refusal, of the stretch or of a weight
  pub under_empty : (k p : ℕ) → refused k p ≡ under_of n t x → [] ≡ starts_under_of n t x
  unfolding starts_under_of stretch
  under_empty k p e = rw (← e)

  pub under_none : (k p : ℕ) → refused k p ≡ weight_of n t x → [] ≡ starts_under_of n t x
  under_none k p e = under_empty k p (under_unweighed k p e)
