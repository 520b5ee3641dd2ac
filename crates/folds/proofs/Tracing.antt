-- A list that traces a function: in each of its runs the function goes up by one from place to place. A list that traces a
-- permutation is legal, and has a start wherever the function breaks.
use Prim.Native.Nat.{ℕ, suc, ◌-◌, ◌≤◌, ◌<◌}
use mathlib.Core.Path.{◌≡◌, refl, sym, ◌∙◌}
use mathlib.Core.Bool.{true, false, true≢false}
use mathlib.Core.Logic.{◌⊎◌, inl, inr}
use native.Mathlib.Omega.{arith}
use lib.ListN.{length}
use lib.Dec.{eqb}
use borrow.Author.Tests.{eq-eqb, ne_eqb, eqb-true, not-false}
use Rattle.order.proofs.Laws.{lt_or_le, or_false}
use Rattle.runs.specs.Legal.{Legal}
use Rattle.runs.specs.Runs.{Runs, count_of, start_of, image_of, end_of, image_end, carry, carry_back, map_of}
use Rattle.runs.proofs.Legality.{Parted, parted, homes, home, home_one, map_at}
use Rattle.folds.specs.Fold.{breaks}

-- what a test for a break shows
pub breaks_first : (f : ℕ → ℕ) → breaks f 0 ≡ true
unfolding breaks
breaks_first f = refl

pub follows_on : (f : ℕ → ℕ) (p : ℕ) → 0 < p → f p ≡ suc (f (p - 1)) → breaks f p ≡ false
unfolding breaks
follows_on f p h e = simp (ne_eqb p 0 (omega arith), eq-eqb (f p) (suc (f (p - 1))) e)

pub no_break : (f : ℕ → ℕ) (p : ℕ) → breaks f p ≡ false → f p ≡ suc (f (p - 1))
unfolding breaks
no_break f p e = eqb-true (f p) (suc (f (p - 1))) (not-false _ (or_false (eqb p 0) _ e).1)

-- the places below n lie in the runs of q as in a legal list, and each run takes its places where f does
pub record Traces (n : ℕ) (f : ℕ → ℕ) (q : Runs) : Type 0 where
  pub some : 0 < count_of q
  pub paired : length q.images ≡ count_of q
  pub first : start_of q 0 ≡ 0
  pub below : (x : ℕ) → x < count_of q → start_of q x < n
  pub rising : (x : ℕ) → suc x < count_of q → start_of q x < start_of q (suc x)
  pub traced : (x p : ℕ) → x < count_of q → start_of q x ≤ p → p < end_of n q x → f p ≡ carry q x p

pub legal_traces : (n : ℕ) (r : Runs) → Legal n r → Traces n (map_of n r) r
legal_traces n r c = record {
  some = c.some;
  paired = c.paired;
  first = c.first;
  below = c.below;
  rising = c.rising;
  traced = map_at n r (homes n r c);
}

module _ (n : ℕ) (f : ℕ → ℕ) (q : Runs) (c : Traces n f q) where
  traced_homes : Parted n q
  traced_homes = parted n q c.some c.first c.rising c.below

  pub traced_map : (p : ℕ) → p < n → map_of n q p ≡ f p
  traced_map p h =
      let x = home n q traced_homes p h in
      map_at n q traced_homes x.0 p x.1 x.2 x.3 ∙ sym (c.traced x.0 p x.1 x.2 x.3)

  -- where the function breaks there is a start
  pub break_start : (p : ℕ) → p < n → breaks f p ≡ true → (x : ℕ) × (x < count_of q) × (start_of q x ≡ p)
  break_start p h e = go (home n q traced_homes p h)
    where
      go : (x : ℕ) × (x < count_of q) × (start_of q x ≤ p) × (p < end_of n q x)
          → (x : ℕ) × (x < count_of q) × (start_of q x ≡ p)
      go (x, l, a, b) = at (lt_or_le (start_of q x) p)
        where
          at : (start_of q x < p) ⊎ (p ≤ start_of q x) → (x : ℕ) × (x < count_of q) × (start_of q x ≡ p)
          at (inl k) = absurd (true≢false (sym e ∙ follows_on f p (omega arith)
              (omega (arith, c.traced x p l a b, c.traced x (p - 1) l (omega arith) (omega arith)))))
          at (inr k) = (x, l, omega arith)

  module _ (below : (p : ℕ) → p < n → f p < n) (one : (p p' : ℕ) → p < n → p' < n → f p ≡ f p' → p ≡ p') where
    -- the place of run x that comes to p, of x's image
    source : (x p : ℕ) → x < count_of q → image_of q x ≤ p → p < image_end n q x
        → (s : ℕ) × (s < n) × (start_of q x ≤ s) × (s < end_of n q x) × (f s ≡ p)
    source x p h a b =
        let s = carry_back q x p in
        let e : s < end_of n q x = omega arith in
        (s, omega (arith, traced_homes.ending x h), omega arith, e, c.traced x s h (omega arith) e ∙ omega arith)

    pub traced_legal : Legal n q
    traced_legal = record {
      some = c.some;
      paired = c.paired;
      first = c.first;
      below = c.below;
      rising = c.rising;
      within = λ x h.
          let l = traced_homes.lasting x h in
          let m = traced_homes.ending x h in
          omega (arith, below (end_of n q x - 1) (omega arith), c.traced x (end_of n q x - 1) h (omega arith) (omega arith));
      apart = λ x y p hx hy a b d e.
          let s = source x p hx a b in
          let t = source y p hy d e in
          let same : s.0 ≡ t.0 = one s.0 t.0 s.1 t.1 (s.4 ∙ sym t.4) in
          home_one n q traced_homes x y s.0 hx hy s.2 s.3 (omega (arith, t.2)) (omega (arith, t.3));
    }
