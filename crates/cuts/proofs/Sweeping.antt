-- The sweep as an invariant for a loop: list₀ is the list handed in, r the list so far.
use Prim.Native.Nat.{ℕ, zero, suc, ◌+◌, ◌-◌, ◌*◌, ◌≤◌, ◌<◌}
use mathlib.Core.Path.{◌≡◌, refl, sym, ap, ◌∙◌}
use native.Mathlib.Omega.{arith}
use Rattle.runs.specs.Legal.{Legal}
use Rattle.runs.specs.Runs.{Runs, count_of, image_of, image_end}
use Rattle.runs.specs.Weight.{weight}
use Rattle.cuts.specs.Balance.{cut_place, cut_at, cutting, balanced, bound_of}
use Rattle.cuts.proofs.Cut.{cut_count}
use Rattle.cuts.proofs.Weights.{ample, ample_bound}
use Rattle.cuts.proofs.Balancing.{cutting_cuts, cutting_next, cutting_done, fuel_left, heavy_legal, balanced_count}
use Rattle.cuts.proofs.Swept.{SweptTo, swept_start, swept_end, swept_lowest, swept_cut, swept_cut_on, swept_back, swept_on, back, added, steps_left, steps_cut, steps_back, steps_on}

pub record Sweeping (d n : ℕ) (list₀ r : Runs) (P Q : ℕ) : Type 0 where
  pub swept : SweptTo d n r P Q
  pub cuts : ℕ
  pub counted : cuts + count_of r ≡ 2 * count_of list₀
  pub enough : count_of r ≤ d * ample d n r + cuts
  pub goal : cutting cuts d n r ≡ balanced d n list₀

-- the steps that are left
abbrev pub sweep_left : Runs → Runs → ℕ → ℕ → ℕ
sweep_left list₀ r P Q = steps_left (2 * count_of list₀ - count_of r) r P Q

pub sweeping_start : (d n : ℕ) (r : Runs) → Legal n r → Sweeping d n r r 0 0
unfolding balanced
sweeping_start d n r c = record {
  swept = swept_start d n r c;
  cuts = count_of r;
  counted = omega arith;
  enough = omega arith;
  goal = refl;
}

module _ (d n : ℕ) (many : 2 ≤ d) (list₀ : Runs) (c₀ : Legal n list₀) (r : Runs) (P Q : ℕ)
    (c : Sweeping d n list₀ r P Q) where
  pub sweeping_end : n ≤ P → r ≡ balanced d n list₀
  sweeping_end h = sym (cutting_done c.cuts d n r (swept_end d n r P Q c.swept h)) ∙ c.goal

  -- what is counted so far stays within the bound
  pub sweeping_fits : count_of r ≤ bound_of d (count_of list₀)
  sweeping_fits = omega (
    arith,
    balanced_count d n many list₀ c₀,
    (cutting_cuts d n many c.cuts r c.swept.legal).counted,
    ap count_of c.goal,
  )

  module _ (x : ℕ) (hx : x < count_of r) (at : image_of r x ≡ P) where
    pub sweeping_back : weight n r x < 2 * d → P < Q
        → Sweeping d n list₀ r Q Q × sweep_left list₀ r Q Q < sweep_left list₀ r P Q
    sweeping_back w l = (
      record {
        swept = swept_back d n r P Q c.swept x hx at w l;
        cuts = c.cuts;
        counted = c.counted;
        enough = c.enough;
        goal = c.goal;
      },
      steps_back (2 * count_of list₀ - count_of r) r P Q l,
    )

    pub sweeping_on : weight n r x < 2 * d → Q ≤ P → Sweeping d n list₀ r (image_end n r x) (image_end n r x)
        × sweep_left list₀ r (image_end n r x) (image_end n r x) < sweep_left list₀ r P Q
    sweeping_on w l = (
      record {
        swept = swept_on d n r P Q c.swept x hx at w (omega (arith, c.swept.ordered));
        cuts = c.cuts;
        counted = c.counted;
        enough = c.enough;
        goal = c.goal;
      },
      steps_on (2 * count_of list₀ - count_of r) r P Q n x c.swept.legal hx (omega (arith, c.swept.ordered)),
    )

    -- a cut, after which the sweep has come to T
    cut_to : 2 * d ≤ weight n r x → (T : ℕ) → Q ≤ T
        → SweptTo d n (cut_at d n r x) (back n (cut_at d n r x) (added d n r x) T) T
        → Sweeping d n list₀ (cut_at d n r x) (back n (cut_at d n r x) (added d n r x) T) T
        × sweep_left list₀ (cut_at d n r x) (back n (cut_at d n r x) (added d n r x) T) T < sweep_left list₀ r P Q
    cut_to w T m swept = go c.cuts c.counted c.enough c.goal
      where
        k : count_of (cut_at d n r x) ≡ suc (count_of r)
        k = cut_count n r c.swept.legal.paired x (cut_place d n r x) hx

        go : (g : ℕ) → g + count_of r ≡ 2 * count_of list₀ → count_of r ≤ d * ample d n r + g
            → cutting g d n r ≡ balanced d n list₀
            → Sweeping d n list₀ (cut_at d n r x) (back n (cut_at d n r x) (added d n r x) T) T
            × sweep_left list₀ (cut_at d n r x) (back n (cut_at d n r x) (added d n r x) T) T < sweep_left list₀ r P Q
        go zero a e f = absurd (omega (
          arith,
          fuel_left d n many 0 r x c.swept.legal hx w e,
          ample_bound d n (cut_at d n r x) (heavy_legal d n many r c.swept.legal x hx w),
        ))
        go (suc g) a e f =
            let p : 2 * count_of list₀ - count_of r ≡ suc g = omega arith in
            let q : 2 * count_of list₀ - count_of (cut_at d n r x) ≡ g = omega (arith, k) in (
              record {
                swept = swept;
                cuts = g;
                counted = omega (arith, k);
                enough = omega (arith, fuel_left d n many (suc g) r x c.swept.legal hx w e);
                goal = sym (cutting_next g d n r x c.swept.legal (swept_lowest d n r P Q c.swept x hx at w))
                    ∙ f;
              },
              rw (p, q) (steps_cut g r P Q x (cut_place d n r x) (back n (cut_at d n r x) (added d n r x) T) T
                  c.swept.legal.paired hx m),
            )

    pub sweeping_cut : 2 * d ≤ weight n r x
        → Sweeping d n list₀ (cut_at d n r x) (back n (cut_at d n r x) (added d n r x) Q) Q
        × sweep_left list₀ (cut_at d n r x) (back n (cut_at d n r x) (added d n r x) Q) Q < sweep_left list₀ r P Q
    sweeping_cut w = cut_to w Q (omega arith) (swept_cut d n r P Q c.swept x hx at many w)

    -- at Q, on to the second part
    pub sweeping_cut_on : 2 * d ≤ weight n r x → Q ≤ P → let s = cut_place d n r x in
        Sweeping d n list₀ (cut_at d n r x) (back n (cut_at d n r x) (added d n r x) s) s
        × sweep_left list₀ (cut_at d n r x) (back n (cut_at d n r x) (added d n r x) s) s < sweep_left list₀ r P Q
    sweeping_cut_on w l =
        let o = swept_cut_on d n r P Q c.swept x hx at many w (omega (arith, c.swept.ordered)) in
        cut_to w (cut_place d n r x) (omega (arith, o.0)) o.1
