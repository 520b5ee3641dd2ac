-- Balancing ends, and what its result is: each cut makes one more interval of weight d or more, and there is no room
-- for many of these.
use Prim.Native.Nat.{ℕ, zero, suc, ◌+◌, ◌-◌, ◌*◌, ◌≤◌, ◌<◌, suc-le-suc}
use mathlib.Core.Path.{◌≡◌, refl, sym, ◌∙◌}
use mathlib.Core.Bool.{Bool, true, not, ◌&&◌, false≢true}
use mathlib.Core.Logic.{◌⊎◌, inl, inr}
use native.Mathlib.Nat.{le-div_iff_mul-le, mul-le-mul_left}
use native.Mathlib.Omega.{arith}
use lib.ListN.{get_or}
use lib.Dec.{ltb}
use borrow.Author.Tests.{le-leb, leb-true, lt-ltb, le-ltb, ltb-true, not-true}
use Rattle.outcomes.specs.Search.{first_below, any_below}
use Rattle.outcomes.proofs.Searches.{first_true, first_least, first_only, any_false, any_none}
use Rattle.order.proofs.Laws.{lt_or_le}
use Rattle.runs.proofs.Sums.{and_true}
use Rattle.runs.specs.Legal.{Legal}
use Rattle.runs.specs.Runs.{Runs, count_of, start_of, image_of, image_end, map_of}
use Rattle.runs.specs.Weight.{under, weight}
use Rattle.cuts.specs.Balance.{heavy, lowest_heavy, pick, cut_at, cutting, balanced, bound_of}
use Rattle.runs.proofs.Legality.{homes}
use Rattle.cuts.proofs.Refine.{Refines, refines_self, refines_on, refined_legal, refined_map, refined_starts}
use Rattle.cuts.proofs.Cut.{cut_count, cut_refines}
use Rattle.cuts.proofs.Weights.{place, ample, ample_bound, ample_grows}

abbrev lower : ℕ → ℕ → Runs → ℕ → ℕ → Bool
lower d n r x y = heavy d n r y && ltb (image_of r y) (image_of r x)

-- x is heavy, and no heavy interval has a lower image
pub record Lowest (d n : ℕ) (r : Runs) (x : ℕ) : Type 0 where
  pub known : x < count_of r
  pub weighs : 2 * d ≤ weight n r x
  pub lowest : (y : ℕ) → y < count_of r → 2 * d ≤ weight n r y → image_of r x ≤ image_of r y

module _ (d n : ℕ) (r : Runs) where
  lower_is : (x y : ℕ) → lower d n r x y ≡ true → (2 * d ≤ weight n r y) × (image_of r y < image_of r x)
  lower_is x y e =
      let i = and_true (heavy d n r y) (ltb (image_of r y) (image_of r x)) e in
      (leb-true (2 * d) (weight n r y) i.0, ltb-true (image_of r y) (image_of r x) i.1)

  lowest_true : (x : ℕ) → Lowest d n r x → lowest_heavy d n r x ≡ true
  lowest_true x l = rw (
    le-leb (2 * d) (weight n r x) l.weighs,
    any_none (lower d n r x) (count_of r) (λ y h e. let i = lower_is x y e in omega (arith, l.lowest y h i.0)),
  )

  lowest_is : (x : ℕ) → x < count_of r → lowest_heavy d n r x ≡ true → Lowest d n r x
  lowest_is x h e = record {
    known = h;
    weighs = leb-true (2 * d) (weight n r x) i.0;
    lowest = λ y hy w. go y hy w (lt_or_le (image_of r y) (image_of r x));
  }
    where
      i : (heavy d n r x ≡ true) × (not (any_below (lower d n r x) (count_of r)) ≡ true)
      i = and_true (heavy d n r x) (not (any_below (lower d n r x) (count_of r))) e

      go : (y : ℕ) → y < count_of r → 2 * d ≤ weight n r y → (image_of r y < image_of r x) ⊎ (image_of r x ≤ image_of r y)
          → image_of r x ≤ image_of r y
      go y hy w (inl l) = absurd (false≢true (sym (any_false (lower d n r x) (count_of r) y (not-true _ i.1) hy)
          ∙ rw (le-leb (2 * d) (weight n r y) w, lt-ltb (image_of r y) (image_of r x) l)))
      go y hy w (inr l) = l

  -- the interval that is cut next has the lowest image of the heavy ones
  pub pick_lowest : pick d n r < count_of r → Lowest d n r (pick d n r)
  pick_lowest h = lowest_is (pick d n r) h (first_true (lowest_heavy d n r) (count_of r) h)

  -- and there is one as long as one is heavy
  lower_or : (x : ℕ) → x < count_of r → 2 * d ≤ weight n r x
      → ((z : ℕ) × (z < count_of r) × (2 * d ≤ weight n r z) × (image_of r z < image_of r x)) ⊎ Lowest d n r x
  lower_or x h w = go (lt_or_le (first_below (lower d n r x) (count_of r)) (count_of r))
    where
      go : (first_below (lower d n r x) (count_of r) < count_of r) ⊎ (count_of r ≤ first_below (lower d n r x) (count_of r))
          → ((z : ℕ) × (z < count_of r) × (2 * d ≤ weight n r z) × (image_of r z < image_of r x)) ⊎ Lowest d n r x
      go (inl a) = let i = lower_is x (first_below (lower d n r x) (count_of r))
          (first_true (lower d n r x) (count_of r) a) in inl (first_below (lower d n r x) (count_of r), a, i.0, i.1)
      go (inr a) = inr (record {
        known = h;
        weighs = w;
        lowest = λ y hy v. at y hy v (lt_or_le (image_of r y) (image_of r x));
      })
        where
          at : (y : ℕ) → y < count_of r → 2 * d ≤ weight n r y
              → (image_of r y < image_of r x) ⊎ (image_of r x ≤ image_of r y) → image_of r x ≤ image_of r y
          at y hy v (inl l) = absurd
              (omega (
                arith,
                first_least (lower d n r x) (count_of r) y hy
                    (rw (le-leb (2 * d) (weight n r y) v, lt-ltb (image_of r y) (image_of r x) l)),
              ))
          at y hy v (inr l) = l

  lowest_one : (m x : ℕ) → image_of r x ≤ m → x < count_of r → 2 * d ≤ weight n r x → pick d n r < count_of r
  lowest_one zero x l h w = go (lower_or x h w)
    where
      go : ((z : ℕ) × (z < count_of r) × (2 * d ≤ weight n r z) × (image_of r z < image_of r x)) ⊎ Lowest d n r x
          → pick d n r < count_of r
      go (inl i) = absurd (omega arith)
      go (inr i) = omega (arith, first_least (lowest_heavy d n r) (count_of r) x h (lowest_true x i))
  lowest_one (suc m) x l h w = go (lower_or x h w) (lowest_one m)
    where
      go : ((z : ℕ) × (z < count_of r) × (2 * d ≤ weight n r z) × (image_of r z < image_of r x)) ⊎ Lowest d n r x
          → ((z : ℕ) → image_of r z ≤ m → z < count_of r → 2 * d ≤ weight n r z → pick d n r < count_of r)
          → pick d n r < count_of r
      go (inl i) more = more i.0 (omega arith) i.1 i.2
      go (inr i) more = omega (arith, first_least (lowest_heavy d n r) (count_of r) x h (lowest_true x i))

  pub pick_none : count_of r ≤ pick d n r → (x : ℕ) → x < count_of r → weight n r x < 2 * d
  pick_none h x hx = go (lt_or_le (weight n r x) (2 * d))
    where
      go : (weight n r x < 2 * d) ⊎ (2 * d ≤ weight n r x) → weight n r x < 2 * d
      go (inl l) = l
      go (inr l) = absurd (omega (arith, lowest_one (image_of r x) x (omega arith) hx l))

  pub pick_is : Legal n r → (x : ℕ) → Lowest d n r x → pick d n r ≡ x
  pick_is c x l = first_only (lowest_heavy d n r) (count_of r) x l.known (lowest_true x l) (λ y hy e. same y (lowest_is y hy e))
    where
      same : (y : ℕ) → Lowest d n r y → y ≡ x
      same y m =
          let e : image_of r y ≡ image_of r x =
          omega (arith, m.lowest x l.known l.weighs, l.lowest y m.known m.weighs) in
          c.apart y x (image_of r x) m.known l.known (omega arith)
          (omega (arith, (homes n r c).lasting y m.known)) (omega arith)
          (omega (arith, (homes n r c).lasting x l.known))

  pub cutting_step : (f : ℕ) → pick d n r < count_of r
      → cutting (suc f) d n r ≡ cutting f d n (cut_at d n r (pick d n r))
  unfolding cutting
  cutting_step f h = rw (lt-ltb (pick d n r) (count_of r) h, cutting)

  pub cutting_rest : (f : ℕ) → count_of r ≤ pick d n r → cutting f d n r ≡ r
  unfolding cutting
  cutting_rest zero h = refl
  cutting_rest (suc f) h = rw (le-ltb (pick d n r) (count_of r) h, cutting)

-- no interval is heavy
abbrev pub Light : ℕ → ℕ → Runs → Type 0
Light d n r = (x : ℕ) → x < count_of r → weight n r x < 2 * d

pub cutting_done : (f d n : ℕ) (r : Runs) → Light d n r → cutting f d n r ≡ r
cutting_done f d n r l = go (lt_or_le (pick d n r) (count_of r))
  where
    go : (pick d n r < count_of r) ⊎ (count_of r ≤ pick d n r) → cutting f d n r ≡ r
    go (inl h) = absurd (omega (arith, l (pick d n r) h, (pick_lowest d n r h).weighs))
    go (inr h) = cutting_rest d n r f h

-- once no interval is heavy, more fuel changes nothing
cutting_more : (f g d n : ℕ) (r : Runs) → f ≤ g → Light d n (cutting f d n r) → cutting g d n r ≡ cutting f d n r
unfolding cutting
cutting_more zero g d n r h l = cutting_done g d n r l
cutting_more (suc f) zero d n r h l = absurd (omega arith)
cutting_more (suc f) (suc g) d n r h l =
    go (lt_or_le (pick d n r) (count_of r)) (cutting_more f g d n (cut_at d n r (pick d n r)) (omega arith))
  where
    go : (pick d n r < count_of r) ⊎ (count_of r ≤ pick d n r)
        → (Light d n (cutting f d n (cut_at d n r (pick d n r)))
        → cutting g d n (cut_at d n r (pick d n r)) ≡ cutting f d n (cut_at d n r (pick d n r)))
        → cutting (suc g) d n r ≡ cutting (suc f) d n r
    go (inl m) same =
        cutting_step d n r g m ∙ same (rw (← cutting_step d n r f m) l) ∙ sym (cutting_step d n r f m)
    go (inr m) same = cutting_rest d n r (suc g) m ∙ sym (cutting_rest d n r (suc f) m)

pub cutting_next : (f d n : ℕ) (r : Runs) (x : ℕ) → Legal n r → Lowest d n r x
    → cutting (suc f) d n r ≡ cutting f d n (cut_at d n r x)
cutting_next f d n r x c l = let e = pick_is d n r c x l in cutting_step d n r f (rw e l.known) ∙ rw e

-- c cuts make c intervals more, and at least c more of weight d or more
pub record Cuts (d n f : ℕ) (r q : Runs) : Type 0 where
  pub cuts : ℕ
  pub fuelled : cuts ≤ f
  pub counted : count_of q ≡ count_of r + cuts
  pub grown : ample d n r + cuts ≤ ample d n q

module _ (d n : ℕ) (many : 2 ≤ d) where
  heavy_place : (r : Runs) → Legal n r → (x : ℕ) → 2 * d ≤ weight n r x
      → (image_of r x < get_or (under n r x) d 0) × (get_or (under n r x) d 0 < image_end n r x)
  heavy_place r c x w = let p = place d n r c x (omega arith) (omega arith) in (p.0, p.1)

  pub heavy_refines : (r : Runs) → Legal n r → (x : ℕ) → x < count_of r → 2 * d ≤ weight n r x
      → Refines n r (cut_at d n r x)
  heavy_refines r c x h w = let p = heavy_place r c x w in
      cut_refines n r c x (get_or (under n r x) d 0) h p.0 p.1

  pub heavy_legal : (r : Runs) → Legal n r → (x : ℕ) → x < count_of r → 2 * d ≤ weight n r x → Legal n (cut_at d n r x)
  heavy_legal r c x h w = refined_legal n r (cut_at d n r x) c (heavy_refines r c x h w)

  -- one induction for all that is said of the cutting
  pub cutting_ind : (P : ℕ → Runs → Runs → Type 0)
      → ((f : ℕ) (r : Runs) → Legal n r → Light d n r → P f r r)
      → ((r : Runs) (x : ℕ) → Legal n r → x < count_of r → 2 * d ≤ weight n r x → P 0 r r)
      → ((f : ℕ) (r q : Runs) (x : ℕ) → Legal n r → x < count_of r → 2 * d ≤ weight n r x → P f (cut_at d n r x) q
      → P (suc f) r q)
      → (f : ℕ) (r : Runs) → Legal n r → P f r (cutting f d n r)
  unfolding cutting
  cutting_ind P light none more zero r c = go (lt_or_le (pick d n r) (count_of r))
    where
      go : (pick d n r < count_of r) ⊎ (count_of r ≤ pick d n r) → P 0 r r
      go (inl h) = none r (pick d n r) c h (pick_lowest d n r h).weighs
      go (inr h) = light 0 r c (pick_none d n r h)
  cutting_ind P light none more (suc f) r c =
      go (lt_or_le (pick d n r) (count_of r)) (cutting_ind P light none more f (cut_at d n r (pick d n r)))
    where
      go : (pick d n r < count_of r) ⊎ (count_of r ≤ pick d n r)
          → (Legal n (cut_at d n r (pick d n r))
          → P f (cut_at d n r (pick d n r)) (cutting f d n (cut_at d n r (pick d n r))))
          → P (suc f) r (cutting (suc f) d n r)
      go (inl h) i = let w = (pick_lowest d n r h).weighs in
          rw (cutting_step d n r f h) (more f r _ (pick d n r) c h w (i (heavy_legal r c (pick d n r) h w)))
      go (inr h) i = rw (cutting_rest d n r (suc f) h) (light (suc f) r c (pick_none d n r h))

  pub cutting_refines : (f : ℕ) (r : Runs) → Legal n r → Refines n r (cutting f d n r)
  cutting_refines = cutting_ind (λ f r q. Refines n r q) (λ f r c l. refines_self n r c)
      (λ r x c h w. refines_self n r c)
      (λ f r q x c h w i. refines_on n r (cut_at d n r x) q (heavy_refines r c x h w) i)

  pub cutting_cuts : (f : ℕ) (r : Runs) → Legal n r → Cuts d n f r (cutting f d n r)
  cutting_cuts = cutting_ind (Cuts d n) (λ f r c l. stay f r) (λ r x c h w. stay 0 r) more
    where
      stay : (f : ℕ) (r : Runs) → Cuts d n f r r
      stay f r = record { cuts = 0; fuelled = omega arith; counted = omega arith; grown = omega arith }

      more : (f : ℕ) (r q : Runs) (x : ℕ) → Legal n r → x < count_of r → 2 * d ≤ weight n r x
          → Cuts d n f (cut_at d n r x) q → Cuts d n (suc f) r q
      more f r q x c h w i = record {
        cuts = suc i.cuts;
        fuelled = suc-le-suc i.fuelled;
        counted = omega (arith, i.counted, cut_count n r c.paired x (get_or (under n r x) d 0) h);
        grown = omega (arith, i.grown, ample_grows d n r c x h (omega arith) w);
      }

  -- while an interval is heavy, fuel is left
  pub fuel_left : (f : ℕ) (r : Runs) (x : ℕ) → Legal n r → x < count_of r → 2 * d ≤ weight n r x
      → count_of r ≤ d * ample d n r + f → count_of (cut_at d n r x) + 1 ≤ d * ample d n (cut_at d n r x) + f
  fuel_left f r x c h w e = omega (
    arith,
    cut_count n r c.paired x (get_or (under n r x) d 0) h,
    mul-le-mul_left d (ample_grows d n r c x h (omega arith) w),
  )

  pub cutting_light : (f : ℕ) (r : Runs) → Legal n r → count_of r ≤ d * ample d n r + f → Light d n (cutting f d n r)
  cutting_light = cutting_ind (λ f r q. count_of r ≤ d * ample d n r + f → Light d n q) (λ f r c l e. l)
      (λ r x c h w e. absurd (omega (
        arith,
        fuel_left 0 r x c h w e,
        ample_bound d n (cut_at d n r x) (heavy_legal r c x h w),
      )))
      (λ f r q x c h w i e. i (omega (arith, fuel_left (suc f) r x c h w e)))

pub cuts_bound : (d k m : ℕ) → 2 ≤ d → d * m ≤ k + m → k + m ≤ bound_of d k
cuts_bound zero k m h l = absurd (omega arith)
cuts_bound (suc e) k m h l =
    let z : suc e - 1 ≡ e = omega arith in
    let p : (k + m) * e ≤ suc e * k = omega arith in
    rw z ((le-div_iff_mul-le {k = e} {x = k + m} {y = suc e * k} (omega arith)).1 p)

-- the balanced list
module _ (d n : ℕ) (many : 2 ≤ d) (r : Runs) (c : Legal n r) where
  pub balanced_refines : Refines n r (balanced d n r)
  unfolding balanced
  balanced_refines = cutting_refines d n many (count_of r) r c

  pub balanced_legal : Legal n (balanced d n r)
  balanced_legal = refined_legal n r (balanced d n r) c balanced_refines

  pub balanced_map : (p : ℕ) → p < n → map_of n (balanced d n r) p ≡ map_of n r p
  balanced_map = refined_map n r (balanced d n r) c balanced_refines

  pub balanced_starts : (x : ℕ) → x < count_of r
      → (y : ℕ) × (y < count_of (balanced d n r)) × (start_of (balanced d n r) y ≡ start_of r x)
  balanced_starts = refined_starts n r (balanced d n r) c balanced_refines

  pub balanced_light : (x : ℕ) → x < count_of (balanced d n r) → weight n (balanced d n r) x < 2 * d
  unfolding balanced
  balanced_light = cutting_light d n many (count_of r) r c (omega arith)

  pub balanced_unlimited : (f : ℕ) → count_of r ≤ f → cutting f d n r ≡ balanced d n r
  unfolding balanced
  balanced_unlimited f h = cutting_more (count_of r) f d n r h balanced_light

  pub balanced_cuts : Cuts d n (count_of r) r (balanced d n r)
  unfolding balanced
  balanced_cuts = cutting_cuts d n many (count_of r) r c

  pub balanced_cost : d * balanced_cuts.cuts ≤ count_of (balanced d n r)
  balanced_cost = omega (
    arith,
    mul-le-mul_left d balanced_cuts.grown,
    ample_bound d n (balanced d n r) balanced_legal,
  )

  pub balanced_count : count_of (balanced d n r) ≤ bound_of d (count_of r)
  balanced_count = rw balanced_cuts.counted
      (cuts_bound d (count_of r) balanced_cuts.cuts many (omega (arith, balanced_cost, balanced_cuts.counted)))
