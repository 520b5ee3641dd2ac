-- A legal list's function maps the places below n one to one onto themselves: a place lies in one run, and in one image.
use Prim.Native.Nat.{ℕ, zero, suc, ◌+◌, ◌-◌, ◌<◌}
use mathlib.Core.Path.{◌≡◌, ap}
use native.Mathlib.Omega.{arith}
use Rattle.runs.specs.Runs.{Runs, start_of, image_of, end_of, carry, map_of, power_of}
use Rattle.runs.specs.Legal.{Legal}
use Rattle.runs.proofs.Legality.{homes, home, map_at, land}

module _ (n : ℕ) (r : Runs) (c : Legal n r) where
  pub map_below : (p : ℕ) → p < n → map_of n r p < n
  map_below p h =
      let x = home n r (homes n r c) p h in
      omega (arith, map_at n r (homes n r c) x.0 p x.1 x.2 x.3, c.within x.0 x.1, x.2, x.3)

  pub power_below : (m p : ℕ) → p < n → power_of n r m p < n
  unfolding power_of
  power_below zero p h = h
  power_below (suc m) p h = map_below (power_of n r m p) (power_below m p h)

  pub map_injective : (p q : ℕ) → p < n → q < n → map_of n r p ≡ map_of n r q → p ≡ q
  map_injective p q h l e =
      let x = home n r (homes n r c) p h in
      let y = home n r (homes n r c) q l in
      let a : map_of n r p ≡ carry r x.0 p = map_at n r (homes n r c) x.0 p x.1 x.2 x.3 in
      let b : map_of n r q ≡ carry r y.0 q = map_at n r (homes n r c) y.0 q y.1 y.2 y.3 in
      let s : x.0 ≡ y.0 = c.apart x.0 y.0 (map_of n r p) x.1 y.1
      (omega arith) (omega (arith, x.2, x.3)) (omega arith) (omega (arith, y.2, y.3)) in
      omega (arith, ap (start_of r) s, ap (image_of r) s, x.2, y.2)

  -- the place that comes to q
  pub map_onto : (q : ℕ) → q < n → (p : ℕ) × (p < n) × (map_of n r p ≡ q)
  map_onto q h =
      let x = land n r c q h in
      let p = start_of r x.0 + (q - image_of r x.0) in
      let e : p < end_of n r x.0 = omega (arith, x.2, x.3) in
      (p, omega (arith, (homes n r c).ending x.0 x.1), omega (arith, map_at n r (homes n r c) x.0 p x.1 (omega arith) e, x.2))

  -- every place below n is the image of exactly one place below n
  pub map_bijective : (q : ℕ) → q < n
      → (p : ℕ) × (p < n) × (map_of n r p ≡ q) × ((p' : ℕ) → p' < n → map_of n r p' ≡ q → p' ≡ p)
  map_bijective q h =
      let p = map_onto q h in
      (p.0, p.1, p.2, λ p' l e. map_injective p' p.0 l p.1 (omega (arith, p.2)))
