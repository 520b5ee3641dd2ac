-- In rising order the images of a legal list tile [0, n): a place that an image ends at lies in a later one.
use Prim.Native.Nat.{ℕ, suc, ◌≤◌, ◌<◌}
use mathlib.Core.Path.{◌≡◌, ap}
use mathlib.Core.Logic.{◌⊎◌, inl, inr}
use native.Mathlib.Omega.{arith}
use Rattle.order.proofs.Laws.{lt_or_le}
use Rattle.runs.specs.Runs.{Runs, count_of, image_of, image_end}
use Rattle.runs.specs.Legal.{Legal}
use Rattle.runs.specs.Parts.{ranked}
use Rattle.runs.proofs.Legality.{image_some, land}
use Rattle.runs.proofs.Ranking.{ranked_below, ranked_rises, ranked_occurs, ranked_one}
use Rattle.runs.proofs.Intervals.{legal_disjoint}

-- in the order by image each image ends where the next begins, from 0 to n
pub record Tiled (n : ℕ) (r : Runs) : Type 0 where
  pub from : image_of r (ranked r 0) ≡ 0
  pub next : (j : ℕ) → suc j < count_of r → image_of r (ranked r (suc j)) ≡ image_end n r (ranked r j)
  pub last : (j : ℕ) → suc j ≡ count_of r → image_end n r (ranked r j) ≡ n

module _ (n : ℕ) (r : Runs) (c : Legal n r) where
  -- images in rising order end before the next
  rank_ends : (s t : ℕ) → s < t → t < count_of r → image_end n r (ranked r s) ≤ image_of r (ranked r t)
  rank_ends s t h l =
      go
      (legal_disjoint n r c (ranked r s) (ranked r t) a b (λ e. omega (
        arith,
        ranked_one r c.paired s t (omega arith) l e,
      )))
    where
      a : ranked r s < count_of r
      a = ranked_below r c.paired s (omega arith)

      b : ranked r t < count_of r
      b = ranked_below r c.paired t l

      go : (image_end n r (ranked r s) ≤ image_of r (ranked r t)) ⊎ (image_end n r (ranked r t) ≤ image_of r (ranked r s))
          → image_end n r (ranked r s) ≤ image_of r (ranked r t)
      go (inl d) = d
      go (inr d) = absurd (omega (arith, ranked_rises r c.paired s t (omega arith) l, image_some n r c (ranked r t) b))

  -- a place not before the end of image t lies in a later one
  later : (t p : ℕ) → t < count_of r → image_end n r (ranked r t) ≤ p → p < n
      → (s : ℕ) × (t < s) × (s < count_of r) × (image_of r (ranked r s) ≤ p)
  later t p h l m = at (land n r c p m)
    where
      rank : (s : ℕ) → s < count_of r → image_of r (ranked r s) ≤ p → p < image_end n r (ranked r s) → (t < s) ⊎ (s ≤ t)
          → (s < t) ⊎ (t ≤ s)
          → (s : ℕ) × (t < s) × (s < count_of r) × (image_of r (ranked r s) ≤ p)
      rank s a b d (inl e) f = (s, e, a, b)
      rank s a b d (inr e) (inl f) =
          absurd (omega (arith, rank_ends s t f h, image_some n r c (ranked r t) (ranked_below r c.paired t h)))
      rank s a b d (inr e) (inr f) =
          let q : s ≡ t = omega arith in absurd (omega (arith, ap (λ (u : ℕ). image_end n r (ranked r u)) q))

      at : (x : ℕ) × (x < count_of r) × (image_of r x ≤ p) × (p < image_end n r x)
          → (s : ℕ) × (t < s) × (s < count_of r) × (image_of r (ranked r s) ≤ p)
      at (x, a, b, d) =
          let s = ranked_occurs r c.paired x a in
          rank s.0 s.1 (omega (arith, ap (image_of r) s.2)) (omega (arith, ap (image_end n r) s.2))
          (lt_or_le t s.0) (lt_or_le s.0 t)

  pub legal_tiled : Tiled n r
  legal_tiled = record { from = from; next = next; last = last }
    where
      from : image_of r (ranked r 0) ≡ 0
      from =
          let x = land n r c 0 (omega (arith, c.below 0 c.some)) in
          let s = ranked_occurs r c.paired x.0 x.1 in
          omega (arith, x.2, ap (image_of r) s.2, ranked_rises r c.paired 0 s.0 (omega arith) s.1)

      next : (t : ℕ) → suc t < count_of r → image_of r (ranked r (suc t)) ≡ image_end n r (ranked r t)
      next t h = go (lt_or_le (image_end n r (ranked r t)) (image_of r (ranked r (suc t))))
        where
          b : ranked r (suc t) < count_of r
          b = ranked_below r c.paired (suc t) h

          go : (image_end n r (ranked r t) < image_of r (ranked r (suc t))) ⊎ (image_of r (ranked r (suc t)) ≤ image_end n r (ranked r t))
              → image_of r (ranked r (suc t)) ≡ image_end n r (ranked r t)
          go (inl a) =
              let s = later t (image_end n r (ranked r t)) (omega arith) (omega arith) (omega (arith, image_some n r c (ranked r (suc t)) b, c.within (ranked r (suc t)) b)) in
              absurd (omega (arith, s.3, ranked_rises r c.paired (suc t) s.0 s.1 s.2))
          go (inr a) = omega (arith, rank_ends t (suc t) (omega arith) h)

      last : (t : ℕ) → suc t ≡ count_of r → image_end n r (ranked r t) ≡ n
      last t h = go (lt_or_le (image_end n r (ranked r t)) n)
        where
          go : (image_end n r (ranked r t) < n) ⊎ (n ≤ image_end n r (ranked r t)) → image_end n r (ranked r t) ≡ n
          go (inl a) =
              let s = later t (image_end n r (ranked r t)) (omega arith) (omega arith) a in
              absurd (omega (arith, s.1, s.2))
          go (inr a) = omega (arith, c.within (ranked r t) (ranked_below r c.paired t (omega arith)))
