-- The index of a place, counted by starts: the starts that a walk passes, and the stretch of starts under an image.
use Prim.Native.Nat.{ℕ, zero, suc, ◌+◌, ◌-◌, ◌≤◌, ◌<◌, suc-le-suc}
use mathlib.Core.Path.{◌≡◌, refl, sym, ap, ◌∙◌, fun_ext}
use mathlib.Core.Bool.{Bool, true, ◌&&◌}
use mathlib.Core.Logic.{◌⊎◌, inl, inr}
use mathlib.Core.List.{List, [], ◌∷◌}
use native.Mathlib.Nat.{not-suc-le-zero}
use native.Mathlib.Omega.{arith}
use lib.ListN.{length, get_or, take, drop}
use lib.Dec.{leb, ltb, eqb, leb-suc-suc}
use borrow.Author.Tests.{lt-ltb, le-ltb, eq-eqb, ne_eqb}
use Rattle.outcomes.specs.Outcome.{◌then◌else◌}
use Rattle.outcomes.specs.Search.{keep}
use Rattle.order.specs.Lists.{leading, Strict, bit, count, count_below}
use Rattle.order.proofs.Laws.{lt_or_le, strict_sorted, count_le_length, count_mono, count_lt, count_gt, count_at}
use Rattle.runs.proofs.Sums.{inside, length_keep, count_inside, keep_slice, keep_at, none_below}
use Rattle.runs.specs.Legal.{Legal}
use Rattle.runs.specs.Runs.{Runs, count_of, start_of, image_of, end_of, image_end, run_at, carry, map_of}
use Rattle.runs.specs.Weight.{under, weight}
use Rattle.runs.proofs.Legality.{Parted, homes, home, run_at_lem, end_next}

pub up_to : (j : ℕ) → ◌≡◌ {A = ℕ → Bool} (λ s. leb s j) (λ s. ltb s (suc j))
up_to j = fun_ext (λ s. sym (leb-suc-suc s j))

-- below an end is up to the place before it
pub up_to_end : (b : ℕ) → 0 < b → ◌≡◌ {A = ℕ → Bool} (λ s. leb s (b - 1)) (λ s. ltb s b)
up_to_end b h = let z : suc (b - 1) ≡ b = omega arith in up_to (b - 1) ∙ fun_ext (λ s. ap (ltb s) z)

-- in a rising list the leading elements below t are all that are
pub leading_below : (l : List ℕ) (t : ℕ) → Strict l → leading (λ s. ltb s t) l ≡ count_below t l
leading_below [] t u = refl
leading_below (s ∷ ss) t u = go (lt_or_le s t) (leading_below ss t u.1)
  where
    go : (s < t) ⊎ (t ≤ s) → leading (λ s. ltb s t) ss ≡ count_below t ss → leading (λ s. ltb s t) (s ∷ ss) ≡ count_below t (s ∷ ss)
    go (inl l) i = rw (lt-ltb s t l, leading) (omega arith)
    go (inr l) i = rw ((none_below s ss t u l).0, le-ltb s t l, leading)

pub leading_drop : (l : List ℕ) (t m : ℕ) → Strict l → m ≤ count_below t l → leading (λ s. ltb s t) (drop m l) + m ≡ count_below t l
leading_drop l t zero u h = omega (arith, leading_below l t u)
leading_drop [] t (suc m) u h = absurd (not-suc-le-zero h)
leading_drop (s ∷ ss) t (suc m) u h = go (lt-ltb s t (count_lt t (s ∷ ss) (strict_sorted (s ∷ ss) u) 0 (omega arith))) (leading_drop ss t m u.1)
  where
    go : ltb s t ≡ true → (m ≤ count_below t ss → leading (λ s. ltb s t) (drop m ss) + m ≡ count_below t ss) → leading (λ s. ltb s t) (drop m ss) + suc m ≡ count_below t (s ∷ ss)
    go e i = omega (arith, ap bit e, i (omega (arith, ap bit e)))

-- a weight is a count
pub weight_is : (n : ℕ) (r : Runs) (x : ℕ) → weight n r x ≡ count (inside (image_of r x) (image_end n r x)) r.starts
weight_is n r x = length_keep (inside (image_of r x) (image_end n r x)) r.starts

module _ (n : ℕ) (r : Runs) (c : Parted n r) where
  -- the index of the run that has a place, by counting starts
  pub run_below : (p : ℕ) → p < n → count_below (suc p) r.starts ≡ suc (run_at n r p)
  run_below p h = go (home n r c p h)
    where
      go : (x : ℕ) × (x < count_of r) × (start_of r x ≤ p) × (p < end_of n r x) → count_below (suc p) r.starts ≡ suc (run_at n r p)
      go (x, hx, a, b) = rw (run_at_lem n r c x p hx a b) (at (lt_or_le (suc x) (count_below (suc p) r.starts)))
        where
          at : (suc x < count_below (suc p) r.starts) ⊎ (count_below (suc p) r.starts ≤ suc x) → count_below (suc p) r.starts ≡ suc x
          at (inl l) = absurd (omega (arith, count_lt (suc p) r.starts (strict_sorted r.starts c.up) (suc x) l, end_next n r x (omega (arith, count_le_length (suc p) r.starts))))
          at (inr l) = omega (arith, count_gt (suc p) r.starts (strict_sorted r.starts c.up) x hx (suc-le-suc a))

  pub run_mono : (p q : ℕ) → p ≤ q → q < n → run_at n r p ≤ run_at n r q
  run_mono p q l h = omega (arith, run_below p (omega arith), run_below q h, count_mono (suc p) (suc q) r.starts (suc-le-suc l))

  -- a walk from the run of place i to that of place j passes the starts above i and not above j
  pub walk_passed : (i j : ℕ) → i ≤ j → j < n → leading (λ s. leb s j) (drop (suc (run_at n r i)) r.starts) + run_at n r i ≡ run_at n r j
  walk_passed i j l h = rw (up_to j) (omega (arith, run_below j h, leading_drop r.starts (suc j) (suc (run_at n r i)) c.up (omega (arith, run_below j h, run_mono i j l h))))

  pub walk_count_lem : (i j : ℕ) → i ≤ j → j < n → count (inside (suc i) (suc j)) r.starts + run_at n r i ≡ run_at n r j
  walk_count_lem i j l h = omega (arith, run_below i (omega arith), run_below j h, count_inside (suc i) (suc j) r.starts (suc-le-suc l))

-- the same count, as the plain walk has it
pub above_to : (i j : ℕ) (l : List ℕ) → length (keep (λ s. ltb i s && leb s j) l) ≡ count (inside (suc i) (suc j)) l
above_to i j l = length_keep (λ s. ltb i s && leb s j) l ∙ ap (λ (t : ℕ → Bool). count t l) (fun_ext (λ s. ap (λ (t : Bool). ltb i s && t) (sym (leb-suc-suc s j))))

module _ (n : ℕ) (r : Runs) (c : Legal n r) where
  -- a move lands in the image of its run
  pub map_in : (p : ℕ) → p < n → (image_of r (run_at n r p) ≤ map_of n r p) × (map_of n r p < image_end n r (run_at n r p)) × (map_of n r p < n)
  map_in p h = go (home n r (homes n r c) p h)
    where
      go : (x : ℕ) × (x < count_of r) × (start_of r x ≤ p) × (p < end_of n r x) → (image_of r (run_at n r p) ≤ map_of n r p) × (map_of n r p < image_end n r (run_at n r p)) × (map_of n r p < n)
      go (x, hx, a, b) = rw (run_at_lem n r (homes n r c) x p hx a b) (omega arith, omega arith, omega (arith, c.within x hx))

  -- a move passes fewer starts than the interval's weight, or as many
  pub walk_bound : (x p : ℕ) → x < count_of r → start_of r x ≤ p → p < end_of n r x → count (inside (suc (image_of r x)) (suc (carry r x p))) r.starts ≤ weight n r x
  walk_bound x p hx a b =
      omega (
        arith,
        weight_is n r x,
        count_inside (suc (image_of r x)) (suc (carry r x p)) r.starts (omega arith),
        count_inside (image_of r x) (image_end n r x) r.starts (omega arith),
        count_mono (suc (carry r x p)) (image_end n r x) r.starts (omega arith),
        count_mono (image_of r x) (suc (image_of r x)) r.starts (omega arith),
      )

  -- the stretch of starts under an image
  pub under_first_lem : (x : ℕ) → x < count_of r → run_at n r (image_of r x) + (eqb (start_of r (run_at n r (image_of r x))) (image_of r x) then 0 else 1) ≡ count_below (image_of r x) r.starts
  under_first_lem x hx = go (home n r (homes n r c) (image_of r x) below_n)
    where
      below_n : image_of r x < n
      below_n = omega (arith, (homes n r c).lasting x hx, c.within x hx)

      go : (y : ℕ) × (y < count_of r) × (start_of r y ≤ image_of r x) × (image_of r x < end_of n r y)
          → run_at n r (image_of r x) + (eqb (start_of r (run_at n r (image_of r x))) (image_of r x) then 0 else 1) ≡ count_below (image_of r x) r.starts
      go (y, hy, a, b) = let e = run_at_lem n r (homes n r c) y (image_of r x) hy a b in rw e (at (lt_or_le (start_of r y) (image_of r x)) (rw e at (run_below n r (homes n r c) (image_of r x) below_n)))
        where
          at : (start_of r y < image_of r x) ⊎ (image_of r x ≤ start_of r y) → count_below (suc (image_of r x)) r.starts ≡ suc y
              → y + (eqb (start_of r y) (image_of r x) then 0 else 1) ≡ count_below (image_of r x) r.starts
          at (inl l) k = rw (ne_eqb (start_of r y) (image_of r x) (λ e. omega arith)) (omega (arith, count_gt (image_of r x) r.starts (strict_sorted r.starts (homes n r c).up) y hy l, count_mono (image_of r x) (suc (image_of r x)) r.starts (omega arith)))
          at (inr l) k = let e : start_of r y ≡ image_of r x = omega arith in rw (eq-eqb (start_of r y) (image_of r x) e) (omega (arith, count_at r.starts (homes n r c).up y hy, ap (λ (t : ℕ). count_below t r.starts) e))

  pub under_count_lem : (x : ℕ) → leading (λ s. ltb s (image_end n r x)) (drop (count_below (image_of r x) r.starts) r.starts) ≡ weight n r x
  under_count_lem x = omega (arith, weight_is n r x, count_inside (image_of r x) (image_end n r x) r.starts (omega arith), leading_drop r.starts (image_end n r x) (count_below (image_of r x) r.starts) (homes n r c).up (count_mono (image_of r x) (image_end n r x) r.starts (omega arith)))

  pub under_is : (x : ℕ) → under n r x ≡ take (weight n r x) (drop (count_below (image_of r x) r.starts) r.starts)
  under_is x =
      let e : weight n r x ≡ count_below (image_end n r x) r.starts - count_below (image_of r x) r.starts = omega (arith, weight_is n r x, count_inside (image_of r x) (image_end n r x) r.starts (omega arith)) in
      rw e (keep_slice (image_of r x) (image_end n r x) r.starts (omega arith) (homes n r c).up)

  -- the (m + 1)th start under an image is found by its index
  pub weight_less : (x m : ℕ) → m < weight n r x → (count_below (image_of r x) r.starts + m < count_of r) × (start_of r (count_below (image_of r x) r.starts + m) < image_end n r x)
  weight_less x m l =
      let i : count_below (image_of r x) r.starts + m < count_below (image_end n r x) r.starts = omega (arith, weight_is n r x, count_inside (image_of r x) (image_end n r x) r.starts (omega arith)) in
      (omega (arith, count_le_length (image_end n r x) r.starts), count_lt (image_end n r x) r.starts (strict_sorted r.starts (homes n r c).up) (count_below (image_of r x) r.starts + m) i)

  pub under_at_lem : (x m : ℕ) → m < weight n r x → get_or (under n r x) m 0 ≡ start_of r (count_below (image_of r x) r.starts + m)
  under_at_lem x m l = keep_at (image_of r x) (image_end n r x) r.starts m (omega arith) (homes n r c).up (omega (arith, weight_is n r x))
