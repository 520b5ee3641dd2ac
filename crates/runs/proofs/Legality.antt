-- What a legal list gives: each place lies in one run, and in one image. The images cover all places because the lengths
-- sum to n and no place is counted twice.
use Prim.Native.Nat.{ℕ, zero, suc, ◌+◌, ◌-◌, ◌≤◌, ◌<◌, suc-le-suc}
use mathlib.Core.Path.{◌≡◌, refl, ◌∙◌}
use mathlib.Core.Bool.{Bool, true}
use mathlib.Core.Logic.{◌⊎◌, inl, inr}
use mathlib.Core.List.{List, [], ◌∷◌}
use native.Mathlib.Nat.{le_of_suc-le-suc}
use native.Mathlib.Omega.{arith}
use lib.ListN.{length, get_or, get_or-eq_default}
use Rattle.order.specs.Lists.{Strict, bit, count_below}
use Rattle.order.proofs.Laws.{lt_or_le, at_all, strict_length, pairwise_at, pairwise_steps, strict_sorted, count_le_length, count_lt, count_gt, get_d_default}
use Rattle.runs.specs.Legal.{Legal}
use Rattle.runs.specs.Runs.{Runs, count_of, start_of, image_of, end_of, length_of, image_end, has, run_at, carry, map_of}
use Rattle.runs.specs.Parts.{Lasts}
use Rattle.runs.proofs.Sums.{inside, inside_true, inside_is, sum_to, sum_swap, sum_same, sum_full, tally, tally_one, tally_inside, tally_some}
use Rattle.outcomes.proofs.Searches.{first_only}

-- the end of a run is the next start, where there is one
pub end_next : (n : ℕ) (r : Runs) (x : ℕ) → suc x < count_of r → end_of n r x ≡ start_of r (suc x)
end_next n r x h = get_d_default r.starts (suc x) n 0 h

pub end_last : (n : ℕ) (r : Runs) (x : ℕ) → count_of r ≤ suc x → end_of n r x ≡ n
end_last n r x h = get_or-eq_default r.starts n h

-- rising by one step is rising
pub strict_steps : (l : List ℕ) → ((x : ℕ) → suc x < length l → get_or l x 0 < get_or l (suc x) 0) → Strict l
strict_steps l h = pairwise_steps ◌<◌ (λ a b c p q. omega arith) l h

-- what it takes for each place to have one home
pub record Parted (n : ℕ) (r : Runs) : Type 0 where
  pub some : 0 < count_of r
  pub first : start_of r 0 ≡ 0
  pub up : Strict r.starts
  pub lasting : Lasts n r.starts
  pub ending : (x : ℕ) → x < count_of r → end_of n r x ≤ n

pub parted : (n : ℕ) (r : Runs) → 0 < count_of r → start_of r 0 ≡ 0
    → ((x : ℕ) → suc x < count_of r → start_of r x < start_of r (suc x)) → ((x : ℕ) → x < count_of r → start_of r x < n) → Parted n r
parted n r some first rising below = record {
  some = some;
  first = first;
  up = strict_steps r.starts rising;
  lasting = λ x h. (at x h (lt_or_le (suc x) (count_of r))).0;
  ending = λ x h. (at x h (lt_or_le (suc x) (count_of r))).1;
}
  where
    at : (x : ℕ) → x < count_of r → (suc x < count_of r) ⊎ (count_of r ≤ suc x) → (start_of r x < end_of n r x) × (end_of n r x ≤ n)
    at x h (inl l) = omega (arith, end_next n r x l, rising x l, below (suc x) l)
    at x h (inr l) = omega (arith, end_last n r x l, below x h)

pub homes : (n : ℕ) (r : Runs) → Legal n r → Parted n r
homes n r c = parted n r c.some c.first c.rising c.below

-- a legal list has no more runs than places
pub legal_few : (n : ℕ) (r : Runs) → Legal n r → count_of r ≤ n
legal_few n r c = strict_length n r.starts (strict_steps r.starts c.rising) (at_all (λ s. s < n) r.starts c.below)

module _ (n : ℕ) (r : Runs) (c : Parted n r) where
  end_before : (x y : ℕ) → x < y → y < count_of r → end_of n r x ≤ start_of r y
  end_before x y l m = go (lt_or_le (suc x) y)
    where
      go : (suc x < y) ⊎ (y ≤ suc x) → end_of n r x ≤ start_of r y
      go (inl k) = omega (arith, end_next n r x (omega arith), pairwise_at ◌<◌ r.starts c.up (suc x) y k m)
      go (inr k) = let e : y ≡ suc x = omega arith in rw e (omega (arith, end_next n r x (omega arith)))

  pub home_one : (x y p : ℕ) → x < count_of r → y < count_of r → start_of r x ≤ p → p < end_of n r x → start_of r y ≤ p → p < end_of n r y → x ≡ y
  home_one x y p hx hy a b d e = go (lt_or_le x y) (lt_or_le y x)
    where
      go : (x < y) ⊎ (y ≤ x) → (y < x) ⊎ (x ≤ y) → x ≡ y
      go (inl l) m = absurd (omega (arith, end_before x y l hy))
      go (inr l) (inl m) = absurd (omega (arith, end_before y x m hx))
      go (inr l) (inr m) = omega arith

  pub home : (p : ℕ) → p < n → (x : ℕ) × (x < count_of r) × (start_of r x ≤ p) × (p < end_of n r x)
  home p h = go (count_below (suc p) r.starts) refl
    where
      go : (b : ℕ) → count_below (suc p) r.starts ≡ b → (x : ℕ) × (x < count_of r) × (start_of r x ≤ p) × (p < end_of n r x)
      go zero e = absurd (omega (arith, count_gt (suc p) r.starts (strict_sorted r.starts c.up) 0 c.some (omega (arith, c.first))))
      go (suc x) e = (x, omega (arith, count_le_length (suc p) r.starts), le_of_suc-le-suc (count_lt (suc p) r.starts (strict_sorted r.starts c.up) x (omega arith)), up_to (lt_or_le (suc x) (count_of r)) (lt_or_le (start_of r (suc x)) (suc p)))
        where
          up_to : (suc x < count_of r) ⊎ (count_of r ≤ suc x) → (start_of r (suc x) < suc p) ⊎ (suc p ≤ start_of r (suc x)) → p < end_of n r x
          up_to (inl l) (inl m) = absurd (omega (arith, count_gt (suc p) r.starts (strict_sorted r.starts c.up) (suc x) l m))
          up_to (inl l) (inr m) = omega (arith, end_next n r x l)
          up_to (inr l) m = omega (arith, end_last n r x l)

  pub run_at_lem : (x p : ℕ) → x < count_of r → start_of r x ≤ p → p < end_of n r x → run_at n r p ≡ x
  run_at_lem x p h a b = first_only (has n r p) (count_of r) x h (inside_true (start_of r x) (end_of n r x) p a b)
      (λ y l e. let i = inside_is (start_of r y) (end_of n r y) p e in home_one y x p l h i.0 i.1 a b)

  pub map_at : (x p : ℕ) → x < count_of r → start_of r x ≤ p → p < end_of n r x → map_of n r p ≡ carry r x p
  map_at x p h a b = rw (run_at_lem x p h a b)

-- an image of a legal list has a place, below n; a place lies in the run that has it
module _ (n : ℕ) (r : Runs) (c : Legal n r) where
  pub image_some : (x : ℕ) → x < count_of r → image_of r x < image_end n r x
  image_some x h = omega (arith, (homes n r c).lasting x h)

  pub image_below : (x : ℕ) → x < count_of r → image_of r x < n
  image_below x h = omega (arith, image_some x h, c.within x h)

  pub own : (p : ℕ) → p < n → (run_at n r p < count_of r) × (start_of r (run_at n r p) ≤ p) × (p < end_of n r (run_at n r p))
  own p h =
      let x = home n r (homes n r c) p h in
      rw (run_at_lem n r (homes n r c) x.0 p x.1 x.2 x.3) (x.1, x.2, x.3)

-- the lengths add up to n
lengths : (n : ℕ) (l : List ℕ) → Lasts n l → sum_to (length l) (λ x. get_or l (suc x) n - get_or l x 0) + get_or l 0 n ≡ n
lengths n [] h = omega arith
lengths n (s ∷ ss) h = omega (arith, h 0 (omega arith), lengths n ss (λ x l. h (suc x) (suc-le-suc l)))

pub length_sum : (n : ℕ) (r : Runs) → Parted n r → sum_to (count_of r) (length_of n r) ≡ n
length_sum n r c = omega (arith, lengths n r.starts c.lasting, get_d_default r.starts 0 n 0 c.some, c.first)

-- the test whether place p lies in the image of x
abbrev pub lands : ℕ → Runs → ℕ → ℕ → Bool
lands n r p x = inside (image_of r x) (image_end n r x) p

-- the places below e, each counted for every image that it lies in, where no image reaches beyond e
pub lands_total : (n : ℕ) (r : Runs) → Parted n r → (e : ℕ) → ((x : ℕ) → x < count_of r → image_end n r x ≤ e)
    → sum_to e (λ p. tally (count_of r) (lands n r p)) ≡ n
lands_total n r c e within =
    sum_swap e (count_of r) (λ p x. bit (lands n r p x))
    ∙ sum_same (count_of r) (λ x. tally e (λ p. lands n r p x)) (length_of n r)
    (λ x h. omega (arith, tally_inside e (image_of r x) (image_end n r x) (omega arith) (within x h)))
    ∙ length_sum n r c

module _ (n : ℕ) (r : Runs) (c : Legal n r) where
  -- no place lies in two images
  pub land_one : (p x y : ℕ) → x < count_of r → y < count_of r → lands n r p x ≡ true → lands n r p y ≡ true → x ≡ y
  land_one p x y hx hy e f =
      let i = inside_is (image_of r x) (image_end n r x) p e in
      let j = inside_is (image_of r y) (image_end n r y) p f in
      c.apart x y p hx hy i.0 i.1 j.0 j.1

  -- each place lies in one image
  pub landed : (p : ℕ) → p < n → tally (count_of r) (lands n r p) ≡ 1
  landed =
      sum_full n (λ p. tally (count_of r) (lands n r p)) (λ p h. tally_one (count_of r) (lands n r p) (land_one p))
      (omega (arith, lands_total n r (homes n r c) n c.within))

  pub land : (p : ℕ) → p < n → (x : ℕ) × (x < count_of r) × (image_of r x ≤ p) × (p < image_end n r x)
  land p h =
      let f = tally_some (count_of r) (lands n r p) (omega (arith, landed p h)) in
      let i = inside_is (image_of r f.0) (image_end n r f.0) p f.2 in
      (f.0, f.1, i.0, i.1)
