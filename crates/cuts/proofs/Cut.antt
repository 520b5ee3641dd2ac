-- The numbers of a list after the cut of an interval at a place inside its image: a list of pieces of the old one.
use Prim.Native.Nat.{ℕ, zero, suc, ◌≤◌, ◌<◌, suc-le-suc}
use mathlib.Core.Path.{◌≡◌, ◌∙◌}
use mathlib.Core.Logic.{◌⊎◌, inl, inr}
use native.Mathlib.Omega.{arith}
use lib.ListN.{length, get_or}
use Rattle.order.proofs.Laws.{lt_or_le}
use Rattle.outcomes.proofs.Searches.{length_insert, insert_before, insert_at_lem, insert_after}
use Rattle.runs.specs.Legal.{Legal}
use Rattle.runs.specs.Runs.{Runs, count_of, start_of, image_of, end_of, image_end, carry_back}
use Rattle.cuts.specs.Balance.{cut}
use Rattle.runs.proofs.Legality.{homes}
use Rattle.cuts.proofs.Refine.{PieceOf, Refines}

-- an index of the list after a cut of x
pub cut_cases : (P : ℕ → Type 0) (x : ℕ) → ((y : ℕ) → y < x → P y) → P x → P (suc x) → ((y : ℕ) → x < y → P (suc y))
    → (y : ℕ) → P y
cut_cases P x left first second right y = go y (lt_or_le y x)
  where
    two : (z : ℕ) → x ≤ suc z → (x < z) ⊎ (z ≤ x) → (z < x) ⊎ (x ≤ z) → P (suc z)
    two z h (inl a) b = right z a
    two z h (inr a) (inl b) = let e : suc z ≡ x = omega arith in rw e first
    two z h (inr a) (inr b) = let e : z ≡ x = omega arith in rw e second

    go : (y : ℕ) → (y < x) ⊎ (x ≤ y) → P y
    go y (inl l) = left y l
    go zero (inr l) = let e : 0 ≡ x = omega arith in rw (← e) at first
    go (suc z) (inr l) = two z l (lt_or_le x z) (lt_or_le z x)

-- the numbers of interval y of q
pub record Is (n : ℕ) (q : Runs) (y start image end : ℕ) : Type 0 where
  pub start_is : start_of q y ≡ start
  pub image_is : image_of q y ≡ image
  pub end_is : end_of n q y ≡ end

module _ (n : ℕ) (r : Runs) (pair : length r.images ≡ count_of r) (x s : ℕ) (hx : x < count_of r) where
  pub cut_count : count_of (cut r x s) ≡ suc (count_of r)
  cut_count = length_insert (suc x) (carry_back r x s) r.starts hx

  starts_before : (y d : ℕ) → y < suc x → get_or (cut r x s).starts y d ≡ get_or r.starts y d
  starts_before y d l = insert_before (suc x) (carry_back r x s) r.starts y d hx l

  images_before : (y : ℕ) → y < suc x → image_of (cut r x s) y ≡ image_of r y
  images_before y l = insert_before (suc x) s r.images y 0 (omega arith) l

  pub cut_left : (y : ℕ) → y < x → Is n (cut r x s) y (start_of r y) (image_of r y) (end_of n r y)
  cut_left y l = record {
    start_is = starts_before y 0 (omega arith);
    image_is = images_before y (omega arith);
    end_is = starts_before (suc y) n (suc-le-suc l);
  }

  pub cut_first : Is n (cut r x s) x (start_of r x) (image_of r x) (carry_back r x s)
  cut_first = record {
    start_is = starts_before x 0 (omega arith);
    image_is = images_before x (omega arith);
    end_is = insert_at_lem (suc x) (carry_back r x s) r.starts n hx;
  }

  pub cut_second : Is n (cut r x s) (suc x) (carry_back r x s) s (end_of n r x)
  cut_second = record {
    start_is = insert_at_lem (suc x) (carry_back r x s) r.starts 0 hx;
    image_is = insert_at_lem (suc x) s r.images 0 (omega arith);
    end_is = insert_after (suc x) (carry_back r x s) r.starts (suc x) n hx (omega arith);
  }

  pub cut_right : (y : ℕ) → x < y → Is n (cut r x s) (suc y) (start_of r y) (image_of r y) (end_of n r y)
  cut_right y l = record {
    start_is = insert_after (suc x) (carry_back r x s) r.starts y 0 hx l;
    image_is = insert_after (suc x) s r.images y 0 (omega arith) l;
    end_is = insert_after (suc x) (carry_back r x s) r.starts (suc y) n hx (omega arith);
  }

module _ (n : ℕ) (r : Runs) (c : Legal n r) (x s : ℕ) (hx : x < count_of r) (lo : image_of r x < s)
    (hi : s < image_end n r x) where
  cut_piece : (y : ℕ) → y < suc (count_of r) → (o : ℕ) × PieceOf n r (cut r x s) y o
  cut_piece = cut_cases (λ y. y < suc (count_of r) → (o : ℕ) × PieceOf n r (cut r x s) y o) x
      (λ y l h. (y, omega (arith, cut_left n r c.paired x s hx y l, (homes n r c).lasting y (omega arith))))
      (λ h. (x, omega (arith, cut_first n r c.paired x s hx)))
      (λ h. (x, omega (arith, cut_second n r c.paired x s hx)))
      (λ y l h. (y, omega (arith, cut_right n r c.paired x s hx y l, (homes n r c).lasting y (omega arith))))

  pub cut_refines : Refines n r (cut r x s)
  cut_refines = record {
    some = omega (arith, cut_count n r c.paired x s hx);
    paired = omega (
      arith,
      cut_count n r c.paired x s hx,
      length_insert (suc x) s r.images (omega (arith, c.paired)),
      c.paired,
    );
    first = starts_before n r c.paired x s hx 0 0 (omega arith) ∙ c.first;
    piece = λ y h. cut_piece y (omega (arith, cut_count n r c.paired x s hx));
  }
