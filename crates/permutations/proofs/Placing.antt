-- The images of the places, one after the other, and the run that has each.
use Prim.Native.Nat.{ℕ, suc, ◌+◌, ◌-◌, ◌≤◌, ◌<◌}
use mathlib.Core.Path.{◌≡◌, sym, ap, ◌∙◌}
use mathlib.Core.List.{List}
use native.Mathlib.Numerals.{add-one}
use native.Mathlib.Omega.{arith}
use lib.ListN.{length, take, set}
use Rattle.order.proofs.Filling.{Filling, filling_none, filling_next, filling_front}
use Rattle.outcomes.specs.Outcome.{done}
use Rattle.runs.specs.Runs.{Runs, count_of, start_of, image_of, map_of}
use Rattle.runs.specs.Check.{check_of}
use Rattle.runs.proofs.Accepted.{accepted_legal}
use Rattle.runs.proofs.Legality.{homes, map_at, end_next}
use Rattle.runs.proofs.Bijection.{map_below}
use Rattle.permutations.specs.Values.{values_of}
use Rattle.permutations.specs.Next.{max_places}
use Rattle.permutations.specs.Parts.{HasPlace, Near, Small, Writable}
use Rattle.permutations.proofs.Members.{values_length, values_at, values_permute}

module _ (n : ℕ) (r : Runs) (x p : ℕ) (c : Near n r x p) where
  pub near_next : x + 1 < count_of r → start_of r (x + 1) ≤ p → HasPlace n r (x + 1) p
  near_next h l =
      let e : x + 1 ≡ suc x = add-one x in
      record {
        run = h;
        from = l;
        to = omega (arith, (homes n r c.legal).lasting (x + 1) h, end_next n r x (omega arith), ap (start_of r) e, c.to);
      }

-- the places up to p are done, and the next one is near run x
pub record Placing (n : ℕ) (r : Runs) (values₀ values : List ℕ) (x p : ℕ) : Type 0 where
  pub near : p < n → Near n r x p
  pub filling : Filling (values_of n r) values₀ values p

module _ (n : ℕ) (r : Runs) (s : Small n r) where
  pub placing_none : (values : List ℕ) → length values ≡ max_places → Placing n r values values 0 0
  placing_none values e = record {
    near = λ h. record {
      legal = s.legal;
      place = h;
      run = s.legal.some;
      from = omega (arith, s.legal.first);
      to = omega arith;
    };
    filling = filling_none (values_of n r) values (omega (arith, s.few, values_length n r));
  }

  -- the image of a place in its run
  pub home_value : (x p : ℕ) → p < n → HasPlace n r x p → (map_of n r p ≡ image_of r x + (p - start_of r x)) × (map_of n r p < n)
  home_value x p h m = (map_at n r (homes n r s.legal) x p m.run m.from m.to, map_below n r s.legal p h)

  pub placing_next : (values₀ values : List ℕ) (x y p : ℕ) → Placing n r values₀ values x p → p < n → HasPlace n r y p
      → Placing n r values₀ (set values p (image_of r y + (p - start_of r y))) y (p + 1)
  placing_next values₀ values x y p a h m = record {
    near = λ g. record { legal = s.legal; place = g; run = m.run; from = omega (arith, m.from); to = omega (arith, m.to) };
    filling =
        filling_next (values_of n r) values₀ values p a.filling (omega (arith, values_length n r))
        (image_of r y + (p - start_of r y)) (sym (values_at n r p h ∙ (home_value y p h m).0));
  }

  pub placing_all : (values₀ values : List ℕ) (x p : ℕ) → Placing n r values₀ values x p → n ≤ p
      → take n values ≡ values_of n r
  placing_all values₀ values x p a = filling_front (values_of n r) values₀ values p a.filling n (values_length n r)

-- what the check and test 17 leave, and what is known of the values
pub small : (n : ℕ) (r : Runs) → done tt ≡ check_of n r → n ≤ max_places → Small n r
small n r e h = record { legal = (accepted_legal n r (sym e)).0; few = h }

module _ (n : ℕ) (r : Runs) (l : List ℕ) (e : l ≡ values_of n r) where
  pub values_size : n ≡ length l
  values_size = sym (ap length e ∙ values_length n r)

  pub values_writable : Small n r → (a b : List ℕ) → n ≤ length a → n ≤ length b → Writable l a b
  values_writable s a b h g = record {
    few = omega (arith, values_size, s.few);
    permutes = rw (← values_size, e) (values_permute n r s.legal);
    starts_room = omega (arith, values_size);
    images_room = omega (arith, values_size);
  }
