-- What is promised of legal lists beside the demands (document 01, "The collection's objects", and what "Balancing" says of the
-- inverse list). Proved in proofs/LegalLists.
use Rattle.std.specs.Prelude.{ℕ, ◌+◌, ◌-◌, ◌^◌, ◌≤◌, ◌<◌, ◌≡◌, ◌↔◌, List, Result, pos, negsuc, nat_abs, take, drop}
use Rattle.order.specs.Lists.{sum_of, up_to}
use Rattle.outcomes.specs.Outcome.{done}
use Rattle.outcomes.specs.Refusal.{says}
use Rattle.outcomes.specs.declared.Refusal.{Refusal}
use Rattle.runs.specs.Runs.{Runs, runs, count_of, start_of, image_of, end_of, length_of, image_end, shift_of, map_of}
use Rattle.runs.specs.Legal.{Legal}
use Rattle.runs.specs.Check.{max_runs, check_of}
use Rattle.lists.specs.Inverse.{inverse_runs, InverseListed}

pub record LegalLists : Type 0 where
  -- check accepts the legal lists of at most 16,384 runs, and no others
  pub accepted : (n : ℕ) (r : Runs) → (check_of n r ≡ done tt) ↔ ((count_of r ≤ max_runs) × Legal n r)
  -- "The lengths add up to n, so the images then cover each place once": one run's image has it, and no other's
  pub lengths : (n : ℕ) (r : Runs) → Legal n r → sum_of (length_of n r) (up_to (count_of r)) ≡ n
  pub covered : (n : ℕ) (r : Runs) → Legal n r → (p : ℕ) → p < n
      → (x : ℕ) × (x < count_of r) × (image_of r x ≤ p) × (p < image_end n r x)
      × ((y : ℕ) → y < count_of r → image_of r y ≤ p → p < image_end n r y → y ≡ x)
  -- a place in run x is sent to the image plus the place minus the start
  pub sent : (n : ℕ) (r : Runs) → Legal n r → (x p : ℕ) → x < count_of r → start_of r x ≤ p → p < end_of n r x
      → map_of n r p ≡ image_of r x + (p - start_of r x)
  -- a shift lies from −4,294,967,294 to 4,294,967,294, and both ends occur
  pub shifts : (n : ℕ) (r : Runs) → Legal n r → n < 2 ^ 32 → (x : ℕ) → x < count_of r → nat_abs (shift_of r x) ≤ 4294967294
  pub lowest_shift : (r : Runs) × Legal 4294967295 r × (x : ℕ) × (x < count_of r) × (shift_of r x ≡ negsuc 4294967293)
  pub highest_shift : (r : Runs) × Legal 4294967295 r × (x : ℕ) × (x < count_of r) × (shift_of r x ≡ pos 4294967294)
  -- the inverse list has each run with start and image exchanged, and is legal, so that it stands in rising order of the old images
  pub inverse_swaps : (n : ℕ) (r : Runs) → Legal n r → (x : ℕ) → x < count_of r
      → (y : ℕ) × (y < count_of (inverse_runs r)) × (start_of (inverse_runs r) y ≡ image_of r x) × (image_of (inverse_runs r) y ≡ start_of r x)
  pub inverse_legal : (n : ℕ) (r : Runs) → Legal n r → Legal n (inverse_runs r) × (count_of (inverse_runs r) ≡ count_of r)
  -- its function is the inverse, on either side; and its own inverse is the list
  pub inverse_after : (n : ℕ) (r : Runs) → Legal n r → (p : ℕ) → p < n → map_of n (inverse_runs r) (map_of n r p) ≡ p
  pub inverse_before : (n : ℕ) (r : Runs) → Legal n r → (q : ℕ) → q < n → map_of n r (map_of n (inverse_runs r) q) ≡ q
  pub inverse_twice : (n : ℕ) (r : Runs) → Legal n r → inverse_runs (inverse_runs r) ≡ r
  -- a call that is done has it in the first k entries of both tables, and leaves the entries beyond
  pub written : (n : ℕ) (r : Runs) (a b a' b' : List ℕ) (o : Result (Unit {0}) Refusal) → InverseListed n r a b a' b' o → says o ≡ done tt
      → let k = count_of r in
      Legal n r × (runs (take k a') (take k b') ≡ inverse_runs r) × (drop k a' ≡ drop k a) × (drop k b' ≡ drop k b)
