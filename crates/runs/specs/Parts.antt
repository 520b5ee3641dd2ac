-- What the parts of a check ask and promise, `check_order` among them, which crates of our own call.
use Rattle.std.specs.Prelude.{ℕ, suc, ◌≤◌, ◌<◌, ◌≡◌, Bool, ◌&&◌, ◌||◌, List, length, get_or, take, ltb, Option, Result}
use Rattle.order.specs.Order.{order_of}
use Rattle.outcomes.specs.Outcome.{done}
use Rattle.outcomes.specs.Refusal.{says as Refusal·says}
use Rattle.outcomes.specs.Search.{lowest_below}
use Rattle.runs.specs.Runs.{Runs, count_of, image_of}
use Rattle.runs.specs.Check.{overlaps, check_up_to}
use Rattle.outcomes.specs.declared.Refusal.{Refusal}

-- the lowest run with the property, if there is one
abbrev pub lowest_in : (Runs → ℕ → Bool) → Runs → Option ℕ
lowest_in p r = lowest_below (p r) (count_of r)

-- the run at j in the order by image
abbrev pub ranked : Runs → ℕ → ℕ
ranked r j = get_or (order_of r.images) j 0

-- each start lies below the next one, and the last one below n, so that each run has a length
abbrev pub Lasts : ℕ → List ℕ → Type 0
Lasts n starts = (x : ℕ) → x < length starts → get_or starts x 0 < get_or starts (suc x) n

-- so, and each run has an image
pub record Lasting (n : ℕ) (r : Runs) : Type 0 where
  pub paired : length r.images ≡ count_of r
  pub lasting : Lasts n r.starts

-- a table has an entry for each run of a list that is not refused for its many runs
abbrev pub HoldsRuns : ℕ → List ℕ → List ℕ → Type 0
HoldsRuns most starts table = length starts ≤ most → length starts ≤ length table

-- the first entries of `order` are the runs in rising order of image
pub record Ordered (r : Runs) (order : List ℕ) : Type 0 where
  pub paired : length r.images ≡ count_of r
  pub sorted : take (count_of r) order ≡ order_of r.images

-- whether the run at t in that order, with its image up to `end`, shares a place with one before it, whose images end
-- at `reached` at the latest, or with the next one
unfoldable pub meets : Runs → ℕ → ℕ → ℕ → Bool
meets r t reached end =
    ltb (image_of r (ranked r t)) reached || (ltb (suc t) (count_of r) && ltb (image_of r (ranked r (suc t))) end)

-- the lowest run that shares a place, if one does, and the order it was found by
pub record OverlapFound (n : ℕ) (r : Runs) (order : List ℕ) (answer : Option ℕ) : Type 0 where
  pub lowest : answer ≡ lowest_in (overlaps n) r
  pub ordered : Ordered r order

-- the answer of a check, and the order that it leaves of a list that it accepts
pub record OrderChecked (most n : ℕ) (r : Runs) (order : List ℕ) (answer : Result (Unit {0}) Refusal) : Type 0 where
  pub says : Refusal·says answer ≡ check_up_to most n r
  pub ordered : check_up_to most n r ≡ done tt → Ordered r order
