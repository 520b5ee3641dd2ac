-- The runs of a list in rising order of image, and the place that an image's place comes from.
use Rattle.std.specs.Prelude.{ℕ, ◌+◌, ◌-◌, ◌<◌, ◌≤◌, ◌≡◌, List, map, length}
use Rattle.order.specs.Lists.{Sorted, count_below}
use Rattle.order.specs.Order.{order_of}
use Rattle.runs.specs.Legal.{Legal}
use Rattle.runs.specs.Runs.{Runs, count_of, start_of, image_of, map_of}
use Rattle.cuts.specs.declared.Origin.{Origin}

-- the runs of a legal list in rising order of image, and their images in that order
pub record Ranked (n : ℕ) (r : Runs) (order ranked : List ℕ) : Type 0 where
  pub legal : Legal n r
  pub order_is : order ≡ order_of r.images
  pub ranked_is : ranked ≡ map (image_of r) (order_of r.images)

-- the rank of q among sorted images is that of an entry of the order
pub record Ranking (order ranked : List ℕ) (q : ℕ) : Type 0 where
  pub sorted : Sorted ranked
  pub some : 0 < count_below (q + 1) ranked
  pub known : count_below (q + 1) ranked - 1 < length order
  pub fits : q + 1 < 4294967296

-- the list's function sends the place to q, and the run has the place
pub record SentTo (n : ℕ) (r : Runs) (q : ℕ) (origin : Origin) : Type 0 where
  pub known : origin.run < count_of r
  pub from : start_of r origin.run ≤ origin.place
  pub below : origin.place < n
  pub sent : map_of n r origin.place ≡ q
  pub counted : origin.run + 1 ≡ count_below (origin.place + 1) r.starts
