-- What the private functions ask and promise.
use Rattle.std.specs.Prelude.{ℕ, ◌+◌, ◌≤◌, ◌<◌, ◌≡◌, List, length, get_or}
use Rattle.order.specs.Lists.{Sorted, count_below}
use Rattle.holders.specs.Buckets.{bucket_of}

-- starts below n, for which there is as much room
pub record Roomy (n : ℕ) (starts room : List ℕ) : Type 0 where
  pub some : 0 < length starts
  pub few : length starts ≤ n
  pub below : (y : ℕ) → y < length starts → get_or starts y 0 < n
  pub fits : length room ≡ length starts

-- there is an entry for the bucket of each start
abbrev pub Bucketed : ℕ → List ℕ → ℕ → Type 0
Bucketed scale starts size = (y : ℕ) → y < length starts → bucket_of scale (get_or starts y 0) < size

-- of the k runs each of the first x is not above the entry of its start's bucket
pub record Noted (k scale : ℕ) (starts tops : List ℕ) (x : ℕ) : Type 0 where
  pub reach : (y : ℕ) → y < x → y ≤ get_or tops (bucket_of scale (get_or starts y 0)) 0
  pub known : (b : ℕ) → get_or tops b 0 < k

-- no entry of l is above one of m at its place or after it, and each bound of l is one of m
pub record Raised (l m : List ℕ) : Type 0 where
  pub reach : (b c : ℕ) → b ≤ c → c < length l → get_or l b 0 ≤ get_or m c 0
  pub bounded : (k : ℕ) → 0 < k → ((b : ℕ) → get_or l b 0 < k) → (b : ℕ) → get_or m b 0 < k

-- the run at `top` is not below the one that has place p
pub record NotBelow (starts : List ℕ) (p top : ℕ) : Type 0 where
  pub sorted : Sorted starts
  pub held : 0 < count_below (p + 1) starts
  pub above : count_below (p + 1) starts ≤ top + 1
  pub known : top < length starts
