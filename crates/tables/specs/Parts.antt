-- What is known once tests have passed: the contracts of functions of tables, walks, weights and questions cite it.
use Rattle.std.specs.Prelude.{◌≡◌, ℕ, ◌<◌, ◌≤◌, false, length}
use Rattle.outcomes.specs.Search.{any_below}
use Rattle.runs.specs.Runs.{start_of, end_of}
use Rattle.tables.specs.Tables.{Links, Tables, size_of, max_intervals, misshapen, wrong_at}

-- the links have an entry for each interval
pub record Full (k : Links) : Type 0 where
  pub imaged : length k.list.images ≡ size_of k
  pub held : length k.holders ≡ size_of k

-- what the links show after 9
pub record ShapedLinks (k : Links) : Type 0 where
  pub some : 0 < size_of k
  pub few : size_of k ≤ max_intervals
  pub full : Full k

-- after 9
pub record Shaped (n : ℕ) (t : Tables) : Type 0 where
  pub fits : misshapen n t ≡ false
  pub places : 0 < n
  pub linked : ShapedLinks t.links
  pub measured : length t.lengths ≡ size_of t.links

-- after the test of all lengths
abbrev pub Measured : ℕ → Tables → Type 0
Measured n t = any_below (wrong_at n t) (size_of t.links) ≡ false

-- after 9 and 10
pub record Indexed (n : ℕ) (t : Tables) (x : ℕ) : Type 0 where
  pub shape : Shaped n t
  pub index : x < size_of t.links

-- x has an entry in each column of the links, as it has then
pub record Entered (k : Links) (x : ℕ) : Type 0 where
  pub index : x < size_of k
  pub full : Full k

-- place i lies in interval x by the starts alone: after 9 to 11, and where a move has led
pub record Located (n : ℕ) (k : Links) (x i : ℕ) : Type 0 where
  pub entered : Entered k x
  pub few : size_of k ≤ max_intervals
  pub place : i < n
  pub low : start_of k.list x ≤ i
  pub high : i < end_of n k.list x

-- the same in tables of the right shape
pub record Stands (n : ℕ) (t : Tables) (x i : ℕ) : Type 0 where
  pub shape : Shaped n t
  pub at : Located n t.links x i
