-- Buckets: the places in stretches of about equal length, and for each a run that no holder of its places is above.
use Rattle.std.specs.Prelude.{ℕ, ◌*◌, ◌/◌, ◌≤◌, ◌<◌, List, length, get_or}

-- the bucket of place p
abbrev pub bucket_of : ℕ → ℕ → ℕ
bucket_of scale p = p * scale / 4294967296

-- the places below n lie in the buckets below `size`
pub record Scaled (n size scale : ℕ) : Type 0 where
  pub few : size < 4294967296
  pub inside : (p : ℕ) → p < n → bucket_of scale p < size

-- the runs that start at place p or before it are not above the entry of its bucket, and each entry is a run
pub record Tops (n scale : ℕ) (starts tops : List ℕ) : Type 0 where
  pub scaled : Scaled n (length tops) scale
  pub reach : (p y : ℕ) → p < n → y < length starts → get_or starts y 0 ≤ p → y ≤ get_or tops (bucket_of scale p) 0
  pub known : (b : ℕ) → get_or tops b 0 < length starts
