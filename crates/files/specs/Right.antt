-- Which files are right, by plain facts. That exactly these are accepted is proved (proofs/Accepted).
use Rattle.std.specs.Prelude.{ℕ, ◌+◌, ◌*◌, ◌≤◌, ◌≡◌, ◌≢◌, List, length}
use Rattle.runs.specs.Runs.{count_of}
use Rattle.runs.specs.Legal.{IntervalSequence}
use Rattle.runs.specs.Check.{max_runs}
use Rattle.files.specs.Words.{word_of, runs_of}

-- A header is right where the file has room for it, it says some places and some runs, the starts stand behind it and
-- the images behind the starts, 4 bytes each, and the file has as many bytes as that makes.
pub record RightHeader (bytes : List ℕ) : Type 0 where
  pub room : 20 ≤ length bytes
  pub places : word_of bytes 0 ≢ 0
  pub some : word_of bytes 1 ≢ 0
  pub starts_offset : word_of bytes 3 ≡ 20
  pub images_offset : word_of bytes 4 ≡ 20 + 4 * word_of bytes 1
  pub byte_count : length bytes ≡ 20 + 8 * word_of bytes 1

-- A file is right where its header is, its list is a disjoint interval sequence of at most 16,384 runs, and d lies from
-- 2 to 64.
pub record RightFile (bytes : List ℕ) : Type 0 where
  pub header : RightHeader bytes
  pub list : IntervalSequence (word_of bytes 0) (runs_of bytes)
  pub few : count_of (runs_of bytes) ≤ max_runs
  pub low : 2 ≤ word_of bytes 2
  pub high : word_of bytes 2 ≤ 64
