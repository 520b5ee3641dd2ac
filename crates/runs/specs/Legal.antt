-- A legal list as document 01 has it, and the three published forms that the papers name: the disjoint interval sequence in the words
-- of source document 002 and in those of Nishimoto and Tabei, and the split permutation of source document 001. That all four agree
-- is proved (proofs/Intervals, proofs/Sequences, and folds/proofs/Splitting).
use Rattle.std.specs.Prelude.{ℕ, suc, ◌+◌, ◌≤◌, ◌<◌, ◌≡◌, ◌⊎◌, ◌≢◌, List, length, get_or}
use Rattle.runs.specs.Runs.{Runs, count_of, start_of, image_of, length_of, image_end}

-- Legal: starts rise strictly from 0 and stay below n, no image reaches beyond n, and images share no place.
pub record Legal (n : ℕ) (r : Runs) : Type 0 where
  pub some : 0 < count_of r
  pub paired : length r.images ≡ count_of r
  pub first : start_of r 0 ≡ 0
  pub below : (x : ℕ) → x < count_of r → start_of r x < n
  pub rising : (x : ℕ) → suc x < count_of r → start_of r x < start_of r (suc x)
  pub within : (x : ℕ) → x < count_of r → image_end n r x ≤ n
  pub apart : (x y p : ℕ) → x < count_of r → y < count_of r
      → image_of r x ≤ p → p < image_end n r x
      → image_of r y ≤ p → p < image_end n r y → x ≡ y

-- Source 002, counted from 0: k pairs (p, q) with lengths d, where each p is the one before plus its length, and the last
-- plus its length is n; the output intervals, from q up to q + d, do not overlap. That the first p is 0, lengths are at
-- least 1 and output intervals lie within the n places is document 01's.
pub record DisjointIntervals (n : ℕ) (r : Runs) : Type 0 where
  pub lengths : List ℕ
  pub some : 0 < count_of r
  pub paired : length r.images ≡ count_of r
  pub first : start_of r 0 ≡ 0
  pub positive : (x : ℕ) → x < count_of r → 0 < get_or lengths x 0
  pub next : (x : ℕ) → suc x < count_of r → start_of r (suc x) ≡ start_of r x + get_or lengths x 0
  pub last : (x : ℕ) → suc x ≡ count_of r → start_of r x + get_or lengths x 0 ≡ n
  pub inside : (x : ℕ) → x < count_of r → image_of r x + get_or lengths x 0 ≤ n
  pub disjoint : (x y : ℕ) → x < count_of r → y < count_of r → x ≢ y
      → (image_of r x + get_or lengths x 0 ≤ image_of r y) ⊎ (image_of r y + get_or lengths y 0 ≤ image_of r x)

-- Nishimoto and Tabei, in 'Optimal-Time Queries on BWT-Runs Compressed Indexes' as it appeared at ICALP 2021, counted from 0 here:
-- starts rise strictly from 0 and lie below n, and there is an order of the k runs, each once, in which the first image is 0 and each
-- next image is the one before plus that run's length. The text that is supplied as source document 000 has LF-intervals and not this
-- definition.
pub record IntervalSequence (n : ℕ) (r : Runs) : Type 0 where
  pub some : 0 < count_of r
  pub paired : length r.images ≡ count_of r
  pub first : start_of r 0 ≡ 0
  pub rising : (x : ℕ) → suc x < count_of r → start_of r x < start_of r (suc x)
  pub below : (x : ℕ) → x < count_of r → start_of r x < n
  -- the run that stands at j in the order
  pub order : ℕ → ℕ
  pub runs_only : (j : ℕ) → j < count_of r → order j < count_of r
  pub each : (x : ℕ) → x < count_of r → (j : ℕ) × (j < count_of r) × (order j ≡ x)
  pub once : (i j : ℕ) → i < count_of r → j < count_of r → order i ≡ order j → i ≡ j
  pub from : image_of r (order 0) ≡ 0
  pub next : (j : ℕ) → suc j < count_of r → image_of r (order (suc j)) ≡ image_of r (order j) + length_of n r (order j)

-- Source 001: π is a permutation of the n places. The starts are some of these places, which have 0 among them and every place whose
-- value is not one above the value of the place before; the images are the values at the starts. In the source's theorem 1 they are
-- P' and Q'. That they stand in two lists of one length, the starts in rising order, is document 01's.
pub record SplitPermutation (n : ℕ) (π : ℕ → ℕ) (r : Runs) : Type 0 where
  pub inside : (p : ℕ) → p < n → π p < n
  pub one_to_one : (p q : ℕ) → p < n → q < n → π p ≡ π q → p ≡ q
  pub rising : (x : ℕ) → suc x < count_of r → start_of r x < start_of r (suc x)
  pub below : (x : ℕ) → x < count_of r → start_of r x < n
  pub first : (x : ℕ) × (x < count_of r) × (start_of r x ≡ 0)
  pub breaks : (p : ℕ) → suc p < n → π (suc p) ≢ suc (π p) → (x : ℕ) × (x < count_of r) × (start_of r x ≡ suc p)
  pub paired : length r.images ≡ count_of r
  pub values : (x : ℕ) → x < count_of r → image_of r x ≡ π (start_of r x)
