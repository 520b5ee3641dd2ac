-- A run list and its function (document 01, "The collection's objects"). The first place is 0.
use Rattle.std.specs.Prelude.{ℕ, zero, suc, ◌+◌, ◌-◌, ◌<◌, ◌≡◌, Bool, ◌&&◌, List, length, get_or, ltb, leb, ℤ}
use Rattle.std.proofs.Math.IntN.{sub_ℕ}
use Rattle.outcomes.specs.Search.{first_below}
use Rattle.runs.specs.declared.RunList.{RunList}

-- the starts and the images of the runs; n goes beside them
pub record Runs : Type 0 where
  pub starts : List ℕ
  pub images : List ℕ

abbrev pub runs : List ℕ → List ℕ → Runs
runs s i = record { starts = s; images = i }

-- the runs of a list that a caller lends
abbrev pub runs_in : RunList → Runs
runs_in l = runs l.starts.now l.images.now

-- k, the number of runs
abbrev pub count_of : Runs → ℕ
count_of r = length r.starts

abbrev pub start_of : Runs → ℕ → ℕ
start_of r x = get_or r.starts x 0

abbrev pub image_of : Runs → ℕ → ℕ
image_of r x = get_or r.images x 0

-- a run ends where the next one starts, and the last one at n
abbrev pub end_of : ℕ → Runs → ℕ → ℕ
end_of n r x = get_or r.starts (suc x) n

abbrev pub length_of : ℕ → Runs → ℕ → ℕ
length_of n r x = end_of n r x - start_of r x

-- where the image of run x ends
abbrev pub image_end : ℕ → Runs → ℕ → ℕ
image_end n r x = image_of r x + length_of n r x

-- the shift of a run, how far it takes its places: its image minus its start, an integer
abbrev pub shift_from : ℕ → ℕ → ℤ
shift_from start image = sub_ℕ image start

abbrev pub shift_of : Runs → ℕ → ℤ
shift_of r x = shift_from (start_of r x) (image_of r x)

-- whether run x has place p, and the run that has p
abbrev pub has : ℕ → Runs → ℕ → ℕ → Bool
has n r p x = leb (start_of r x) p && ltb p (end_of n r x)

abbrev pub run_at : ℕ → Runs → ℕ → ℕ
run_at n r p = first_below (has n r p) (count_of r)

-- how far place p lies from the start of run x, by the starts alone (source document 001 calls it the offset)
abbrev pub distance_in : List ℕ → ℕ → ℕ → ℕ
distance_in starts x p = p - get_or starts x 0

-- where run x takes place p, and the list's function, which takes each place by the run that has it
abbrev pub carry : Runs → ℕ → ℕ → ℕ
carry r x p = image_of r x + distance_in r.starts x p

abbrev pub map_of : ℕ → Runs → ℕ → ℕ
map_of n r p = carry r (run_at n r p) p

-- two lists of one length n have one permutation: they take each place below n to one and the same
abbrev pub SamePermutation : ℕ → Runs → Runs → Type 0
SamePermutation n r q = (p : ℕ) → p < n → map_of n r p ≡ map_of n q p

-- the place of run x that j would come from: as far above x's start as j lies above x's image
abbrev pub carry_back : Runs → ℕ → ℕ → ℕ
carry_back r x j = start_of r x + (j - image_of r x)

-- the function applied m times
unfoldable pub power_of : ℕ → Runs → ℕ → ℕ → ℕ
power_of n r zero p = p
power_of n r (suc m) p = map_of n r (power_of n r m p)
