-- Balancing (document 01, "Balancing"): cut heavy intervals until none is left.
use Rattle.std.specs.Prelude.{ℕ, zero, suc, ◌-◌, ◌*◌, ◌/◌, Bool, true, false, not, ◌&&◌, get_or, ltb, leb}
use Rattle.outcomes.specs.Search.{first_below, any_below, insert_at}
use Rattle.runs.specs.Runs.{Runs, runs, count_of, image_of, carry_back}
use Rattle.runs.specs.Weight.{under, weight}

-- heavy: of weight 2d or more
abbrev pub heavy : ℕ → ℕ → Runs → ℕ → Bool
heavy d n r x = leb (2 * d) (weight n r x)

-- whether x is to be cut next: it is heavy, and no heavy interval has a lower image
abbrev pub lowest_heavy : ℕ → ℕ → Runs → ℕ → Bool
lowest_heavy d n r x = heavy d n r x && not (any_below (λ y. heavy d n r y && ltb (image_of r y) (image_of r x)) (count_of r))

-- the interval that is cut next, or the count of intervals where none is heavy
abbrev pub pick : ℕ → ℕ → Runs → ℕ
pick d n r = first_below (lowest_heavy d n r) (count_of r)

-- x cut in two: its second part has image s, and starts as far above x's start as s lies above x's image
abbrev pub cut : Runs → ℕ → ℕ → Runs
cut r x s = runs (insert_at (suc x) (carry_back r x s) r.starts) (insert_at (suc x) s r.images)

-- the start under x's image that has d such starts before it, and the cut of x there
abbrev pub cut_place : ℕ → ℕ → Runs → ℕ → ℕ
cut_place d n r x = get_or (under n r x) d 0

abbrev pub cut_at : ℕ → ℕ → Runs → ℕ → Runs
cut_at d n r x = cut r x (cut_place d n r x)

-- Cuts as long as an interval is heavy, and at most `fuel` of them.
unfoldable pub cutting : ℕ → ℕ → ℕ → Runs → Runs
cutting zero d n r = r
cutting (suc fuel) d n r =
    elim (ltb (pick d n r) (count_of r)) [ true ↦ cutting fuel d n (cut_at d n r (pick d n r)) | false ↦ r ]

-- The balanced list. Of a legal list at most k cuts, where 2 ≤ d, leave no interval heavy (`balanced_light`), so that fuel
-- is never what stops it.
unfoldable pub balanced : ℕ → ℕ → Runs → Runs
balanced d n r = cutting (count_of r) d n r

-- K, how many intervals it has
abbrev pub size_at : ℕ → Runs → ℕ → ℕ
size_at n r d = count_of (balanced d n r)

-- B, the whole part of dk/(d − 1)
abbrev pub bound_of : ℕ → ℕ → ℕ
bound_of d k = d * k / (d - 1)
