-- The starts under an image, and their number.
use Rattle.std.specs.Prelude.{ℕ, ◌&&◌, List, length, ltb, leb}
use Rattle.outcomes.specs.Search.{keep}
use Rattle.runs.specs.Runs.{Runs, image_of, image_end}

-- the starts under x's image, in the order of the list: those not below the image, and below where it ends
abbrev pub under : ℕ → Runs → ℕ → List ℕ
under n r x = keep (λ s. leb (image_of r x) s && ltb s (image_end n r x)) r.starts

-- the weight of x: how many they are
abbrev pub weight : ℕ → Runs → ℕ → ℕ
weight n r x = length (under n r x)
