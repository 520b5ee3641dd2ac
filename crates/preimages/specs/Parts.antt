-- What the private functions search for.
use Rattle.std.specs.Prelude.{ℕ, ◌-◌, Bool, ◌&&◌, List, get_or, ltb, leb}

-- whether the image of x, which is as long as x, has j: what `sends` comes to without the starts (proofs/Sources)
unfoldable pub image_has : List ℕ → List ℕ → ℕ → ℕ → Bool
image_has images lengths j x = leb (get_or images x 0) j && ltb (j - get_or images x 0) (get_or lengths x 0)
