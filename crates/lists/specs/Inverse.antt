-- The inverse list (document 01, "Balancing", its last paragraph).
use Rattle.std.specs.Prelude.{ℕ, List, [], ◌∷◌, map, Result}
use Rattle.order.specs.Order.{order_of}
use Rattle.outcomes.specs.Outcome.{Outcome, judge}
use Rattle.outcomes.specs.Refusal.{says}
use Rattle.runs.specs.Runs.{Runs, runs, start_of, image_of}
use Rattle.runs.specs.Check.{write_tests}
use Rattle.runs.specs.Written.{WritesList}
use Rattle.outcomes.specs.declared.Refusal.{Refusal}

-- each run with start and image exchanged, in rising order of what were the images
unfoldable pub inverse_runs : Runs → Runs
inverse_runs r = runs (map (image_of r) (order_of r.images)) (map (start_of r) (order_of r.images))

unfoldable pub inverse_list_of : ℕ → Runs → List ℕ → List ℕ → Outcome Runs
inverse_list_of n r to_starts to_images = judge (write_tests n r (to_starts ∷ to_images ∷ [])) (inverse_runs r)

-- what `inverse_list` promises
abbrev pub InverseListed : ℕ → Runs → List ℕ → List ℕ → List ℕ → List ℕ → Result (Unit {0}) Refusal → Type 0
InverseListed n r starts images = WritesList says (λ q. tt) (inverse_list_of n r starts images) starts images
