-- Two rising lists of numbers as one: a list's starts, and those that cuts added.
use Rattle.std.specs.Prelude.{ℕ, ◌<◌, ◌≡◌, List, ◌++◌, length, get_or}
use Rattle.order.specs.Lists.{All, Strict}
use Rattle.order.specs.Order.{sort_by}

-- the starts of a list and those that cuts added, in rising order
unfoldable pub merged : List ℕ → List ℕ → List ℕ
merged starts cuts = sort_by (λ s. s) (cuts ++ starts)

-- starts and cuts of one list
pub record Starts (n : ℕ) (starts cuts : List ℕ) : Type 0 where
  pub some : 0 < length starts
  pub first : get_or starts 0 0 ≡ 0
  pub starts_rise : Strict starts
  pub cuts_rise : Strict cuts
  pub all_rise : Strict (merged starts cuts)
  pub below : All (λ s. s < n) (merged starts cuts)
