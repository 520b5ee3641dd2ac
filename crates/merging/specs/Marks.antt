-- Marks in a list's starts and cuts, merged.
use Rattle.std.specs.Prelude.{ℕ, ◌+◌, ◌≤◌, ◌<◌, ◌≡◌, List, length, get_or}
use Rattle.order.specs.Lists.{count_below}
use Rattle.merging.specs.Merged.{merged}
use Rattle.merging.specs.declared.Mark.{Mark}
use Rattle.merging.specs.declared.Stepped.{Stepped}

-- a mark before the merged list's entry m: how many starts and how many cuts come before it
pub record At (n : ℕ) (starts cuts : List ℕ) (mark : Mark) (m : ℕ) : Type 0 where
  pub within : m ≤ length (merged starts cuts)
  pub starts_before : mark.starts ≡ count_below (get_or (merged starts cuts) m n) starts
  pub cuts_before : mark.cuts ≡ count_below (get_or (merged starts cuts) m n) cuts

-- the entry after a mark, or n, and the mark after it where there is one
pub record Follows (n : ℕ) (starts cuts : List ℕ) (mark : Mark) (r : Stepped) : Type 0 where
  pub entry_is : r.entry ≡ get_or (merged starts cuts) (mark.starts + mark.cuts) n
  pub behind : mark.starts + mark.cuts < length (merged starts cuts)
      → At n starts cuts r.mark (mark.starts + mark.cuts + 1)
