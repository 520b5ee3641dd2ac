-- A mark moved on by many entries.
use Rattle.std.specs.Prelude.{ℕ, ◌+◌, ◌*◌, ◌≤◌, ◌<◌, ◌≡◌, true, false, List, get_or}
use Rattle.order.specs.Lists.{count_below}
use Rattle.merging.specs.Merged.{merged, Starts}
use Rattle.merging.specs.Marks.{At}
use Rattle.merging.specs.declared.Mark.{Mark}
use Rattle.cuts.specs.declared.Looked.{Looked}

-- the mark that is `count` entries on, or before the first one that is not below t
pub record Skips (n : ℕ) (starts cuts : List ℕ) (mark : Mark) (count t : ℕ) (to : Mark) : Type 0 where
  pub at : At n starts cuts to (to.starts + to.cuts)
  pub below : to.starts + to.cuts ≤ count_below t (merged starts cuts)
  pub far : to.starts + to.cuts ≤ mark.starts + mark.cuts + count
  pub stopped : to.starts + to.cuts < mark.starts + mark.cuts + count
      → to.starts + to.cuts ≡ count_below t (merged starts cuts)

-- what a look asks: a mark that is not past t
pub record Lookable (n : ℕ) (starts cuts : List ℕ) (mark : Mark) (d t : ℕ) : Type 0 where
  pub known : Starts n starts cuts
  pub at : At n starts cuts mark (mark.starts + mark.cuts)
  pub below : mark.starts + mark.cuts ≤ count_below t (merged starts cuts)
  pub within : t ≤ n
  pub some : 0 < d
  pub most : d ≤ 64

-- r more starts from index `from` on are below t, and if r is less than `most`, no more
pub record Reaches (starts : List ℕ) (from most t r : ℕ) : Type 0 where
  pub few : r ≤ most
  pub below : from + r ≤ count_below t starts
  pub stopped : r < most → from + r ≡ count_below t starts

-- two looks of d entries each, from the mark on: whether 2d of them are below t, and then which one comes after d of them
pub record Looks (n : ℕ) (starts cuts : List ℕ) (mark : Mark) (d t : ℕ) (r : Looked) : Type 0 where
  pub light : r.heavy ≡ false → (count_below t (merged starts cuts) < mark.starts + mark.cuts + 2 * d) × (r.to ≡ t)
  pub weighs : r.heavy ≡ true → (mark.starts + mark.cuts + 2 * d ≤ count_below t (merged starts cuts))
      × (r.to ≡ get_or (merged starts cuts) (mark.starts + mark.cuts + d) n)
  pub starts_before : r.mark.starts ≡ count_below r.to starts
  pub cuts_before : r.mark.cuts ≡ count_below r.to cuts
