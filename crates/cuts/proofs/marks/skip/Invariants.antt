-- The mark is as many entries on, and all of them are below `to`.
use Rattle.std.proofs.Common.{◌≡◌, ◌+◌, ◌≤◌}
use Rattle.order.specs.Lists.{count_below}
use Rattle.merging.specs.Merged.{merged}
use Rattle.merging.specs.Marks.{At}
use Rattle.cuts.proofs.marks.skip.Given as goal

abbrev pub invariant-loop : goal.invariant-loop
invariant-loop l =
    At l.entries.n l.entries.starts.now l.entries.cuts.now l.at (l.at.starts + l.at.cuts)
    × (l.at.starts + l.at.cuts ≡ l.fn.mark.starts + l.fn.mark.cuts + l.counter)
    × (l.at.starts + l.at.cuts ≤ count_below l.to (merged l.entries.starts.now l.entries.cuts.now))
