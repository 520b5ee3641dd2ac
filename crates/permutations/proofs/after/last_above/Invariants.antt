-- What is left to search has the same last value above v as the whole.
use Rattle.std.proofs.Common.{◌≡◌, ◌-◌, ◌<◌}
use Rattle.permutations.specs.Values.{value_at}
use Rattle.permutations.specs.Next.{last_above, exchange_of}
use Rattle.permutations.proofs.after.last_above.Given as goal

abbrev pub invariant-loop-i : goal.invariant-loop-i
invariant-loop-i l =
    (l.ascent < l.i) × (last_above l.values (value_at l.values (l.ascent - 1)) (l.i - 1) ≡ exchange_of l.values l.ascent)
