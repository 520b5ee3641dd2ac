-- What is left to search has the same last ascent as the whole.
use Rattle.std.proofs.Common.{◌≡◌, ◌-◌}
use Rattle.permutations.specs.Next.{last_ascent, ascent_of}
use Rattle.permutations.proofs.after.last_ascent.Given as goal

abbrev pub invariant-loop-i : goal.invariant-loop-i
invariant-loop-i l = last_ascent l.values (l.i - 1) ≡ ascent_of l.values
