use Rattle.std.proofs.Common.{length}
use Rattle.holders.specs.Parts.{Noted}
use Rattle.holders.proofs.buckets.note_runs.Given as goal

abbrev pub invariant-loop-x : goal.invariant-loop-x
invariant-loop-x l = Noted (length l.starts) l.scale l.starts l.tops l.x
