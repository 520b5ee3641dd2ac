-- One law for each way to return.
use Rattle.std.proofs.Common.{sym, arith}
use Rattle.permutations.proofs.Changing.{changed_kept, changed_before, changed_other, changed_turned}
use Rattle.permutations.proofs.after.value_after.Goals as goal

pub returns-then-p-ascent : goal.returns-then-p-ascent
returns-then-p-ascent c = sym (changed_kept _ _ _ c.requires.0 _ (omega arith))

pub returns-then-p-ascent-2 : goal.returns-then-p-ascent-2
returns-then-p-ascent-2 c = sym (changed_before _ _ _ c.requires.0 _ (omega arith))

pub returns-then-mirrored-other : goal.returns-then-mirrored-other
returns-then-mirrored-other c = sym (changed_other _ _ _ c.requires.0 _ (omega arith) (omega arith) (omega arith))

pub returns : goal.returns
returns c = sym (changed_turned _ _ _ c.requires.0 _ (omega arith) (omega arith) (λ e. omega arith))
